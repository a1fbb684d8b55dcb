use Rattle.empty_frames.proofs.Answering.{answers_or_grants}
use Rattle.empty_frames.proofs.one_end.empty_frames_are_answers_or_grants.Goals as goal

pub returns : goal.returns
returns c = answers_or_grants
