use Rattle.empty_frames.proofs.Answering.{answers_asked}
use Rattle.empty_frames.proofs.one_end.empty_answers_were_asked_for.Goals as goal

pub returns : goal.returns
returns c = answers_asked
