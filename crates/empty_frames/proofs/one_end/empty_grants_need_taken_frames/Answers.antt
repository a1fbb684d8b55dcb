use Rattle.empty_frames.proofs.Granting.{grants_taken}
use Rattle.empty_frames.proofs.one_end.empty_grants_need_taken_frames.Goals as goal

pub returns : goal.returns
returns c = grants_taken
