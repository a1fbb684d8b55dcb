use Rattle.empty_frames.proofs.Answering.{empty_or_filled, all_kinds}
use Rattle.empty_frames.proofs.one_end.frames_are_empty_or_filled.Goals as goal

pub returns-clause-one : goal.returns-clause-one
returns-clause-one c = empty_or_filled

pub returns-clause-all : goal.returns-clause-all
returns-clause-all c = all_kinds
