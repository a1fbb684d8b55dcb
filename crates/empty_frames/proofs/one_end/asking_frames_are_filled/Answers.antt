use Rattle.empty_frames.proofs.Answering.{asking_filled, asking_sent}
use Rattle.empty_frames.proofs.one_end.asking_frames_are_filled.Goals as goal

pub returns-clause-one : goal.returns-clause-one
returns-clause-one c = asking_filled

pub returns-clause-all : goal.returns-clause-all
returns-clause-all c = asking_sent
