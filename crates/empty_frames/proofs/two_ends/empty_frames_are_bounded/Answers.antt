use Rattle.empty_frames.proofs.Bounding.{bounded, bounded_lawful}
use Rattle.empty_frames.proofs.two_ends.empty_frames_are_bounded.Goals as goal

pub returns-clause-any : goal.returns-clause-any
returns-clause-any c = bounded

pub returns-clause-lawful : goal.returns-clause-lawful
returns-clause-lawful c = bounded_lawful
