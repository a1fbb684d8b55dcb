use Rattle.copy_runs.proofs.CopiesEnd.{copies-end}
use Rattle.copy_runs.proofs.endings.copies_end.Goals as goal

pub returns : goal.returns
returns c = copies-end
