use Rattle.copy_runs.proofs.CopiesRun.{copies-run}
use Rattle.copy_runs.proofs.runs.copies_run.Goals as goal

pub returns : goal.returns
returns c = copies-run
