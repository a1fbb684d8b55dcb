use Rattle.copy_runs.proofs.RequestsFew.{requests-are-few}
use Rattle.copy_runs.proofs.endings.requests_are_few.Goals as goal

pub returns : goal.returns
returns c = requests-are-few
