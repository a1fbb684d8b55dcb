use Rattle.copy_laws.proofs.StepsOpened.{opens}
use Rattle.copy_laws.proofs.steps.copies_open_coupled.Goals as goal

pub returns : goal.returns
returns c = opens
