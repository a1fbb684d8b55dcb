use Rattle.smbd_base.proofs.PagesFitLaws.{lists-fit}
use Rattle.copy_laws.proofs.Fitting.{workers-fit}
use Rattle.copy_laws.proofs.laws.lists_of_workers_fit.Goals as goal

pub returns : goal.returns
returns c = workers-fit lists-fit
