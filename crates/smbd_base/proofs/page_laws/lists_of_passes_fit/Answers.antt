use Rattle.smbd_base.proofs.PagesFitLaws.{lists-fit}
use Rattle.smbd_base.proofs.page_laws.lists_of_passes_fit.Goals as goal

pub returns : goal.returns
returns c = lists-fit
