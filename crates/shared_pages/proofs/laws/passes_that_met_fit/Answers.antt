use Rattle.shared_pages.proofs.Fitting.{met-fit}
use Rattle.shared_pages.proofs.laws.passes_that_met_fit.Goals as goal

pub returns : goal.returns
returns c = met-fit
