use Rattle.shared_pages.proofs.OnePast.{one-past, sees-all}
use Rattle.shared_pages.proofs.laws.passes_that_met_have_one_past.Goals as goal

pub returns-clause-past : goal.returns-clause-past
returns-clause-past c = one-past

pub returns-clause-pages : goal.returns-clause-pages
returns-clause-pages c = sees-all
