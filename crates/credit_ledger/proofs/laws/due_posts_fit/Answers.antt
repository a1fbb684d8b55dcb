use Rattle.credit_ledger.proofs.Recording.{posts_fit}
use Rattle.credit_ledger.proofs.laws.due_posts_fit.Goals as goal

pub returns : goal.returns
returns c = posts_fit
