use Rattle.credit_ledger.proofs.Spending.{frames_may_be_spent}
use Rattle.credit_ledger.proofs.laws.due_frames_may_be_spent.Goals as goal

pub returns : goal.returns
returns c = frames_may_be_spent
