use Rattle.credit_ledger.proofs.Recording.{silent_one}
use Rattle.credit_ledger.proofs.laws.silent_ends_hold_one.Goals as goal

pub returns : goal.returns
returns c = silent_one
