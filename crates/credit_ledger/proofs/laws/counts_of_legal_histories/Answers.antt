use Rattle.credit_ledger.proofs.Recording.{recorded-legal}
use Rattle.credit_ledger.proofs.laws.counts_of_legal_histories.Goals as goal

pub returns : goal.returns
returns c = recorded-legal
