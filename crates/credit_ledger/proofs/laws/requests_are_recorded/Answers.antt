use Rattle.credit_ledger.proofs.Recording.{recorded-request}
use Rattle.credit_ledger.proofs.laws.requests_are_recorded.Goals as goal

pub returns-clause-request : goal.returns-clause-request
returns-clause-request c = recorded-request
