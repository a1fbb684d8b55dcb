use Rattle.std.proofs.Common.{◌+◌, ℕ, refl, ap}
use Rattle.file_transfer.proofs.PutRequestsLemmas.{stand-sent}
use Rattle.file_transfer.proofs.put_requests.PutRequests.ask.Goals as goal

pub returns : goal.returns
returns c = λ s past r stands due is.
    stand-sent s past c.args.self.now _ r c.args.request stands due is (c.ask.ensures past r stands.asked is) (ap (λ (n : ℕ). c.args.self.now.offset + n) c.from.ensures) refl refl refl
