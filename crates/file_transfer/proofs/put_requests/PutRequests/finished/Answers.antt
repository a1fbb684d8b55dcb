use Rattle.std.proofs.Common.{◌==◌, ◌&&◌, ℕ, Bool, sym, ap, ◌∙◌}
use Rattle.file_pasts.specs.ClientPast.{are_answered}
use Rattle.file_transfer.proofs.PutRequestsLemmas.{finished-is}
use Rattle.file_transfer.proofs.put_requests.PutRequests.finished.Goals as goal

pub returns-then-self : goal.returns-then-self
returns-then-self c = λ s past stands.
    ap (λ (n : ℕ). n == 0) (c.unanswered.ensures past stands.asked)
    ∙ sym (ap (λ (t : Bool). t && are_answered past) c.if-self.true) ∙ finished-is s past c.args.self.now stands
