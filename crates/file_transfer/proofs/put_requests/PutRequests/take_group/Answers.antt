use Rattle.std.proofs.Common.{◌==◌, ◌&&◌, ℕ, refl, ap, ◌∙◌}
use Rattle.file_transfer.proofs.PutRequestsLemmas.{stand-group}
use Rattle.file_transfer.proofs.put_requests.PutRequests.take_group.Goals as goal

pub returns : goal.returns
returns c = λ s past bytes stands follows size.
    stand-group s past c.args.self.now _ bytes stands follows (c.whole_with-self.ensures ∙ ap (λ (n : ℕ). c.args.self.now.whole && n == 65536) size) refl refl refl refl
