use Rattle.std.proofs.Common.{◌≡◌, ℕ, Bool, true, false, cond, Some, None, drop, refl, sym, ap, ◌∙◌}
use Rattle.std.specs.Bool.{then_some}
use Rattle.file_server.proofs.ServerReplies.{wants-is}
use Rattle.file_server.proofs.server.FileServer.wants_source.Goals as goal

some_if : (b : Bool) (n : ℕ) → then_some b n ≡ cond b (Some n) None
some_if true n = refl
some_if false n = refl

pub returns : goal.returns
returns c = λ kind past came.
    c.then_some.ensures ∙ ap (λ (b : Bool). then_some b c.in_ok-request.request.now.length) c.wants.ensures ∙ some_if _ _
    ∙ sym (wants-is kind past c.args.self.now c.in_ok-request.request.now (drop 1 c.args.self.now.waiting.items) came c.in_ok-request.ensures.some)
