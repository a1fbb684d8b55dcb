use Rattle.std.proofs.Common.{◌≡◌, ◌+◌, ℕ, List, refl, sym, ap, ◌∙◌, arith}
use Rattle.smbd_base.specs.Fields.{u32_at}
use Rattle.file_transfer.proofs.GetRequestsLemmas.{stand-taken, offset-few}
use Rattle.file_transfer.proofs.get_requests.GetRequests.reply.Goals as goal

pub overflow_add-self : goal.overflow_add-self
overflow_add-self c =
    let q = c.requires in
    omega (arith, offset-few q.channel q.past c.args.self.now q.stands, c.sent-sent.ensures, c.sent-sent.type_inv, c.from.ensures, c.u32_at-count.type_inv)

pub returns-clause-after : goal.returns-clause-after
returns-clause-after c = λ channel past stands.
    let count : c.u32_at-count.result ≡ u32_at 8 c.args.message.now = c.u32_at-count.ensures ∙ ap (λ (m : List ℕ). u32_at 8 m) c.bytes.ensures in
    stand-taken channel past c.args.self.now _ c.args.message.now stands (sym (c.in_ok-pages.ensures.answer past stands.asked)) (c.reply.ensures.after past stands.asked)
    (ap (λ (n : ℕ). c.args.self.now.offset + n) (c.from.ensures ∙ count)) count refl
