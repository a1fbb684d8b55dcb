use Rattle.std.proofs.Common.{◌≡◌, length, Some, None, ◌∷◌, sym, ap, ◌∙◌, arith}
use Rattle.smbd_base.specs.declared.event.Event.TheVariants as events
use Rattle.smbd_base.specs.declared.next.Next.TheVariants as due
use Rattle.smbd_base.specs.History as spec
use Rattle.connection_core.specs.Shown.{Shown}
use Rattle.world_core.proofs.RawLemmas.{has_room, facing_emit}
use Rattle.world_core.proofs.raw_end.RawEnd.step.Goals as goal

pub post-requires : goal.post-requires
post-requires c =
    let end = c.self.inside.end in
    let link = c.self.inside.link in
    let h = c.self.invariant in
    let next : spec.next_event end.side end.limits end.past ≡ due.Post c.in-Post.receives = sym c.in_ok-receives.ensures.next ∙ c.in-Post.is in
    let room = has_room end.side end.limits end.past c.in-Post.receives (length link.waiting) link.free h.lawful h.legal next h.placed in
    let all = h.room in
    omega (arith, room, all)

pub invariant_of-self-in-Emit : goal.invariant_of-self-in-Emit
invariant_of-self-in-Emit c =
    let end = c.self.inside.end in
    let frame = c.in-Emit.field-0 in
    let next : spec.next_event end.side end.limits end.past ≡ due.Emit frame = sym c.in_ok-receives.ensures.next ∙ c.in-Emit.is in
    let prepared : c.next.new.self.prepared ≡ Some (events.Emit frame) = ap (λ (e : Shown). e.prepared) c.in_ok-receives.ensures.prepared ∙ ap spec.due_event c.in-Emit.is in
    facing_emit end c.commit-in-Emit.new.self c.self.inside.link c.self.inside.delivered.items c.self.inside.emitted c.self.inside.taken frame c.self.invariant next
    (next, c.self.invariant.legal)
    (c.commit-in-Emit.ensures.added (events.Emit frame) prepared ∙ ap (λ (e : Shown). record e { past = events.Emit frame ∷ e.past; prepared = None }) c.in_ok-receives.ensures.prepared)
