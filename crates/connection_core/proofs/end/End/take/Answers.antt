use Rattle.std.proofs.Common.{◌≡◌, true, sym, subst, refl, ◌∙◌}
use Rattle.smbd_base.specs.History.{is_ready}
use Rattle.connection_core.specs.Shown.{Shown}
use Rattle.connection_core.proofs.HeldLemmas.{Holds-refused, Holds-take}
use Rattle.connection_core.proofs.end.End.take.Goals as goal

pub invariant_of-self : goal.invariant_of-self
invariant_of-self c =
    let ready = subst (λ (s : Shown). is_ready s.side s.limits s.past ≡ true) (sym c.self.view_is) c.requires in
    Holds-take c.self.inside.track c.brought.new.track c.add_take.new.self c.self.inside.outgoing c.begin_next.new.outgoing c.self.inside.gather c.brought.new.gather c.self.inside.prepared _
    c.args.frame c.self.invariant ready refl c.brought.ensures.track c.in-Ok.ensures.room c.in-Ok.ensures.added c.add_take.ensures c.begin_next.ensures

pub invariant_of-self-in-Ok-copied : goal.invariant_of-self-in-Ok-copied
invariant_of-self-in-Ok-copied c =
    let ready = subst (λ (s : Shown). is_ready s.side s.limits s.past ≡ true) (sym c.self.view_is) c.requires in
    Holds-refused c.self.inside.track c.copied.new.track c.add_take-in-Ok-copied.new.self c.self.inside.outgoing c.self.inside.gather c.self.inside.prepared
    c.args.frame c.in-Some.fault c.self.invariant ready (sym c.take_fault-refusal.ensures ∙ c.in-Some.is) c.copied.ensures.track c.in-Ok-copied.ensures.room c.add_take-in-Ok-copied.ensures
