use Rattle.std.proofs.Common.{◌≡◌, ◌+◌, true, Some, None, Option, List, ℕ, ap, sym, subst, ◌∙◌}
use Rattle.smbd_base.specs.declared.event.Event.{Event}
use Rattle.smbd_base.specs.declared.event.Event.TheVariants as events
use Rattle.smbd_base.specs.Delivery.{message_brought}
use Rattle.smbd_base.specs.History as spec
use Rattle.world_core.specs.Attached.{Attached, linked_to, attached_after, HasLooked}
use Rattle.world_core.specs.Linked.{carried, StandsFirst}
use Rattle.world_core.proofs.Looking.{found, next, oldest, carried_is, flies, looked_on, took}
use Rattle.world_core.proofs.linked_end.LinkedEnd.carry.Goals as goal

pub take-requires-clause-fault : goal.take-requires-clause-fault
take-requires-clause-fault c =
    let first : List ℕ = c.in-Some.first.now in
    let h = found c.args.self.now c.args.peer.now.past c.history.result.now c.self.inside.looked c.next_sent.new.looked c.in-Some.first.now
    c.history.ensures.past c.requires.tied.own_looked (ap (λ (a : Attached). a.looked) c.self.view_is) c.in-Some.ensures.same c.in-Some.ensures.found in
    subst (λ (a : Attached). spec.take_fault a.side a.limits a.past c.in_ok-frame.frame ≡ None) (sym c.self.view_is)
    (subst (λ (f : List ℕ). spec.take_fault c.args.self.now.side c.args.self.now.limits c.args.self.now.past f ≡ None) (sym c.in_ok-frame.ensures)
    (c.requires.next.accepted first _ (oldest c.args.self.now c.args.peer.now c.history.result.now c.next_sent.new.looked c.in-Some.first.now h)))

pub take-requires-clause-first : goal.take-requires-clause-first
take-requires-clause-first c =
    let first : List ℕ = c.in-Some.first.now in
    let h = found c.args.self.now c.args.peer.now.past c.history.result.now c.self.inside.looked c.next_sent.new.looked c.in-Some.first.now
    c.history.ensures.past c.requires.tied.own_looked (ap (λ (a : Attached). a.looked) c.self.view_is) c.in-Some.ensures.same c.in-Some.ensures.found in
    let ready = subst (λ (a : Attached). spec.is_ready a.side a.limits a.past ≡ true) c.self.view_is (sym c.ready.ensures ∙ c.if-not-ready.false) in
    subst (λ (a : Attached). StandsFirst (message_brought a.side a.limits a.past c.in_ok-frame.frame) a.undelivered) (sym c.self.view_is)
    (subst (λ (f : List ℕ). StandsFirst (message_brought c.args.self.now.side c.args.self.now.limits c.args.self.now.past f) c.args.self.now.undelivered) (sym c.in_ok-frame.ensures)
    (c.requires.next.brings first _ (oldest c.args.self.now c.args.peer.now c.history.result.now c.next_sent.new.looked c.in-Some.first.now h) ready))

pub take-requires-2-clause-flies : goal.take-requires-2-clause-flies
take-requires-2-clause-flies c =
    let h = found c.args.self.now c.args.peer.now.past c.history.result.now c.self.inside.looked c.next_sent.new.looked c.in-Some.first.now
    c.history.ensures.past c.requires.tied.own_looked (ap (λ (a : Attached). a.looked) c.self.view_is) c.in-Some.ensures.same c.in-Some.ensures.found in
    flies c.args.self.now c.args.peer.now c.history.result.now c.next_sent.new.looked c.in-Some.first.now h
    c.args.link.now c.side-side.result c.side-side.ensures c.requires.tied.sides c.requires.tied.own_told c.requires.tied.peer_told

pub returns-clause-added : goal.returns-clause-added
returns-clause-added c =
    let h = found c.args.self.now c.args.peer.now.past c.history.result.now c.self.inside.looked c.next_sent.new.looked c.in-Some.first.now
    c.history.ensures.past c.requires.tied.own_looked (ap (λ (a : Attached). a.looked) c.self.view_is) c.in-Some.ensures.same c.in-Some.ensures.found in
    let end = c.self.inside.end in
    let n : ℕ = c.next_sent.new.looked + 1 in
    let ready = subst (λ (a : Attached). spec.is_ready a.side a.limits a.past ≡ true) c.self.view_is (sym c.ready.ensures ∙ c.if-not-ready.false) in
    took c.args.self.now end c.take.new.end c.self.inside.undelivered.items c.take.new.undelivered.items c.self.inside.looked n c.in_ok-frame.frame c.in-Some.first.now
    c.self.view_is c.in_ok-frame.ensures c.in_ok-self-inside.ensures.added c.in_ok-self-inside.ensures.left
    ∙ ap (λ (o : Option Event). record (attached_after c.args.self.now o) { looked = n })
    (sym (carried_is c.args.self.now c.args.peer.now c.history.result.now c.next_sent.new.looked c.in-Some.first.now h c.args.link_cut ready c.if-link_cut.false))

pub returns-clause-looked : goal.returns-clause-looked
returns-clause-looked c =
    let h = found c.args.self.now c.args.peer.now.past c.history.result.now c.self.inside.looked c.next_sent.new.looked c.in-Some.first.now
    c.history.ensures.past c.requires.tied.own_looked (ap (λ (a : Attached). a.looked) c.self.view_is) c.in-Some.ensures.same c.in-Some.ensures.found in
    let end = c.self.inside.end in
    let n : ℕ = c.next_sent.new.looked + 1 in
    subst (λ (a : Attached). HasLooked a c.args.peer.now.past)
    (sym (took c.args.self.now end c.take.new.end c.self.inside.undelivered.items c.take.new.undelivered.items c.self.inside.looked n c.in_ok-frame.frame c.in-Some.first.now
    c.self.view_is c.in_ok-frame.ensures c.in_ok-self-inside.ensures.added c.in_ok-self-inside.ensures.left))
    (looked_on c.args.self.now c.args.peer.now c.history.result.now c.next_sent.new.looked c.in-Some.first.now h)
