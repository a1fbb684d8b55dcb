use Rattle.std.proofs.Common.{◌≡◌, ℕ, Some, sym, ap, ◌∙◌, arith}
use Rattle.smbd_base.specs.declared.event.Event.{Event}
use Rattle.smbd_base.specs.declared.event.Event.TheVariants.{Post}
use Rattle.connection_core.proofs.HeldLemmas.{Holds-post, Holds-emit, post_due, post_room, emit_room, committed}
use Rattle.connection_core.proofs.end.End.commit.Goals as goal

pub add_post-requires-clause-room : goal.add_post-requires-clause-room
add_post-requires-clause-room c =
    let is : c.self.inside.prepared ≡ Some (Post c.in-Some-Post.field-0-0) =
    sym c.take.ensures.value ∙ c.in-Some-Post.is ∙ ap (λ (e : Event). Some e) c.in-Some-Post.field-0-is in
    omega (arith, post_room c.self.inside.track c.self.inside.outgoing c.self.inside.gather c.self.inside.prepared c.in-Some-Post.field-0-0 c.self.invariant is)

pub add_post-requires-clause-due : goal.add_post-requires-clause-due
add_post-requires-clause-due c =
    let is : c.self.inside.prepared ≡ Some (Post c.in-Some-Post.field-0-0) =
    sym c.take.ensures.value ∙ c.in-Some-Post.is ∙ ap (λ (e : Event). Some e) c.in-Some-Post.field-0-is in
    (post_due c.self.inside.track c.self.inside.outgoing c.self.inside.gather c.self.inside.prepared c.in-Some-Post.field-0-0 c.self.invariant is).0

pub invariant_of-self : goal.invariant_of-self
invariant_of-self c =
    let is : c.self.inside.prepared ≡ Some (Post c.in-Some-Post.field-0-0) =
    sym c.take.ensures.value ∙ c.in-Some-Post.is ∙ ap (λ (e : Event). Some e) c.in-Some-Post.field-0-is in
    Holds-post c.self.inside.track c.add_post.new.self c.self.inside.outgoing c.self.inside.gather c.self.inside.prepared c.take.new.self c.in-Some-Post.field-0-0
    c.self.invariant is c.take.ensures.after c.add_post.ensures

pub returns-in-Some-Post-clause-added : goal.returns-in-Some-Post-clause-added
returns-in-Some-Post-clause-added c = λ e was.
    let is : c.self.inside.prepared ≡ Some (Post c.in-Some-Post.field-0-0) =
    sym c.take.ensures.value ∙ c.in-Some-Post.is ∙ ap (λ (e : Event). Some e) c.in-Some-Post.field-0-is in
    let one = (post_due c.self.inside.track c.self.inside.outgoing c.self.inside.gather c.self.inside.prepared c.in-Some-Post.field-0-0 c.self.invariant is).1 in
    committed c.self.inside.track c.add_post.new.self c.args.self.now c.self.inside.prepared c.take.new.self e (Post 1) _
    c.self.view_is (is ∙ ap (λ (n : ℕ). Some (Post n)) one) was c.add_post.ensures c.take.ensures.after

pub returns-in-Some-Post-clause-legal : goal.returns-in-Some-Post-clause-legal
returns-in-Some-Post-clause-legal c =
    let is : c.self.inside.prepared ≡ Some (Post c.in-Some-Post.field-0-0) =
    sym c.take.ensures.value ∙ c.in-Some-Post.is ∙ ap (λ (e : Event). Some e) c.in-Some-Post.field-0-is in
    (Holds-post c.self.inside.track c.add_post.new.self c.self.inside.outgoing c.self.inside.gather c.self.inside.prepared c.take.new.self c.in-Some-Post.field-0-0
    c.self.invariant is c.take.ensures.after c.add_post.ensures).legal

pub add_emit-requires-clause-room : goal.add_emit-requires-clause-room
add_emit-requires-clause-room c =
    omega (
      arith,
      emit_room c.self.inside.track c.self.inside.outgoing c.self.inside.gather c.self.inside.prepared c.in-Some-Emit.frame c.self.invariant
          (sym c.take.ensures.value ∙ c.in-Some-Emit.is ∙ ap (λ (e : Event). Some e) c.in-Some-Emit.field-0-is),
    )

pub invariant_of-self-in-Emit-1 : goal.invariant_of-self-in-Emit-1
invariant_of-self-in-Emit-1 c =
    Holds-emit c.self.inside.track c.add_emit.new.self c.self.inside.outgoing c.send_first.new.outgoing c.begin_next.new.outgoing c.self.inside.gather c.self.inside.prepared c.take.new.self
    c.in-Some-Emit.frame c.self.invariant (sym c.take.ensures.value ∙ c.in-Some-Emit.is ∙ ap (λ (e : Event). Some e) c.in-Some-Emit.field-0-is)
    c.take.ensures.after c.send_first.ensures c.begin_next.ensures c.add_emit.ensures
