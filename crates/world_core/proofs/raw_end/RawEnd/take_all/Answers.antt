use Rattle.std.proofs.Common.{◌≡◌, ℕ, ◌+◌, None, List, drop, sym, subst, ap, ◌∙◌, arith}
use Rattle.smbd_base.specs.History.{take_fault}
use Rattle.world_core.specs.Raw.{Facing, Takes}
use Rattle.world_core.proofs.RawLemmas.{IsFurther, further, takes_on, ready_taken}
use Rattle.world_core.proofs.raw_end.RawEnd.take_all.Goals as goal
use Rattle.world_core.proofs.raw_end.RawEnd.take_all.Goals.{After-branch-settle}

pub loop-frame-preserved : goal.loop-frame-preserved
loop-frame-preserved c =
    let first = c.args.self.now in
    let frames = c.args.frames.now in
    let index = c.loop-frame.frame-index in
    let past = c.loop-frame.self.past in
    let inv = c.loop-frame.invariant in
    let h : IsFurther first c.settle.new.self past frames index c.frame-item.result =
    further first c.loop-frame.self c.take.new.self c.settle.new.self frames index c.frame-item.result c.loop-frame-test.true c.frame-item.is inv.waits
    c.in_ok-fault.ensures.taken c.in_ok-settle.ensures.settled c.in_ok-settle.ensures.same c.in_ok-settle.ensures.met in
    let accepted : None ≡ take_fault first.side first.limits past c.frame-item.result =
    sym c.in_default.is ∙ c.in_ok-fault.ensures.fault ∙ ap (λ (f : Facing). take_fault f.side f.limits f.past c.frame-item.result) inv.waits in
    let met = h.met in
    let before = inv.met in
    record {
      course = λ refused after rest.
          inv.course refused after (subst (λ (fs : List (List ℕ)). Takes first.side first.limits past fs refused after) (sym h.left)
          (takes_on first.side first.limits past c.settle.new.self.past after c.frame-item.result (drop (index + 1) frames) refused accepted h.settled rest));
      waits = h.waits;
      ready = ready_taken first.side first.limits past c.settle.new.self.past c.frame-item.result inv.ready (sym accepted) h.settled;
      met = omega arith;
    }
