use Rattle.std.proofs.Common.{◌+◌, ◌<◌, ◌≤◌, ℕ, List, length, take, refl, sym, ◌∙◌, subst, add-one, arith}
use Rattle.std.specs.Prelude.{slice_set}
use Rattle.std.proofs.lemmas.List.{take_all}
use Rattle.page_workers.specs.Workers.{WorkerState}
use Rattle.page_crew.specs.Crews.{HasNone, IsTakenFrom}
use Rattle.page_crew.proofs.InTurn.{none-more, none-stays, one-taken}
use Rattle.page_crew.proofs.workers.take_from.Goals as goal

pub returns-in-Some : goal.returns-in-Some
returns-in-Some c =
    let i = c.loop-worker.worker-index in
    let items = c.loop-worker.worker-items in
    let among : i < length items = omega (arith, c.loop-worker-test.true) in
    subst (λ (ws : List WorkerState). IsTakenFrom c.in-Some.completion ws (slice_set items i c.taken.new.self)) c.loop-worker.invariant.same
    (one-taken items i c.worker-item.result c.taken.new.self c.in-Some.completion among c.in-Some.ensures.taken c.in-Some.ensures.same)

pub loop-worker-preserved : goal.loop-worker-preserved
loop-worker-preserved c =
    let i = c.loop-worker.worker-index in
    let items = c.loop-worker.worker-items in
    let among : i < length items = omega (arith, c.loop-worker-test.true) in
    record {
      same = none-stays items i c.worker-item.result c.taken.new.self c.in-None.ensures.taken c.in-None.ensures.same ∙ c.loop-worker.invariant.same;
      none = subst (λ (ws : List WorkerState). HasNone (take (i + 1) ws)) c.loop-worker.invariant.same
          (subst (λ (n : ℕ). HasNone (take n items)) (sym (add-one i))
          (none-more items i c.worker-item.result among
          (subst (λ (ws : List WorkerState). HasNone (take i ws)) (sym c.loop-worker.invariant.same) c.loop-worker.invariant.none) (c.in-None.ensures.none refl)));
    }

pub returns : goal.returns
returns c =
    let i = c.loop-worker.worker-index in
    let were : length c.args.workers.now ≤ i = omega (arith, c.loop-worker-test.false) in
    (subst (λ (ws : List WorkerState). HasNone ws) (take_all i c.args.workers.now were) c.loop-worker.invariant.none, c.loop-worker.invariant.same)
