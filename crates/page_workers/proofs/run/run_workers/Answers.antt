use Rattle.std.proofs.Common.{◌≡◌, ◌<◌, ℕ, length, take, drop, true, sym, subst, add-one, arith}
use Rattle.std.specs.Prelude.{slice_set}
use Rattle.page_workers.specs.Workers.{HaveRun}
use Rattle.page_workers.proofs.WentLemmas.{turn-more, turn-stops, rest-more}
use Rattle.page_workers.proofs.run.run_workers.Goals as goal

pub returns-in-Err : goal.returns-in-Err
returns-in-Err c =
    turn-stops c.args.workers.now c.loop-worker.worker-items c.loop-worker.worker-index c.worker-item.result c.run.new.self c.args.region.now c.loop-worker.region c.run.new.region
    (let among : c.loop-worker.worker-index < length c.loop-worker.worker-items = omega (arith, c.loop-worker-test.true) in among)
    c.loop-worker.invariant.front c.loop-worker.invariant.rest c.in-Err.ensures

pub loop-worker-preserved : goal.loop-worker-preserved
loop-worker-preserved c =
    let i = c.loop-worker.worker-index in
    let items = c.loop-worker.worker-items in
    let news = slice_set items i c.run.new.self in
    let among : i < length items = omega (arith, c.loop-worker-test.true) in
    record {
      front = subst (λ (n : ℕ). HaveRun (take n c.args.workers.now) (take n news) c.args.region.now c.run.new.region true) (sym (add-one i))
          (turn-more c.args.workers.now items i c.worker-item.result c.run.new.self c.args.region.now c.loop-worker.region c.run.new.region
          among c.loop-worker.invariant.front c.loop-worker.invariant.rest c.in-Ok.ensures);
      rest = subst (λ (n : ℕ). drop n news ≡ drop n c.args.workers.now) (sym (add-one i)) (rest-more c.args.workers.now items i c.run.new.self among c.loop-worker.invariant.rest);
    }
