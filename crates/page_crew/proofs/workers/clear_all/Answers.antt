use Rattle.std.proofs.Common.{◌≡◌, ◌<◌, ◌≤◌, ℕ, List, length, take, drop, map, sym, ap, ◌∙◌, subst, add-one, arith}
use Rattle.std.specs.Prelude.{slice_set}
use Rattle.std.proofs.lemmas.List.{take_all}
use Rattle.page_workers.proofs.WentLemmas.{rest-more}
use Rattle.page_workers.specs.Workers.{WorkerState}
use Rattle.page_crew.specs.Crews.{told}
use Rattle.page_crew.proofs.InTurn.{told-more}
use Rattle.page_crew.proofs.workers.clear_all.Goals as goal

pub loop-worker-preserved : goal.loop-worker-preserved
loop-worker-preserved c =
    let i = c.loop-worker.worker-index in
    let items = c.loop-worker.worker-items in
    let news = slice_set items i c.clear_lines.new.self in
    let among : i < length items = omega (arith, c.loop-worker-test.true) in
    record {
      front = subst (λ (n : ℕ). take n news ≡ map told (take n c.args.workers.now)) (sym (add-one i))
          (told-more c.args.workers.now items i c.worker-item.result c.clear_lines.new.self among c.loop-worker.invariant.front c.loop-worker.invariant.rest c.clear_lines.ensures);
      rest = subst (λ (n : ℕ). drop n news ≡ drop n c.args.workers.now) (sym (add-one i)) (rest-more c.args.workers.now items i c.clear_lines.new.self among c.loop-worker.invariant.rest);
    }

pub returns : goal.returns
returns c =
    let i = c.loop-worker.worker-index in
    let whole : length c.loop-worker.worker-items ≡ length c.args.workers.now = c.loop-worker.auto.worker-items in
    let all : length c.loop-worker.worker-items ≤ i = omega (arith, whole, c.loop-worker-test.false) in
    let were : length c.args.workers.now ≤ i = omega (arith, c.loop-worker-test.false) in
    sym (take_all i c.loop-worker.worker-items all) ∙ c.loop-worker.invariant.front
    ∙ ap (λ (ws : List WorkerState). map told ws) (take_all i c.args.workers.now were)
