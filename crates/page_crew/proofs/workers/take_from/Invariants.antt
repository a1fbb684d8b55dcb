use Rattle.std.proofs.Common.{◌≡◌, take}
use Rattle.page_crew.specs.Crews.{HasNone}
use Rattle.page_crew.proofs.workers.take_from.Given as goal

abbrev pub invariant-loop-worker : goal.invariant-loop-worker
invariant-loop-worker l = record {
  same : l.worker-items ≡ l.initial.worker-items;
  none : HasNone (take l.worker-index l.initial.worker-items);
}
