use Rattle.std.proofs.Common.{◌≡◌, map, take, drop}
use Rattle.page_crew.specs.Crews.{told}
use Rattle.page_crew.proofs.workers.clear_all.Given as goal

abbrev pub invariant-loop-worker : goal.invariant-loop-worker
invariant-loop-worker l = record {
  front : take l.worker-index l.worker-items ≡ map told (take l.worker-index l.initial.worker-items);
  rest : drop l.worker-index l.worker-items ≡ drop l.worker-index l.initial.worker-items;
}
