use Rattle.std.proofs.Common.{◌≡◌, true, take, drop}
use Rattle.page_workers.specs.Workers.{HaveRun}
use Rattle.page_workers.proofs.run.run_workers.Given as goal

abbrev pub invariant-loop-worker : goal.invariant-loop-worker
invariant-loop-worker l = record {
  front : HaveRun (take l.worker-index l.initial.worker-items) (take l.worker-index l.worker-items) l.initial.region l.region true;
  rest : drop l.worker-index l.worker-items ≡ drop l.worker-index l.initial.worker-items;
}
