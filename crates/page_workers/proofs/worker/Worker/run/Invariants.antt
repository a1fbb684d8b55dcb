use Rattle.std.proofs.Common.{◌≡◌, ◌+◌, length}
use Rattle.page_workers.specs.Workers.{WentOn, HasFinished}
use Rattle.page_workers.proofs.worker.Worker.run.Given as goal

abbrev pub invariant-loop : goal.invariant-loop
invariant-loop l = record {
  went : WentOn l.initial.self l.self l.initial.region l.region;
  tries : HasFinished l.counter l.initial.self l.self l.initial.region l.region;
  count : length l.self.done ≡ length l.initial.self.done + l.counter;
}
