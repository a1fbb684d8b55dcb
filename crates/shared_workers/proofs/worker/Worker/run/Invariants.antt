use Rattle.std.proofs.Common.{◌≡◌, ◌≢◌, ◌≤◌, ◌+◌, None, length}
use Rattle.completion_ring.specs.Rings.{free}
use Rattle.shared_pages.specs.Calls.{known_by, opening_of, IsOf}
use Rattle.shared_workers.specs.Workers.{finished, WentOn, HasFinished}
use Rattle.shared_workers.proofs.worker.Worker.run.Given as goal

abbrev pub invariant-loop : goal.invariant-loop
invariant-loop l = record {
  own : IsOf l.region.pages l.self.pass;
  few : length (known_by l.self.pass).made ≤ length (known_by l.initial.self.pass).made + l.counter;
  went : WentOn l.initial.self l.self;
  tries : HasFinished (opening_of l.region.pages) l.counter l.initial.self l.self;
  count : length (finished l.self) ≡ length (finished l.initial.self) + l.counter;
  full : 1 ≤ l.counter → l.self.unsent ≢ None → free l.self.done ≡ 0;
}
