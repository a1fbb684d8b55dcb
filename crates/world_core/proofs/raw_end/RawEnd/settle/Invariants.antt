-- What was added came next, and fewer events are left.
use Rattle.std.proofs.Common.{◌≤◌}
use Rattle.world_core.specs.Raw.{frames_met, events_left}
use Rattle.world_core.proofs.RawLemmas.{HasAdded}
use Rattle.world_core.proofs.raw_end.RawEnd.settle.Given as goal

abbrev pub invariant-loop : goal.invariant-loop
invariant-loop l = record {
  added : HasAdded l.initial.self l.self;
  few : frames_met l.self.past ≤ 2147483647;
}

abbrev pub decreases-loop : goal.decreases-loop
decreases-loop l = events_left l.self.past
