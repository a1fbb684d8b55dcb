-- The copy goes on, and is settled with what was written so far.
use Rattle.std.proofs.Common.{◌≡◌}
use Rattle.copy_parts.specs.declared.options.CopyOptions.{CopyOptions}
use Rattle.copy_parts.specs.Steps.{groups_waiting}
use Rattle.end_workers.specs.Progress.{GoesOn, IsSettled, moved}
use Rattle.end_workers.specs.Promise.{Stream}
use Rattle.end_workers.proofs.copy.Copy.store.Given as goal

abbrev pub invariant-loop-group : goal.invariant-loop-group
invariant-loop-group g l = record {
  on : GoesOn l.self;
  settled : (o : CopyOptions) (from to log : Stream) → to.now ≡ g.K.Sink.written l.initial.sink → to.faults ≡ g.K.Sink.faults l.initial.sink → IsSettled o from to log l.initial.self
      → IsSettled o from (moved to (g.K.Sink.written l.sink) (g.K.Sink.faults l.sink)) log l.self;
}

abbrev pub decreases-loop-group : goal.decreases-loop-group
decreases-loop-group g l = groups_waiting l.self.options.kind l.self.parts
