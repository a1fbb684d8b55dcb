-- The copy goes on uncut, and all that came before is stored, with what was read so far.
use Rattle.std.proofs.Common.{◌≡◌}
use Rattle.copy_parts.specs.declared.options.CopyOptions.{CopyOptions}
use Rattle.end_workers.specs.Progress.{GoesOn, StaysUncut, bytes_left, moved}
use Rattle.end_workers.specs.Promise.{Stream}
use Rattle.end_workers.proofs.copy.Copy.read.Given as goal

abbrev pub invariant-loop-self : goal.invariant-loop-self
invariant-loop-self g l = record {
  on : GoesOn l.self;
  stored : (o : CopyOptions) (from to log : Stream) → from.now ≡ g.S.Source.left l.initial.source → from.faults ≡ g.S.Source.faults l.initial.source → StaysUncut o from to log l.initial.self
      → StaysUncut o (moved from (g.S.Source.left l.source) (g.S.Source.faults l.source)) to log l.self;
}

abbrev pub decreases-loop-self : goal.decreases-loop-self
decreases-loop-self g l = bytes_left l.self
