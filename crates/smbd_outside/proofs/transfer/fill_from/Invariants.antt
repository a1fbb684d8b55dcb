-- The filled part has gained what the source lost, and the count has not fallen.
use Rattle.std.proofs.Common.{length, take, ◌≤◌, ◌-◌}
use Rattle.smbd_outside.specs.Streams.{Gains}
use Rattle.smbd_outside.proofs.transfer.fill_from.Given as goal

abbrev pub invariant-loop-filled : goal.invariant-loop-filled
invariant-loop-filled g l = record {
  so_far : Gains (g.S.Source.left l.initial.source) (g.S.Source.left l.source) (take l.start l.initial.buf) (take l.filled l.buf);
  within : l.filled ≤ length l.buf;
  later : g.S.Source.faults l.initial.source ≤ g.S.Source.faults l.source;
}

abbrev pub decreases-loop-filled : goal.decreases-loop-filled
decreases-loop-filled g l = length l.initial.buf - l.filled
