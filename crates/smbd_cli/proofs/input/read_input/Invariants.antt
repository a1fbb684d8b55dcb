-- All that was read is in the buffer, and the count has not fallen.
use Rattle.std.proofs.Common.{[], length, ◌-◌, ◌≤◌}
use Rattle.smbd_outside.specs.Streams.{Gains}
use Rattle.smbd_cli.proofs.input.read_input.Given as goal

abbrev pub invariant-loop-bytes : goal.invariant-loop-bytes
invariant-loop-bytes g l = record {
  so_far : Gains (g.S.Source.left l.fn.source) (g.S.Source.left l.source) [] l.bytes.items;
  within : length l.bytes.items ≤ 16777217;
  later : g.S.Source.faults l.fn.source ≤ g.S.Source.faults l.source;
}

abbrev pub decreases-loop-bytes : goal.decreases-loop-bytes
decreases-loop-bytes g l = 16777217 - length l.bytes.items
