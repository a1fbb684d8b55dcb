-- The bytes so far count up from the first one, and there is room for the rest.
use Rattle.std.proofs.Common.{◌≡◌, ◌≤◌}
use Rattle.sim_script.specs.Scripts.{counted_bytes}
use Rattle.sim_script.proofs.script.counted_message.Given as goal

abbrev pub invariant-loop-i : goal.invariant-loop-i
invariant-loop-i l = record {
  counted : l.bytes.items ≡ counted_bytes l.i l.first;
  so_many : l.bytes.len ≡ l.i;
  room : l.length ≤ l.bytes.cap;
}
