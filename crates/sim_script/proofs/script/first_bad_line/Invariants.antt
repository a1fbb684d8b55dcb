-- The first bad line is in what is left to read; each line took a byte at least.
use Rattle.std.proofs.Common.{◌≡◌, ◌+◌, ◌≤◌, length}
use Rattle.sim_script.specs.Scripts as spec
use Rattle.sim_script.specs.Scripts.{lines_in, bad_line_from}
use Rattle.sim_script.proofs.script.first_bad_line.Given as goal

abbrev pub invariant-loop-line : goal.invariant-loop-line
invariant-loop-line l = record {
  bad : spec.first_bad_line l.text ≡ bad_line_from (l.number + 1) (lines_in l.rest);
  counted : l.number + length l.rest ≤ length l.text;
}

abbrev pub decreases-loop-line : goal.decreases-loop-line
decreases-loop-line l = length l.rest
