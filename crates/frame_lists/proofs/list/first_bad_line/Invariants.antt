-- The first bad line is in what is left to read; each line took a byte at least.
use Rattle.std.proofs.Common.{◌≡◌, ◌+◌, ◌≤◌, length}
use Rattle.sim_script.specs.Scripts.{lines_in}
use Rattle.frame_lists.specs.Frames.{bad_line_from, first_bad_frame_line}
use Rattle.frame_lists.proofs.list.first_bad_line.Given as goal

abbrev pub invariant-loop-line : goal.invariant-loop-line
invariant-loop-line l = record {
  bad : first_bad_frame_line l.text ≡ bad_line_from (l.number + 1) (lines_in l.rest);
  counted : l.number + length l.rest ≤ length l.text;
}

abbrev pub decreases-loop-line : goal.decreases-loop-line
decreases-loop-line l = length l.rest
