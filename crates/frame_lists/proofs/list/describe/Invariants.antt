-- What is left to read has the first bad line, and the rest of the description; each line took a byte at least.
use Rattle.std.proofs.Common.{◌≡◌, ◌+◌, ◌≤◌, ◌++◌, length, string_bytes}
use Rattle.sim_script.specs.Scripts.{lines_in}
use Rattle.frame_lists.specs.Frames.{bad_line_from, first_bad_frame_line, frames_in, description, description_of}
use Rattle.frame_lists.proofs.list.describe.Given as goal

abbrev pub invariant-loop-line : goal.invariant-loop-line
invariant-loop-line l = record {
  bad : first_bad_frame_line l.text ≡ bad_line_from (l.number + 1) (lines_in l.rest);
  described : description_of l.text ≡ string_bytes l.description ++ description l.awaited (frames_in (lines_in l.rest));
  counted : l.number + length l.rest ≤ length l.text;
}

abbrev pub decreases-loop-line : goal.decreases-loop-line
decreases-loop-line l = length l.rest
