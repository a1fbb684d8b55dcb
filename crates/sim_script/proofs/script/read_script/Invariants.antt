-- What is left to read has the first bad line, and the rest of the choices; each line took a byte at least.
use Rattle.std.proofs.Common.{◌≡◌, ◌+◌, ◌≤◌, ◌++◌, length}
use Rattle.sim_script.specs.Scripts.{lines_in, bad_line_from, first_bad_line, choices_in, script_of}
use Rattle.sim_script.proofs.script.read_script.Given as goal

abbrev pub invariant-loop-line : goal.invariant-loop-line
invariant-loop-line l = record {
  bad : first_bad_line l.text ≡ bad_line_from (l.number + 1) (lines_in l.rest);
  choices : script_of l.text ≡ l.choices.items ++ choices_in (lines_in l.rest);
  few : length l.choices.items + length l.rest ≤ length l.text;
  counted : l.number + length l.rest ≤ length l.text;
}

abbrev pub decreases-loop-line : goal.decreases-loop-line
decreases-loop-line l = length l.rest
