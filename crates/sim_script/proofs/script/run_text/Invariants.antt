-- What is left to read gives the rest of the run; each line took a byte at least.
use Rattle.std.proofs.Common.{◌≡◌, ◌+◌, ◌≤◌, fold, length}
use Rattle.world_core.specs.Run.{step_of}
use Rattle.sim_script.specs.Scripts.{lines_in, choices_in, script_of}
use Rattle.sim_script.proofs.script.run_text.Given as goal

abbrev pub invariant-loop-line : goal.invariant-loop-line
invariant-loop-line l = record {
  run : fold step_of l.world (choices_in (lines_in l.rest)) ≡ fold step_of l.initial.world (script_of l.text);
  few : length (script_of l.text) + length l.rest ≤ length l.text + length (choices_in (lines_in l.rest));
}

abbrev pub decreases-loop-line : goal.decreases-loop-line
decreases-loop-line l = length l.rest
