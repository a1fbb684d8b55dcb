use Rattle.std.proofs.Common.{refl}
use Rattle.std.specs.Fmt.{digits}
use Rattle.event_log.specs.Reading.{number_in}
use Rattle.sim_script.specs.Scripts.{word_named, end_named, submit_of, script_line, lines_in}
use Rattle.sim_script.proofs.worked.worked_scripts.Goals as goal

pub returns-clause-scripts : goal.returns-clause-scripts
unfolding word_named end_named submit_of script_line lines_in number_in digits
returns-clause-scripts c = record { all_good = refl; choices = refl; second_bad = refl; no_lines = refl; no_choices = refl }

pub returns-clause-faults : goal.returns-clause-faults
unfolding word_named end_named submit_of script_line lines_in number_in digits
returns-clause-faults c = record {
  no_bytes = refl;
  too_long = refl;
  leading_zero = refl;
  no_byte = refl;
  lower_case = refl;
  two_spaces = refl;
  space_at_end = refl;
  empty = refl;
}
