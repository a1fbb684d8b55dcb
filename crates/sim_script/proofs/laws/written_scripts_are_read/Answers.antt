use Rattle.sim_script.proofs.ScriptLemmas.{good_script, script_choices}
use Rattle.sim_script.proofs.laws.written_scripts_are_read.Goals as goal

pub returns-clause-good : goal.returns-clause-good
returns-clause-good c = good_script

pub returns-clause-choices : goal.returns-clause-choices
returns-clause-choices c = script_choices
