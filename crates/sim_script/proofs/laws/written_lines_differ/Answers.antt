use Rattle.sim_script.proofs.WrittenLines.{same_line}
use Rattle.sim_script.proofs.laws.written_lines_differ.Goals as goal

pub returns : goal.returns
returns c = same_line
