use Rattle.sim_script.proofs.ReadLines.{only_written}
use Rattle.sim_script.proofs.WrittenLines.{read_back}
use Rattle.sim_script.proofs.laws.written_lines_are_read.Goals as goal

pub returns-clause-read : goal.returns-clause-read
returns-clause-read c = read_back

pub returns-clause-alone : goal.returns-clause-alone
returns-clause-alone c = only_written
