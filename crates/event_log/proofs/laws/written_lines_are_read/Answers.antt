use Rattle.event_log.proofs.WrittenLines.{read_back}
use Rattle.event_log.proofs.ReadLines.{only_written}
use Rattle.event_log.proofs.laws.written_lines_are_read.Goals as goal

pub returns-clause-read : goal.returns-clause-read
returns-clause-read c = read_back

pub returns-clause-alone : goal.returns-clause-alone
returns-clause-alone c = λ bytes side line h. let w = only_written bytes side line h in (w.lawful, w.text)
