use Rattle.event_log.proofs.WrittenLines.{same_line}
use Rattle.event_log.proofs.laws.written_lines_differ.Goals as goal

pub returns : goal.returns
returns c = same_line
