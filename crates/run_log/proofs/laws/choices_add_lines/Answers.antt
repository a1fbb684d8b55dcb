use Rattle.run_log.proofs.Ordering.{lines_stepped}
use Rattle.run_log.proofs.laws.choices_add_lines.Goals as goal

pub returns : goal.returns
returns c = lines_stepped
