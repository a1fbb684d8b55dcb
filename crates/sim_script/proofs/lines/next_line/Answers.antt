use Rattle.std.proofs.Common.{sym, ◌∙◌}
use Rattle.sim_script.proofs.LineLemmas.{lines_in-at, lines_in-none, lines_in-empty}
use Rattle.sim_script.proofs.lines.next_line.Goals as goal

pub returns-then-is_empty-clause-lines : goal.returns-then-is_empty-clause-lines
returns-then-is_empty-clause-lines c = lines_in-empty c.args.text.now (sym c.is_empty.ensures ∙ c.if-is_empty.true)

pub returns-in-Some-clause-lines : goal.returns-in-Some-clause-lines
returns-in-Some-clause-lines c = lines_in-at c.args.text.now c.in-Some.at c.in-Some.ensures

pub returns-in-None-clause-lines : goal.returns-in-None-clause-lines
returns-in-None-clause-lines c = lines_in-none c.args.text.now (sym c.is_empty.ensures ∙ c.if-is_empty.false) c.in-None.ensures
