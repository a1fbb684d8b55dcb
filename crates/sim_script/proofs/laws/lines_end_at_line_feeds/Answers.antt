use Rattle.sim_script.proofs.LineLemmas.{lines_in-ended, lines_in-unended}
use Rattle.sim_script.proofs.WrittenLines.{no_feed_in}
use Rattle.sim_script.proofs.laws.lines_end_at_line_feeds.Goals as goal

pub returns-clause-inside : goal.returns-clause-inside
returns-clause-inside c = no_feed_in

pub returns-clause-ended : goal.returns-clause-ended
returns-clause-ended c = lines_in-ended

pub returns-clause-unended : goal.returns-clause-unended
returns-clause-unended c = lines_in-unended
