use Rattle.event_log.proofs.BatchLemmas.{lines_apart}
use Rattle.event_log.proofs.WrittenLines.{no_feed_in}
use Rattle.event_log.proofs.laws.lines_end_at_line_feeds.Goals as goal

pub returns-clause-inside : goal.returns-clause-inside
returns-clause-inside c = no_feed_in

pub returns-clause-apart : goal.returns-clause-apart
returns-clause-apart c = lines_apart
