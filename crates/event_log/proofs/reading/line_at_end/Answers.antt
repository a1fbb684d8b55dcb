use Rattle.event_log.proofs.PartLemmas.{line_at_end-some}
use Rattle.event_log.proofs.reading.line_at_end.Goals as goal

pub returns-in-Some : goal.returns-in-Some
returns-in-Some c = line_at_end-some c.args.line c.args.rest c.in-Some.field-0 c.in-Some.is
