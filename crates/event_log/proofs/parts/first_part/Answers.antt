use Rattle.event_log.proofs.PartLemmas.{parts_of-at, parts_of-none}
use Rattle.event_log.proofs.parts.first_part.Goals as goal

pub returns-in-Some : goal.returns-in-Some
returns-in-Some c = parts_of-at c.args.bytes.now c.in-Some.at c.in-Some.ensures

pub returns-in-None : goal.returns-in-None
returns-in-None c = parts_of-none c.args.bytes.now c.in-None.ensures
