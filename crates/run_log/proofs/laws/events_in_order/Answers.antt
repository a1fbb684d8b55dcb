use Rattle.run_log.proofs.Ordering.{named_each}
use Rattle.run_log.proofs.laws.events_in_order.Goals as goal

pub returns : goal.returns
returns c = named_each
