use Rattle.quiet_ends.proofs.Waiting.{no_dead_end}
use Rattle.quiet_ends.proofs.dead_ends.credits_come_to_no_dead_end.Goals as goal

pub returns : goal.returns
returns c = no_dead_end
