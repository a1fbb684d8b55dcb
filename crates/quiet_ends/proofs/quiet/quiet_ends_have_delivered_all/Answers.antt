use Rattle.quiet_ends.proofs.Quieting.{quiet_delivered}
use Rattle.quiet_ends.proofs.quiet.quiet_ends_have_delivered_all.Goals as goal

pub returns : goal.returns
returns c = quiet_delivered
