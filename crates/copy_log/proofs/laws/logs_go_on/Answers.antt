use Rattle.copy_log.proofs.Logging.{go-on}
use Rattle.copy_log.proofs.laws.logs_go_on.Goals as goal

pub returns : goal.returns
returns c = go-on
