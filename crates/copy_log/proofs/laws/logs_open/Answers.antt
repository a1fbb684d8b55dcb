use Rattle.copy_log.proofs.Logging.{open-log}
use Rattle.copy_log.proofs.laws.logs_open.Goals as goal

pub returns : goal.returns
returns c = open-log
