use Rattle.copy_runs.proofs.ServersWant.{servers-want}
use Rattle.copy_runs.proofs.endings.servers_want_groups.Goals as goal

pub returns : goal.returns
returns c = servers-want
