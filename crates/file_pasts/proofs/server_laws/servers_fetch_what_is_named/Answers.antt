use Rattle.file_pasts.proofs.ServerJobs.{servers_fetch}
use Rattle.file_pasts.proofs.server_laws.servers_fetch_what_is_named.Goals as goal

pub returns : goal.returns
returns c = servers_fetch
