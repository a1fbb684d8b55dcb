use Rattle.file_pasts.proofs.ServerAccepts.{put_servers_accept, get_servers_accept}
use Rattle.file_pasts.proofs.server_laws.servers_accept.Goals as goal

pub returns-clause-puts : goal.returns-clause-puts
returns-clause-puts c = put_servers_accept

pub returns-clause-gets : goal.returns-clause-gets
returns-clause-gets c = get_servers_accept
