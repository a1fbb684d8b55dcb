use Rattle.file_pasts.proofs.ServerReplies.{servers_reply}
use Rattle.file_pasts.proofs.ServerGroups.{put_servers_reply, get_servers_reply}
use Rattle.file_pasts.proofs.server_laws.servers_reply.Goals as goal

pub returns-clause-runs : goal.returns-clause-runs
returns-clause-runs c = servers_reply

pub returns-clause-puts : goal.returns-clause-puts
returns-clause-puts c = put_servers_reply

pub returns-clause-gets : goal.returns-clause-gets
returns-clause-gets c = get_servers_reply
