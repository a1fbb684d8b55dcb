use Rattle.file_pasts.proofs.ServerGroups.{servers_store, put_servers_store}
use Rattle.file_pasts.proofs.server_laws.servers_store_what_was_written.Goals as goal

pub returns-clause-runs : goal.returns-clause-runs
returns-clause-runs c = servers_store

pub returns-clause-puts : goal.returns-clause-puts
returns-clause-puts c = put_servers_store
