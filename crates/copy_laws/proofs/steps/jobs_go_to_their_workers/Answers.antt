use Rattle.copy_laws.proofs.StepsClients.{client-gives}
use Rattle.copy_laws.proofs.StepsServers.{server-gives}
use Rattle.copy_laws.proofs.steps.jobs_go_to_their_workers.Goals as goal

pub returns-clause-client : goal.returns-clause-client
returns-clause-client c = client-gives

pub returns-clause-server : goal.returns-clause-server
returns-clause-server c = server-gives
