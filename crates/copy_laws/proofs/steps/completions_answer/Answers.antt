use Rattle.copy_laws.proofs.StepsClients.{client-takes}
use Rattle.copy_laws.proofs.StepsServers.{server-takes}
use Rattle.copy_laws.proofs.StepsRefused.{none-refused}
use Rattle.copy_laws.proofs.steps.completions_answer.Goals as goal

pub returns-clause-client : goal.returns-clause-client
returns-clause-client c = client-takes

pub returns-clause-server : goal.returns-clause-server
returns-clause-server c = server-takes

pub returns-clause-refused : goal.returns-clause-refused
returns-clause-refused c = none-refused
