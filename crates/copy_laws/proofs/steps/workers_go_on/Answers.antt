use Rattle.copy_laws.proofs.StepsWent.{client-works, server-works}
use Rattle.copy_laws.proofs.steps.workers_go_on.Goals as goal

pub returns-clause-client : goal.returns-clause-client
returns-clause-client c = client-works

pub returns-clause-server : goal.returns-clause-server
returns-clause-server c = server-works
