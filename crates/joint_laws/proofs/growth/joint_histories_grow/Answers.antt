use Rattle.joint_laws.proofs.Growing.{client_grows, server_grows}
use Rattle.joint_laws.proofs.growth.joint_histories_grow.Goals as goal

pub returns-clause-client : goal.returns-clause-client
returns-clause-client c = client_grows

pub returns-clause-server : goal.returns-clause-server
returns-clause-server c = server_grows
