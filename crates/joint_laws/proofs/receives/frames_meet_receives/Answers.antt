use Rattle.joint_laws.proofs.Meeting.{client_meets, server_meets}
use Rattle.joint_laws.proofs.receives.frames_meet_receives.Goals as goal

pub returns-clause-client : goal.returns-clause-client
returns-clause-client c = client_meets

pub returns-clause-server : goal.returns-clause-server
returns-clause-server c = server_meets
