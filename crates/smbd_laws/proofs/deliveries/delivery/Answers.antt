use Rattle.smbd_laws.proofs.Delivering.{server_delivers, client_delivers, delivered_front}
use Rattle.smbd_laws.proofs.deliveries.delivery.Goals as goal

pub returns-clause-server : goal.returns-clause-server
returns-clause-server c = server_delivers

pub returns-clause-client : goal.returns-clause-client
returns-clause-client c = client_delivers

pub returns-clause-either : goal.returns-clause-either
returns-clause-either c = delivered_front
