-- Two ends on one link.
use Rattle.std.specs.Prelude.{◌≡◌, Bool, List, ◌++◌}
use Rattle.smbd_base.specs.declared.end_id.EndId.{EndId}
use Rattle.smbd_base.specs.declared.end_id.EndId.TheVariants.{Client, Server}
use Rattle.smbd_base.specs.Limits.{IsLawful}
use Rattle.smbd_base.specs.Counts.{peer_of}
use Rattle.smbd_base.specs.Delivery.{messages_delivered}
use Rattle.smbd_base.specs.History.{messages_submitted}
use Rattle.smbd_base.specs.Joint.{AreJoint, emitted_frames, taken_frames}
use Rattle.joint_laws.specs.Halves.{AreBeside}
use Rattle.world_core.specs.Linked.{Linked}
use Rattle.world_core.specs.Run.{State}

-- what contracts see of them, of the link, and of whose event each one was
abbrev pub state_of : Linked → Linked → Bool → List EndId → State
state_of client server link_cut order = record {
  client_limits = client.limits;
  server_limits = server.limits;
  client = client.past;
  server = server.past;
  link_cut = link_cut;
  order = order;
}

-- They are a client and a server with joint histories. The frames in flight to each are those that it has not taken, and the
-- messages that are kept for it those that it has not delivered.
pub record ArePaired (client server : Linked) : Type 0 where
  pub client_side : client.side ≡ Client
  pub server_side : server.side ≡ Server
  pub client_lawful : IsLawful client.limits
  pub server_lawful : IsLawful server.limits
  pub joint : AreJoint client.limits server.limits client.past server.past
  pub to_client : emitted_frames server.past ≡ taken_frames client.past ++ client.arriving
  pub to_server : emitted_frames client.past ≡ taken_frames server.past ++ server.arriving
  pub for_client : messages_submitted server.past ≡ messages_delivered client.side client.limits client.past ++ client.undelivered
  pub for_server : messages_submitted client.past ≡ messages_delivered server.side server.limits server.past ++ server.undelivered

-- an end with its peer, the frames in flight to each, and the messages that are kept for each
pub record IsPair (own peer : Linked) : Type 0 where
  pub peer_side : peer.side ≡ peer_of own.side
  pub own_lawful : IsLawful own.limits
  pub peer_lawful : IsLawful peer.limits
  pub beside : AreBeside own.side own.limits peer.limits own.past peer.past
  pub to_own : emitted_frames peer.past ≡ taken_frames own.past ++ own.arriving
  pub to_peer : emitted_frames own.past ≡ taken_frames peer.past ++ peer.arriving
  pub for_own : messages_submitted peer.past ≡ messages_delivered own.side own.limits own.past ++ own.undelivered
  pub for_peer : messages_submitted own.past ≡ messages_delivered peer.side peer.limits peer.past ++ peer.undelivered
