-- One order of time for the events of two ends: a list of the events of both, the newest one first.
use Rattle.std.specs.Prelude.{◌≡◌, List, [], ◌∷◌}
use mathlib.Core.List.{IsPrefix}
use Rattle.smbd_base.specs.declared.end_id.EndId.{EndId}
use Rattle.smbd_base.specs.declared.end_id.EndId.TheVariants.{Client, Server}
use Rattle.smbd_base.specs.declared.event.Event.{Event}
use Rattle.smbd_base.specs.declared.event.Event.TheVariants.{Post, Submit, Emit, Take, Cut}
use Rattle.smbd_base.specs.Counts.{peer_of}
use Rattle.smbd_base.specs.Joint.{emitted_frames, taken_frames, IsAfter}
use Rattle.joint_laws.specs.Growth.{IsNextFrame}

-- an event, and the end at which it happened
pub record Happened : Type 0 where
  pub end : EndId
  pub event : Event

-- the past of one end, with an event that is its own or another's
abbrev pub with_event : EndId → EndId → Event → List Event → List Event
with_event Client Client event past = event ∷ past
with_event Client Server event past = past
with_event Server Client event past = past
with_event Server Server event past = event ∷ past

-- the events of one end, in their order
abbrev pub events_at : EndId → List Happened → List Event
events_at side [] = []
events_at side (h ∷ earlier) = with_event side h.end h.event (events_at side earlier)

-- a frame that is taken was sent before: it is the oldest one in flight by then
abbrev pub WasSent : Event → List Event → List Event → Type 0
WasSent (Post n) own peer = Unit {0}
WasSent (Submit m) own peer = Unit {0}
WasSent (Emit f) own peer = Unit {0}
WasSent (Take f) own peer = IsNextFrame f own peer
WasSent Cut own peer = Unit {0}

-- each Take stands after the Emit of its frame
abbrev pub TakesStandAfterEmits : List Happened → Type 0
TakesStandAfterEmits [] = Unit {0}
TakesStandAfterEmits (h ∷ earlier) =
    WasSent h.event (events_at h.end earlier) (events_at (peer_of h.end) earlier) × TakesStandAfterEmits earlier

-- one order of time for both histories: each end's events stand in their order, and each Take stands after the Emit of its frame
pub record IsOneOrder (client server : List Event) (order : List Happened) : Type 0 where
  pub of_client : events_at Client order ≡ client
  pub of_server : events_at Server order ≡ server
  pub sent_first : TakesStandAfterEmits order

abbrev pub HaveOneOrder : List Event → List Event → Type 0
HaveOneOrder client server = (order : List Happened) × IsOneOrder client server order

-- what two histories with such an order have in common: each end took the first of the frames that the other sent, and
-- had sent what its peer had taken before it sent them
pub record AreInTime (client server : List Event) : Type 0 where
  pub to_client : IsPrefix (taken_frames client) (emitted_frames server)
  pub to_server : IsPrefix (taken_frames server) (emitted_frames client)
  pub client_after : IsAfter client server
  pub server_after : IsAfter server client
