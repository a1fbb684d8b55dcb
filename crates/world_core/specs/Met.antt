-- What contracts see of a link whose two ends have met.
use Rattle.std.specs.Prelude.{◌≡◌, false, Option, Some, None, List, ◌∷◌, length}
use Rattle.smbd_base.specs.declared.end_id.EndId.{EndId}
use Rattle.smbd_base.specs.declared.end_id.EndId.TheVariants.{Client, Server}
use Rattle.smbd_base.specs.declared.event.Event.{Event}
use Rattle.smbd_base.specs.History.{is_cut}
use Rattle.smbd_base.specs.Joint.{emitted_frames}
use Rattle.sim_adapter.specs.declared.link.Link.{Link}
use Rattle.sim_adapter.specs.declared.pass.Pass.{Pass}
use Rattle.sim_adapter.specs.declared.view.Ends.{Ends}
use Rattle.sim_adapter.specs.Passes.{known_by, history_of, IsOf}
use Rattle.sim_adapter.specs.Plays.{AreMet}

-- the limits of both ends, and their histories, the newest event first
pub record Met : Type 0 where
  pub ends : Ends
  pub client : List Event
  pub server : List Event

abbrev pub history_at : EndId → Met → List Event
history_at Client met = met.client
history_at Server met = met.server

-- the end has added this event
abbrev pub with_event_at : EndId → Event → Met → Met
with_event_at Client event met = record met { client = event ∷ met.client }
with_event_at Server event met = record met { server = event ∷ met.server }

-- or none
abbrev pub with_event_if : EndId → Option Event → Met → Met
with_event_if end None met = met
with_event_if end (Some event) met = with_event_at end event met

-- neither end is cut
abbrev pub IsWhole : Met → Type 0
IsWhole met = (is_cut met.client ≡ false) × (is_cut met.server ≡ false)

-- what two passes tell
abbrev pub seen_of : Pass → Pass → Met
seen_of client server = record { ends = (known_by client).ends; client = history_of client; server = history_of server }

-- the passes of a client and a server at this link have met, and each end has seen all that the other sent
pub record HaveMet (link : Link) (client server : Pass) : Type 0 where
  pub client_own : IsOf link client
  pub server_own : IsOf link server
  pub client_side : (known_by client).side ≡ Client
  pub server_side : (known_by server).side ≡ Server
  pub client_seen : (known_by client).seen ≡ length (emitted_frames (history_of server))
  pub server_seen : (known_by server).seen ≡ length (emitted_frames (history_of client))
  pub met : AreMet (known_by client) (known_by server)
