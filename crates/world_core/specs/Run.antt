-- The run of a script. A past is a list of events, the newest one first.
use Rattle.std.specs.Prelude.{ℕ, Bool, false, ◌||◌, Option, Some, None, List, [], ◌∷◌, length, drop, fold}
use mathlib.Core.List.{IsPrefix}
use Rattle.smbd_base.specs.declared.end_id.EndId.{EndId}
use Rattle.smbd_base.specs.declared.end_id.EndId.TheVariants.{Client, Server}
use Rattle.smbd_base.specs.declared.event.Event.{Event}
use Rattle.smbd_base.specs.declared.event.Event.TheVariants.{Post}
use Rattle.smbd_base.specs.Limits.{Limits}
use Rattle.smbd_base.specs.Delivery.{messages_delivered}
use Rattle.smbd_base.specs.History.{messages_submitted}
use Rattle.smbd_base.specs.Joint.{AreJoint, emitted_frames, taken_frames}
use Rattle.empty_frames.specs.EmptyFrames.{SendFewEmpty}
use Rattle.quiet_ends.specs.QuietEnds.{DeliverAllOnceQuiet}
use Rattle.world_core.specs.declared.choice.Choice.{Choice}
use Rattle.world_core.specs.Choices.{end_of, cuts_link}
use Rattle.world_core.specs.Linked.{Linked, event_at}

-- The limits and the past of both ends, whether the link is cut, and whose event each one was, the newest one first.
pub record State : Type 0 where
  pub client_limits : Limits
  pub server_limits : Limits
  pub client : List Event
  pub server : List Event
  pub link_cut : Bool
  pub order : List EndId

abbrev pub past_of : EndId → State → List Event
past_of Client state = state.client
past_of Server state = state.server

abbrev pub limits_of : EndId → State → Limits
limits_of Client state = state.client_limits
limits_of Server state = state.server_limits

-- the frames that the peer of an end has sent, past those that the end has taken
abbrev pub frames_in_flight : List Event → List Event → List (List ℕ)
frames_in_flight own peer = drop (length (taken_frames own)) (emitted_frames peer)

-- the messages that the peer of an end has submitted, past those that the end has delivered
abbrev pub messages_left : EndId → Limits → List Event → List Event → List (List ℕ)
messages_left side limits own peer = drop (length (messages_delivered side limits own)) (messages_submitted peer)

abbrev pub linked_of : EndId → State → Linked
linked_of Client state = record {
  side = Client;
  limits = state.client_limits;
  past = state.client;
  arriving = frames_in_flight state.client state.server;
  undelivered = messages_left Client state.client_limits state.client state.server;
}
linked_of Server state = record {
  side = Server;
  limits = state.server_limits;
  past = state.server;
  arriving = frames_in_flight state.server state.client;
  undelivered = messages_left Server state.server_limits state.server state.client;
}

-- ---- the steps

-- the event that a choice adds to its end, where it adds one
abbrev pub event_chosen : State → Choice → Option Event
event_chosen state choice = event_at (linked_of (end_of choice) state) state.link_cut choice

-- the link is cut, or was
abbrev pub link_after : Bool → Choice → Option Event → Bool
link_after link_cut choice None = link_cut
link_after link_cut choice (Some event) = link_cut || cuts_link choice

-- whose event the new one is
abbrev pub order_after : List EndId → Choice → Option Event → List EndId
order_after order choice None = order
order_after order choice (Some event) = end_of choice ∷ order

abbrev pub past_after : List Event → Option Event → List Event
past_after past None = past
past_after past (Some event) = event ∷ past

-- the end of the choice has added this event, where there is one
abbrev pub state_after : State → EndId → Choice → Option Event → State
state_after state Client choice event = record state {
  client = past_after state.client event;
  link_cut = link_after state.link_cut choice event;
  order = order_after state.order choice event;
}
state_after state Server choice event = record state {
  server = past_after state.server event;
  link_cut = link_after state.link_cut choice event;
  order = order_after state.order choice event;
}

-- a choice that adds no event changes nothing
abbrev pub step_of : State → Choice → State
step_of state choice = state_after state (end_of choice) choice (event_chosen state choice)

-- ---- the run

-- both ends have posted their receives, the client first
abbrev pub opened_world : Limits → Limits → State
opened_world client_limits server_limits = record {
  client_limits = client_limits;
  server_limits = server_limits;
  client = Post client_limits.credits ∷ [];
  server = Post server_limits.credits ∷ [];
  link_cut = false;
  order = Server ∷ Client ∷ [];
}

-- the choices are done one after another
abbrev pub run_of : Limits → Limits → List Choice → State
run_of client_limits server_limits choices = fold step_of (opened_world client_limits server_limits) choices

-- ---- what holds after every run

abbrev pub AreJointIn : State → Type 0
AreJointIn state = AreJoint state.client_limits state.server_limits state.client state.server

-- each end has delivered the first of the messages that were submitted at the other: whole, once and in order
pub record AreDelivered (state : State) : Type 0 where
  pub to_server : IsPrefix (messages_delivered Server state.server_limits state.server) (messages_submitted state.client)
  pub to_client : IsPrefix (messages_delivered Client state.client_limits state.client) (messages_submitted state.server)

-- both ends together have sent few messages without payload
abbrev pub SendFewEmptyIn : State → Type 0
SendFewEmptyIn state = SendFewEmpty state.client_limits state.server_limits state.client state.server

-- where nothing can happen any more at either end, all that was submitted is delivered
abbrev pub DeliverAllOnceQuietIn : State → Type 0
DeliverAllOnceQuietIn state = DeliverAllOnceQuiet state.client_limits state.server_limits state.client state.server
