-- An end on a link. A past is a list of events, the newest one first.
use Rattle.std.specs.Prelude.{◌≡◌, ℕ, Bool, true, is_none, Option, Some, None, List, [], ◌∷◌, ◌++◌, if◌then◌else◌}
use Rattle.smbd_base.specs.declared.end_id.EndId.{EndId}
use Rattle.smbd_base.specs.declared.event.Event.{Event}
use Rattle.smbd_base.specs.declared.event.Event.TheVariants.{Post, Submit, Emit, Take, Cut}
use Rattle.smbd_base.specs.declared.next.Next.{Next}
use Rattle.smbd_base.specs.declared.next.Next.TheVariants as due
use Rattle.smbd_base.specs.Limits.{Limits}
use Rattle.smbd_base.specs.History.{next_event, submit_fault, take_fault, is_cut, is_ready}
use Rattle.world_core.specs.declared.choice.Choice.{Choice}
use Rattle.smbd_base.specs.Delivery.{message_brought}
use Rattle.world_core.specs.declared.choice.Choice.TheVariants as choices
use Rattle.world_core.specs.Newest.{newest_brought}

-- an end, its past, the frames in flight to it, and the messages that its peer has submitted and it has not delivered, the
-- oldest one first
pub record Linked : Type 0 where
  pub side : EndId
  pub limits : Limits
  pub past : List Event
  pub arriving : List (List ℕ)
  pub undelivered : List (List ℕ)

-- ---- the event that a choice adds

-- a message is submitted where the end does not refuse it
abbrev pub submission : Linked → List ℕ → Option Event
submission own message = if is_none (submit_fault own.side own.limits own.past message) then Some (Submit message) else None

-- What comes next at the end. A frame can't be sent on a link that is cut: the end finds that out, and is cut.
abbrev pub driven : Bool → Next → Option Event
driven link_cut (due.Post n) = Some (Post n)
driven link_cut (due.Emit frame) = if link_cut then Some Cut else Some (Emit frame)
driven link_cut due.Close = Some Cut
driven link_cut due.Idle = None

-- the oldest frame in flight is taken, where there is one
abbrev pub arrival : List (List ℕ) → Option Event
arrival [] = None
arrival (frame ∷ later) = Some (Take frame)

-- An end that may take a frame takes the oldest one, or finds out that the link is cut, and is cut.
abbrev pub carried : Bool → Linked → Option Event
carried link_cut own = if is_ready own.side own.limits own.past then (if link_cut then Some Cut else arrival own.arriving) else None

-- the event that a choice adds to an end that is not cut
abbrev pub event_of_choice : Linked → Bool → Choice → Option Event
event_of_choice own link_cut (choices.Submit end message) = submission own message
event_of_choice own link_cut (choices.Drive end) = driven link_cut (next_event own.side own.limits own.past)
event_of_choice own link_cut (choices.Carry end) = carried link_cut own
event_of_choice own link_cut (choices.Cut end) = Some Cut

-- nothing is added to an end that is cut
abbrev pub event_at : Linked → Bool → Choice → Option Event
event_at own link_cut choice = if is_cut own.past then None else event_of_choice own link_cut choice

-- ---- what an event changes

-- a frame that is taken is no longer in flight
abbrev pub still_arriving : Event → List (List ℕ) → List (List ℕ)
still_arriving (Post n) frames = frames
still_arriving (Submit message) frames = frames
still_arriving (Emit frame) frames = frames
still_arriving (Take frame) [] = []
still_arriving (Take frame) (first ∷ later) = later
still_arriving Cut frames = frames

-- the frame that is sent
abbrev pub frames_in : Event → List (List ℕ)
frames_in (Post n) = []
frames_in (Submit message) = []
frames_in (Emit frame) = frame ∷ []
frames_in (Take frame) = []
frames_in Cut = []

-- the message that is delivered, where one is, is no longer undelivered
abbrev pub still_undelivered : Option (List ℕ) → List (List ℕ) → List (List ℕ)
still_undelivered None messages = messages
still_undelivered (Some message) [] = []
still_undelivered (Some message) (first ∷ later) = later

-- the message that is submitted
abbrev pub messages_in : Event → List (List ℕ)
messages_in (Post n) = []
messages_in (Submit message) = message ∷ []
messages_in (Emit frame) = []
messages_in (Take frame) = []
messages_in Cut = []

-- the end that adds the event
abbrev pub own_after : Linked → Option Event → Linked
own_after own None = own
own_after own (Some event) = record own {
  past = event ∷ own.past;
  arriving = still_arriving event own.arriving;
  undelivered = still_undelivered (newest_brought own.side own.limits (event ∷ own.past)) own.undelivered;
}

-- and its peer
abbrev pub peer_after : Linked → Option Event → Linked
peer_after peer None = peer
peer_after peer (Some event) = record peer {
  arriving = peer.arriving ++ frames_in event;
  undelivered = peer.undelivered ++ messages_in event;
}

-- this message, where there is one, is the first of the list
abbrev pub StandsFirst : Option (List ℕ) → List (List ℕ) → Type 0
StandsFirst None messages = Unit {0}
StandsFirst (Some message) messages = (later : List (List ℕ)) × (messages ≡ message ∷ later)

-- the oldest frame in flight is not refused, and the message that it ends is the oldest one that is undelivered
pub record TakesNext (own : Linked) : Type 0 where
  pub accepted : (frame : List ℕ) (later : List (List ℕ)) → own.arriving ≡ frame ∷ later → take_fault own.side own.limits own.past frame ≡ None
  pub brings : (frame : List ℕ) (later : List (List ℕ)) → own.arriving ≡ frame ∷ later → is_ready own.side own.limits own.past ≡ true
      → StandsFirst (message_brought own.side own.limits own.past frame) own.undelivered
