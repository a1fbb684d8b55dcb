-- What an end on a link does in a turn. A past is a list of events, the newest one first.
use Rattle.std.specs.Prelude.{◌≡◌, ℕ, ◌+◌, ◌≤◌, Bool, true, false, option_to_list, List, [], ◌++◌, length}
use Rattle.smbd_base.specs.declared.end_id.EndId.{EndId}
use Rattle.smbd_base.specs.declared.next.Next.TheVariants as due
use Rattle.smbd_base.specs.Delivery.{messages_delivered}
use Rattle.smbd_base.specs.History.{messages_submitted, is_cut}
use Rattle.smbd_base.specs.Joint.{taken_frames}
use Rattle.sim_adapter.specs.declared.link.Link.{Link}
use Rattle.sim_adapter.specs.declared.view.EndView.{EndView}
use Rattle.sim_adapter.specs.Rule.{limits_of}
use Rattle.sim_adapter.specs.Plays.{saw}
use Rattle.link_ends.specs.declared.answer.Driven.{Driven}
use Rattle.link_ends.specs.declared.answer.Driven.TheVariants as driven
use Rattle.link_ends.specs.declared.answer.Received.{Received}
use Rattle.link_ends.specs.declared.answer.Received.TheVariants as received
use Rattle.link_ends.specs.declared.link_end.LinkEnd.{LinkEnd}
use Rattle.link_ends.specs.Ends.{view_of, next_of, GoesOnAt}
use Rattle.copy_ends.specs.Turns.{HasGrown}

-- the end can go on, is one of this link's, and is this one
pub record IsOn (link : Link) (side : EndId) (e : LinkEnd) : Type 0 where
  pub at : GoesOnAt link e
  pub side_is : (view_of e).side ≡ side

-- events were added to the past of the same end, and it has seen no fewer frames of its peer
pub record HasGoneOn (old new : EndView) : Type 0 where
  pub own : HasGrown old.past new.past
  pub side : new.side ≡ old.side
  pub ends : new.ends ≡ old.ends
  pub seen : old.seen ≤ new.seen

-- the end is cut where a look showed that the link is, and only there
abbrev pub IsCutAsTold : EndView → Type 0
IsCutAsTold v = v.told_cut ≡ is_cut v.past

-- and it has not cut the link by itself
pub record HasActed (old new : EndView) : Type 0 where
  pub own : HasGrown old.past new.past
  pub side : new.side ≡ old.side
  pub ends : new.ends ≡ old.ends
  pub seen : old.seen ≤ new.seen
  pub told : IsCutAsTold old → IsCutAsTold new

-- the messages that an end of this side, with what it knows, has delivered
abbrev pub delivered_by : EndId → EndView → List (List ℕ)
delivered_by side v = messages_delivered side (limits_of v.ends side) v.past

-- the end has acted, submitted these messages and delivered those
pub record HasTurned (side : EndId) (said heard : List (List ℕ)) (old new : EndView) : Type 0 where
  pub acted : HasActed old new
  pub submitted : messages_submitted new.past ≡ messages_submitted old.past ++ said
  pub delivered : delivered_by side new ≡ delivered_by side old ++ heard

-- the end has added so many events
abbrev pub HasAdded : ℕ → EndView → EndView → Type 0
HasAdded count old new = length new.past ≡ length old.past + count

-- nothing comes next at the end
abbrev pub IsIdle : EndView → Type 0
IsIdle v = next_of v ≡ due.Idle

-- a look showed just as many frames of the peer as the end has taken, and it had seen no more; nothing else has changed
abbrev pub TakesNothing : EndView → EndView → Type 0
TakesNothing old new = (new ≡ saw old (length (taken_frames old.past))) × (old.seen ≤ length (taken_frames old.past))

-- nothing comes next at the end, and it has taken each frame of its peer that it has seen
pub record IsAtRest (v : EndView) : Type 0 where
  pub idle : IsIdle v
  pub taken : v.seen ≤ length (taken_frames v.past)

-- the frames that were sent as this was done
abbrev pub frames_in : Driven → ℕ
frames_in driven.Posted = 0
frames_in driven.Sent = 1
frames_in driven.Cut = 0
frames_in driven.Idle = 0

-- nothing came next
abbrev pub is_idle : Driven → Bool
is_idle driven.Posted = false
is_idle driven.Sent = false
is_idle driven.Cut = false
is_idle driven.Idle = true

-- the messages that a frame has brought
abbrev pub heard_in : Received → List (List ℕ)
heard_in (received.Frame message) = option_to_list message
heard_in received.Nothing = []
heard_in received.Cut = []

-- nothing had come
abbrev pub is_nothing : Received → Bool
is_nothing (received.Frame message) = false
is_nothing received.Nothing = true
is_nothing received.Cut = false
