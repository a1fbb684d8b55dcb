-- What one end of a world does, while its peer does nothing. A past is a list of events, the newest one first.
use Rattle.std.specs.Prelude.{◌≡◌, ℕ, ◌+◌, ◌≤◌, Bool, true, false, Option, option_to_list, List, [], ◌++◌, length}
use Rattle.smbd_base.specs.declared.end_id.EndId.{EndId}
use Rattle.smbd_base.specs.declared.event.Event.{Event}
use Rattle.smbd_base.specs.declared.next.Next.TheVariants as due
use Rattle.smbd_base.specs.declared.limits.TheConstants.{LEAST_FRAGMENTED_SIZE}
use Rattle.smbd_base.specs.Counts.{peer_of}
use Rattle.smbd_base.specs.Delivery.{messages_delivered}
use Rattle.smbd_base.specs.History.{next_event, is_cut, is_new, is_post_due, messages_submitted}
use Rattle.world_core.specs.Run.{State, past_of, limits_of, frames_in_flight}

-- the end was opened, and is not cut
pub record GoesOn (past : List Event) : Type 0 where
  pub opened : is_new past ≡ false
  pub uncut : is_cut past ≡ false

-- nothing is cut
pub record IsUp (world : State) : Type 0 where
  pub link : world.link_cut ≡ false
  pub client : GoesOn world.client
  pub server : GoesOn world.server

-- events were added to the past
pub record HasGrown (old new : List Event) : Type 0 where
  pub events : List Event
  pub is : new ≡ events ++ old

-- only this end has added events
pub record HasActed (end : EndId) (old new : State) : Type 0 where
  pub own : HasGrown (past_of end old) (past_of end new)
  pub peer : past_of (peer_of end) new ≡ past_of (peer_of end) old
  pub own_limits : limits_of end new ≡ limits_of end old
  pub peer_limits : limits_of (peer_of end) new ≡ limits_of (peer_of end) old
  pub link : new.link_cut ≡ old.link_cut

-- the end has acted, submitted these messages and delivered those, and nothing is cut
pub record HasTurned (end : EndId) (said heard : List (List ℕ)) (old new : State) : Type 0 where
  pub acted : HasActed end old new
  pub up : IsUp new
  pub submitted : messages_submitted (past_of end new) ≡ messages_submitted (past_of end old) ++ said
  pub delivered : messages_delivered end (limits_of end new) (past_of end new) ≡ messages_delivered end (limits_of end old) (past_of end old) ++ heard

-- the end has added so many events
abbrev pub HasAdded : ℕ → EndId → State → State → Type 0
HasAdded count end old new = length (past_of end new) ≡ length (past_of end old) + count

-- the message that the newest event has delivered, where there is a new event
abbrev pub heard_if : Bool → Option (List ℕ) → List (List ℕ)
heard_if false newest = []
heard_if true newest = option_to_list newest

-- nothing comes next at the end
abbrev pub IsIdle : EndId → State → Type 0
IsIdle end world = next_event end (limits_of end world) (past_of end world) ≡ due.Idle

-- nothing has changed, and there is no frame in flight to the end, unless it has yet to post a receive
pub record TakesNothing (end : EndId) (old new : State) : Type 0 where
  pub same : new ≡ old
  pub none : is_post_due (past_of end old) ≡ false → frames_in_flight (past_of end old) (past_of (peer_of end) old) ≡ []

-- nothing comes next at the end, and no frame is in flight to it: it has taken each that its peer has sent
pub record IsAtRest (end : EndId) (world : State) : Type 0 where
  pub idle : IsIdle end world
  pub none_in_flight : frames_in_flight (past_of end world) (past_of (peer_of end) world) ≡ []

-- a message that no end refuses for its length
pub record IsSendable (message : List ℕ) : Type 0 where
  pub some : 1 ≤ length message
  pub short : length message ≤ LEAST_FRAGMENTED_SIZE
