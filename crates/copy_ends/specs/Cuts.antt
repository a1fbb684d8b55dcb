-- The frame in whose place the client of a copy cuts the link.
use Rattle.std.specs.Prelude.{◌≡◌, ℕ, ◌+◌, Bool, true, false, Option, Some, None, List, ◌∷◌, length, if◌then◌else◌}
use Rattle.smbd_base.specs.declared.end_id.EndId.{EndId}
use Rattle.smbd_base.specs.declared.end_id.EndId.TheVariants as side
use Rattle.smbd_base.specs.declared.event.Event.{Event}
use Rattle.smbd_base.specs.declared.event.Event.TheVariants.{Cut}
use Rattle.smbd_base.specs.Limits.{Limits}
use Rattle.smbd_base.specs.History.{next_event}
use Rattle.smbd_base.specs.Joint.{emitted_frames}
use Rattle.world_core.specs.Choices.{is_emit}
use Rattle.world_core.specs.Run.{State, past_of, limits_of}
use Rattle.copy_ends.specs.declared.round.Share.{Share}
use Rattle.copy_ends.specs.declared.round.Share.TheVariants as shares

-- how many frames an end has sent by its past
abbrev pub frames_sent : List Event → ℕ
frames_sent past = length (emitted_frames past)

-- how many of them come next: one, or none
abbrev pub frames_next : EndId → Limits → List Event → ℕ
frames_next end limits past = if is_emit (next_event end limits past) then 1 else 0

-- So many frames may be sent yet, this many having been sent, before the one in whose place the link is cut: the frame of this number,
-- where it is to be cut.
abbrev pub AreLeft : Option ℕ → ℕ → Option ℕ → Type 0
AreLeft None sent left = left ≡ None
AreLeft (Some number) sent left = (count : ℕ) × (left ≡ Some count) × (sent + count + 1 ≡ number)

-- a frame comes next at the client's end, and none is left
pub record IsLast (world : State) (left : Option ℕ) : Type 0 where
  pub frame : is_emit (next_event side.Client world.client_limits world.client) ≡ true
  pub none : left ≡ Some 0

-- the end has sent what came next, where that was a frame, and no other frame
abbrev pub HasSentNext : EndId → State → State → Type 0
HasSentNext end old new = frames_sent (past_of end new) ≡ frames_sent (past_of end old) + frames_next end (limits_of end old) (past_of end old)

-- the end has sent nothing
abbrev pub HasSentNone : EndId → State → State → Type 0
HasSentNone end old new = frames_sent (past_of end new) ≡ frames_sent (past_of end old)

-- the link was cut, and both ends with it
pub record HasBeenCut (old new : State) : Type 0 where
  pub client : new.client ≡ Cut ∷ old.client
  pub server : new.server ≡ Cut ∷ old.server
  pub client_limits : new.client_limits ≡ old.client_limits
  pub server_limits : new.server_limits ≡ old.server_limits
  pub link : new.link_cut ≡ true

-- nothing was left to do
abbrev pub rests : Share → Bool
rests shares.Full = false
rests shares.Rests = true
rests shares.Cuts = false
