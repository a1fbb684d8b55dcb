-- What holds of the history of one end beside that of its peer. A past is a list of events, the newest one first.
use Rattle.std.specs.Prelude.{◌≡◌, ◌+◌, ◌≤◌, false, List}
use mathlib.Core.List.{IsPrefix}
use Rattle.smbd_base.specs.declared.end_id.EndId.{EndId}
use Rattle.smbd_base.specs.declared.event.Event.{Event}
use Rattle.smbd_base.specs.Limits.{Limits}
use Rattle.smbd_base.specs.Counts.{peer_of, frames_sent, credits_granted, credits_earned, credits_held}
use Rattle.smbd_base.specs.History.{is_new, IsLegal}
use Rattle.smbd_base.specs.Joint.{AreAccepted, IsAfter, emitted_frames, taken_frames}

-- an end holds just what it has earned and not spent
pub record HoldsEarned (side : EndId) (past : List Event) : Type 0 where
  pub all : credits_held side past + frames_sent past ≡ credits_earned side past

-- an end took the first of the frames that its peer sent, and each of them after it was sent
pub record IsInTime (own peer : List Event) : Type 0 where
  pub front : IsPrefix (taken_frames own) (emitted_frames peer)
  pub after : IsAfter own peer

-- what holds of one end, beside its peer: it was opened and follows its rules, it refused no frame, it holds just what it
-- has earned and not spent, and it took what its peer had sent
pub record IsBeside (side : EndId) (limits : Limits) (own peer : List Event) : Type 0 where
  pub legal : IsLegal side limits own
  pub accepted : AreAccepted side limits own
  pub opened : is_new own ≡ false
  pub holds : HoldsEarned side own
  pub in_time : IsInTime own peer

-- what holds of both ends as one: the credits that they hold, and those in flight to them, are never all gone
abbrev pub AreCreditsLeft : EndId → List Event → List Event → Type 0
AreCreditsLeft side own peer = frames_sent own + frames_sent peer + 1 ≤ credits_granted side own + credits_granted (peer_of side) peer

-- an end and its peer
pub record AreBeside (side : EndId) (own_limits peer_limits : Limits) (own peer : List Event) : Type 0 where
  pub here : IsBeside side own_limits own peer
  pub there : IsBeside (peer_of side) peer_limits peer own
  pub left : AreCreditsLeft side own peer
