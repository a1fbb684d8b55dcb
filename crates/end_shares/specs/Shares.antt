-- What an end's share of a round comes to. A past is a list of events, the newest one first.
use Rattle.std.specs.Prelude.{◌≡◌, ℕ, ◌+◌, ◌≤◌, Bool, true, false, Option, Some, List, ◌∷◌, length}
use Rattle.smbd_base.specs.declared.event.Event.{Event}
use Rattle.smbd_base.specs.declared.event.Event.TheVariants.{Cut}
use Rattle.smbd_base.specs.declared.end_id.EndId.TheVariants.{Client}
use Rattle.smbd_base.specs.History.{next_event, is_cut}
use Rattle.smbd_base.specs.Joint.{taken_frames}
use Rattle.sim_adapter.specs.declared.view.EndView.{EndView}
use Rattle.link_ends.specs.Ends.{is_emit, next_of}
use Rattle.end_shares.specs.declared.share.Share.{Share}
use Rattle.end_shares.specs.declared.share.Share.TheVariants as shares
use Rattle.end_shares.specs.Turns.{HasAdded, IsIdle}

-- nothing was left to do
abbrev pub rests : Share → Bool
rests shares.Full = false
rests shares.Rests = true
rests shares.IsCut = false
rests shares.Cuts = false

-- Nothing comes next at an end that is not cut, and it has taken every frame of its peer that it had seen before the round: all that
-- its peer had sent when they met.
pub record IsThrough (old new : EndView) : Type 0 where
  pub uncut : is_cut new.past ≡ false
  pub idle : IsIdle new
  pub taken : old.seen ≤ length (taken_frames new.past)

-- the client has cut the link where a frame came next, and none was left to be sent
pub record HasCutInPlace (left : Option ℕ) (new : EndView) : Type 0 where
  pub before : List Event
  pub is : new.past ≡ Cut ∷ before
  pub next : is_emit (next_event Client new.ends.client before) ≡ true
  pub none : left ≡ Some 0

-- a frame comes next at the client's end, and none is left to be sent
pub record IsLast (left : Option ℕ) (v : EndView) : Type 0 where
  pub frame : is_emit (next_of v) ≡ true
  pub none : left ≡ Some 0

-- what an end has come to that answers so
abbrev pub ComesTo : Share → Option ℕ → EndView → EndView → Type 0
ComesTo shares.Full left old new = HasAdded 64 old new
ComesTo shares.Rests left old new = IsThrough old new
ComesTo shares.IsCut left old new = is_cut new.past ≡ true
ComesTo shares.Cuts left old new = HasCutInPlace left new

-- the end has done at most so many events
abbrev pub HasDoneAtMost : ℕ → EndView → EndView → Type 0
HasDoneAtMost most old new = length new.past ≤ length old.past + most
