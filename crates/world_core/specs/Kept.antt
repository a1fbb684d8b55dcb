-- What an end on a link keeps beside its history.
use Rattle.std.specs.Prelude.{◌≡◌, ℕ, ◌-◌, Bool, true, false, Option, None, List, length, slice_get}
use Rattle.connection_core.specs.Shown.{Shown}
use Rattle.smbd_base.specs.declared.end_id.EndId.{EndId}
use Rattle.smbd_base.specs.Delivery.{messages_delivered}
use Rattle.world_core.specs.Newest.{newest_brought}

-- the last of these messages, where the newest event has delivered it
abbrev pub newest_in : Bool → List (List ℕ) → Option (List ℕ)
newest_in false delivered = None
newest_in true delivered = slice_get delivered (length delivered - 1)

-- its side, the messages that it has delivered, and whether its newest event has delivered the last of them
pub record IsKept (side : EndId) (end : Shown) (delivered : List (List ℕ)) (is_newest : Bool) : Type 0 where
  pub side_is : side ≡ end.side
  pub messages : delivered ≡ messages_delivered end.side end.limits end.past
  pub newest : newest_in is_newest delivered ≡ newest_brought end.side end.limits end.past
