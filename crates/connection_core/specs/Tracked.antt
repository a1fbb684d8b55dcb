-- What contracts see of an end's track.
use Rattle.std.specs.Prelude.{ℕ, List}
use Rattle.smbd_base.specs.declared.end_id.EndId.{EndId}
use Rattle.smbd_base.specs.declared.event.Event.{Event}
use Rattle.smbd_base.specs.Limits.{Limits}

-- the side, its limits, the events so far, the newest one first, and for how many more there is room
pub record Tracked : Type 0 where
  pub side : EndId
  pub limits : Limits
  pub past : List Event
  pub room : ℕ
