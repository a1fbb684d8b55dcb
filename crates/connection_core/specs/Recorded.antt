-- What an end keeps of its events.
use Rattle.std.specs.Prelude.{ℕ, List}
use Rattle.smbd_base.specs.declared.event.Event.{Event}

-- the events so far, the newest one first, and for how many more there is room
pub record Recorded : Type 0 where
  pub past : List Event
  pub room : ℕ
