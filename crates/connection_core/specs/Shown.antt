-- What contracts see of an end.
use Rattle.std.specs.Prelude.{List, Option}
use Rattle.smbd_base.specs.declared.end_id.EndId.{EndId}
use Rattle.smbd_base.specs.declared.event.Event.{Event}
use Rattle.smbd_base.specs.Limits.{Limits}

-- the side, its limits, the events so far, the newest one first, and the event that is prepared
pub record Shown : Type 0 where
  pub side : EndId
  pub limits : Limits
  pub past : List Event
  pub prepared : Option Event
