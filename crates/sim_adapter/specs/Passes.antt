-- What contracts see of a pass.
use Rattle.std.specs.Prelude.{◌≡◌, List}
use Rattle.smbd_base.specs.declared.event.Event.{Event}
use Rattle.smbd_base.specs.History.{MayFollow}
use Rattle.sim_adapter.specs.declared.view.EndView.{EndView}
use Rattle.sim_adapter.specs.declared.link.Link.{Link}
use Rattle.sim_adapter.specs.declared.pass.Pass.{Pass}
use Rattle.sim_adapter.specs.Rule.{end_of, limits_of}

-- what its end knows
abbrev pub known_by : Pass → EndView
known_by pass = end_of pass.seat.me.0

-- the history of its end, the newest event first
abbrev pub history_of : Pass → List Event
history_of pass = (known_by pass).past

-- it is a pass of this link
abbrev pub IsOf : Link → Pass → Type 0
IsOf link pass = pass.seat.table_id ≡ link.table.shared.table_id

-- the event may follow the end's history
abbrev pub MayComeNext : Event → EndView → Type 0
MayComeNext event e = MayFollow e.side (limits_of e.ends e.side) event e.past
