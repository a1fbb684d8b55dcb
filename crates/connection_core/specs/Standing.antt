-- Whether an end goes on.
use Rattle.std.specs.Prelude.{Bool, ◌&&◌, Option, Some, None, List, if◌then◌else◌}
use Rattle.smbd_base.specs.declared.end_id.EndId.{EndId}
use Rattle.smbd_base.specs.declared.event.Event.{Event}
use Rattle.smbd_base.specs.declared.faults.TakeFault.{TakeFault}
use Rattle.smbd_base.specs.Limits.{Limits}
use Rattle.smbd_base.specs.History.{is_cut, is_refused, is_version_fault, is_server, is_closed}
use Rattle.connection_core.specs.declared.track.Standing.{Standing}
use Rattle.connection_core.specs.declared.track.Standing.TheVariants.{Open, Declining, Closed, Cut}

-- open, unless it was cut, has refused a frame, or is about to send the refusing response
abbrev pub standing_of : EndId → Limits → List Event → Standing
standing_of side limits past =
    if is_cut past then Cut
    else if is_closed side limits past then Closed
    else if is_refused side limits past then Declining
    else Open

-- once a frame was sent: the refusing response closes the end
abbrev pub sent_standing : Standing → Standing
sent_standing Open = Open
sent_standing Declining = Closed
sent_standing Closed = Closed
sent_standing Cut = Cut

-- once an open end took a frame, refused it for this or did not
abbrev pub taken_standing : EndId → Bool → Option TakeFault → Standing
taken_standing side silent None = Open
taken_standing side silent (Some fault) = if is_version_fault (Some fault) && is_server side && silent then Declining else Closed
