-- What contracts see of an end on a link. A past is a list of events, the newest one first.
use Rattle.std.specs.Prelude.{◌≡◌, Bool, true, false, List}
use Rattle.smbd_base.specs.declared.event.Event.{Event}
use Rattle.smbd_base.specs.declared.next.Next.{Next}
use Rattle.smbd_base.specs.declared.next.Next.TheVariants as due
use Rattle.smbd_base.specs.History.{next_event}
use Rattle.sim_adapter.specs.declared.view.EndView.{EndView}
use Rattle.sim_adapter.specs.declared.link.Link.{Link}
use Rattle.sim_adapter.specs.Passes as passes
use Rattle.link_ends.specs.declared.link_end.LinkEnd.{LinkEnd}
use Rattle.link_ends.specs.Beside.{limits_in}

-- what the end knows: its side, the limits of both ends, its history, and what it has seen of its peer
abbrev pub view_of : LinkEnd → EndView
view_of e = passes.known_by e.pass

-- the history of the end
abbrev pub past_of : LinkEnd → List Event
past_of e = (view_of e).past

-- the end is one of this link's
abbrev pub IsOf : Link → LinkEnd → Type 0
IsOf link e = passes.IsOf link e.pass

-- memory was wanting as it took a frame, and it can't go on
abbrev pub is_over : LinkEnd → Bool
is_over e = e.over

-- the end can go on, and is one of this link's
pub record GoesOnAt (link : Link) (e : LinkEnd) : Type 0 where
  pub own : IsOf link e
  pub on : is_over e ≡ false

-- what comes next at the end that knows this
abbrev pub next_of : EndView → Next
next_of v = next_event v.side (limits_in v) v.past

-- it is a frame
abbrev pub is_emit : Next → Bool
is_emit (due.Post n) = false
is_emit (due.Emit frame) = true
is_emit due.Close = false
is_emit due.Idle = false
