-- What an end keeps: the messages that wait are those that are still to be sent, the gatherer has what the past has begun,
-- the prepared event is the one that comes next, and there is room for it and for a Cut.
use Rattle.std.specs.Prelude.{◌≡◌, ℕ, ◌≤◌, true, false, is_some, Option, Some, None}
use Rattle.reassembly.specs.Gathering.{Gathering}
use Rattle.smbd_base.specs.declared.event.Event.{Event}
use Rattle.smbd_base.specs.Limits.{IsLawful}
use Rattle.smbd_base.specs.History.{is_cut, is_new, next_event, due_event, IsLegal}
use Rattle.connection_core.specs.Gatherer.{gatherer_of}
use Rattle.connection_core.specs.Queue.{Queued, Queues}
use Rattle.connection_core.specs.Tracked.{Tracked}

-- the events for which there has to be room
abbrev pub room_for : Option Event → ℕ
room_for None = 1
room_for (Some e) = 2

pub record Holds (t : Tracked) (q : Queued) (gather : Gathering) (prepared : Option Event) : Type 0 where
  pub lawful : IsLawful t.limits
  pub opened : is_new t.past ≡ false
  pub legal : IsLegal t.side t.limits t.past
  pub queue : Queues t.side t.limits t.past q
  pub begun : gather ≡ gatherer_of t.side t.limits t.past
  pub next : is_some prepared ≡ true → prepared ≡ due_event (next_event t.side t.limits t.past)
  pub room : is_cut t.past ≡ false → room_for prepared ≤ t.room
