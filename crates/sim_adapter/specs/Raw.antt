-- A plain adapter on one thread: the receives that are posted on it, and the frames that wait in some of them (this project's own).
use Rattle.std.specs.Prelude.{ℕ, ◌+◌, ◌-◌, ◌≤◌, ◌==◌, List, [], ◌∷◌, ◌++◌, length, if◌then◌else◌}
use Rattle.sim_adapter.specs.declared.raw_link.Arrive.{Arrive}
use Rattle.sim_adapter.specs.declared.raw_link.Arrive.TheVariants.{Placed, Unposted}

-- for how many frames there is room, how many of the receives that were posted had no frame placed in them yet, and the frames
-- that were placed and not taken, the oldest one first
pub record Adapter : Type 0 where
  pub receives : ℕ
  pub free : ℕ
  pub waiting : List (List ℕ)

-- frames and receives have room
pub record HasRoom (adapter : Adapter) : Type 0 where
  pub fits : length adapter.waiting + adapter.free ≤ adapter.receives

-- all receives are posted, and nothing has arrived
abbrev pub opened_adapter : ℕ → Adapter
opened_adapter receives = record { receives = receives; free = receives; waiting = [] }

-- so many receives more are posted
abbrev pub with_receives : ℕ → Adapter → Adapter
with_receives n adapter = record adapter { free = adapter.free + n }

-- A frame has arrived: it is placed in a receive, unless as many frames were placed as receives were posted.
abbrev pub with_arrival : List ℕ → Adapter → Adapter
with_arrival frame adapter =
    if adapter.free == 0 then adapter
    else record adapter { free = adapter.free - 1; waiting = adapter.waiting ++ frame ∷ [] }

abbrev pub arrival : List ℕ → Adapter → Arrive
arrival frame adapter = if adapter.free == 0 then Unposted frame else Placed
