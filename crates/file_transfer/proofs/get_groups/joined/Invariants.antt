use Rattle.std.proofs.Common.{◌≡◌, ◌+◌, ◌≤◌, ◌++◌, drop, map, vec_len, vec_capacity}
use Rattle.std.specs.List.{flat_map}
use Rattle.file_transfer.specs.GetPagesStand.{back_in, same_bytes, sizes}
use Rattle.file_transfer.proofs.get_groups.joined.Given as goal

abbrev pub invariant-loop-slot : goal.invariant-loop-slot
invariant-loop-slot l =
    (l.room.items ++ flat_map same_bytes (map back_in (drop l.slot-index l.slots.items)) ≡ l.fn.room.items ++ flat_map same_bytes (map back_in l.slots.items))
    × (vec_len l.room + sizes (map back_in (drop l.slot-index l.slots.items)) ≤ vec_capacity l.room)
