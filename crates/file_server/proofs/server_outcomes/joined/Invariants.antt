use Rattle.std.proofs.Common.{◌≡◌, ◌+◌, ◌≤◌, ◌++◌, drop, vec_len, vec_capacity}
use Rattle.std.specs.List.{flat_map}
use Rattle.file_server.specs.ServerTurn.{fetched_in, outcome_bytes}
use Rattle.file_server.proofs.server_outcomes.joined.Given as goal

abbrev pub invariant-loop-outcome : goal.invariant-loop-outcome
invariant-loop-outcome l =
    (l.room.items ++ flat_map fetched_in (drop l.outcome-index l.outcomes) ≡ l.fn.room.items ++ flat_map fetched_in l.outcomes)
    × (vec_len l.room + outcome_bytes (drop l.outcome-index l.outcomes) ≤ vec_capacity l.room)
