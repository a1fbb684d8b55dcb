-- The places that stand.
use Rattle.std.proofs.Common.{◌≡◌, length}
use Rattle.shared_records.specs.Places.{ArePlaces}
use Rattle.shared_records.proofs.table.TokenTable.open.Given as goal

abbrev pub invariant-loop-page : goal.invariant-loop-page
invariant-loop-page l = (l.place.table.table_id ≡ l.name.shared.table_id) × (length l.slots.items ≡ l.page)
    × ArePlaces l.name.shared.table_id l.slots.items
