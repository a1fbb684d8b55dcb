-- The places of a table.
use Rattle.std.specs.Prelude.{◌≡◌, ℕ, ◌<◌, List, length, slice_index_or}
use Rattle.atomic_table.specs.Seated.{TableId}
use Rattle.shared_records.specs.declared.place.Place.{Place}

-- each place has its page, and stands in the table of this name
abbrev pub ArePlaces : TableId → List Place → Type 0
ArePlaces name places = (page : ℕ) (none : Place) → page < length places
    → ((slice_index_or places page none).page ≡ page) × ((slice_index_or places page none).table.table_id ≡ name)
