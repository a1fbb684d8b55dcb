-- How the passes of a pool come to have seen the same.
use Rattle.std.specs.Prelude.{◌≡◌, ℕ, ◌<◌, ◌≤◌, List, ◌∷◌, length, slice_index_or}
use Rattle.shared_pages.specs.declared.pages.Pages.{Pages}
use Rattle.shared_pages.specs.declared.page_pass.PagePass.{PagePass}
use Rattle.shared_pages.specs.Rule.{Log, AllEnd, Knows}
use Rattle.shared_pages.specs.Calls.{IsOf, MadeAsMuch, known_by, opening_of}

-- what a pass has seen: first the past of all pages, then of each page its part
abbrev pub seen_by : PagePass → List Log
seen_by pass = (known_by pass).past ∷ (known_by pass).seen

-- the pass has met others: it knows at least what it knew, and has made the same
pub record HasMet (pool : Pages) (old new : PagePass) : Type 0 where
  pub own : IsOf pool new
  pub made : MadeAsMuch (known_by old) (known_by new)
  pub older : AllEnd (seen_by old) (seen_by new)
  pub knows : Knows (opening_of pool) (known_by new)

-- two passes have met; the first learns nothing where the second had seen no more
pub record HaveMet (pool : Pages) (one other now then : PagePass) : Type 0 where
  pub first : HasMet pool one now
  pub second : HasMet pool other then
  pub even : seen_by then ≡ seen_by now
  pub still : AllEnd (seen_by other) (seen_by one) → seen_by now ≡ seen_by one

-- the first pass met so many of the others, one after the other
pub record Swept (pool : Pages) (k : ℕ) (one now : PagePass) (olds news : List PagePass) : Type 0 where
  pub count : length news ≡ length olds
  pub own : IsOf pool now
  pub made : MadeAsMuch (known_by one) (known_by now)
  pub older : AllEnd (seen_by one) (seen_by now)
  pub knows : Knows (opening_of pool) (known_by one) → Knows (opening_of pool) (known_by now)
  pub met : (i : ℕ) (d : PagePass) → i < k → HasMet pool (slice_index_or olds i d) (slice_index_or news i d)
  pub below : (i : ℕ) (d : PagePass) → i < k → AllEnd (seen_by (slice_index_or news i d)) (seen_by now)
  pub above : (i : ℕ) (d : PagePass) → k ≤ i → slice_index_or news i d ≡ slice_index_or olds i d
  pub even : ((i : ℕ) (d : PagePass) → i < length olds → AllEnd (seen_by (slice_index_or olds i d)) (seen_by one))
      → (seen_by now ≡ seen_by one) × ((i : ℕ) (d : PagePass) → i < k → seen_by (slice_index_or news i d) ≡ seen_by now)

-- the first pass met all others, and all have seen the same
pub record HaveMetFirst (pool : Pages) (one now : PagePass) (olds news : List PagePass) : Type 0 where
  pub count : length news ≡ length olds
  pub first : HasMet pool one now
  pub met : (i : ℕ) (d : PagePass) → i < length olds → HasMet pool (slice_index_or olds i d) (slice_index_or news i d)
  pub even : (i : ℕ) (d : PagePass) → i < length olds → seen_by (slice_index_or news i d) ≡ seen_by now

-- all passes have met, and have seen the same: of all pages this past, and of each page this part
pub record HaveAllMet (pool : Pages) (olds news : List PagePass) : Type 0 where
  pub count : length news ≡ length olds
  pub past : Log
  pub seen : List Log
  pub met : (i : ℕ) (d : PagePass) → i < length olds → HasMet pool (slice_index_or olds i d) (slice_index_or news i d)
  pub even : (i : ℕ) (d : PagePass) → i < length olds → seen_by (slice_index_or news i d) ≡ past ∷ seen
