-- Passes of a pool that meet.
use Rattle.std.specs.Prelude.{◌≡◌, ℕ, ◌<◌, ◌≤◌, List, length, map, slice_index_or, All}
use Rattle.smbd_base.specs.declared.page_event.PageEvent.{PageEvent}
use mathlib.Core.Option.{some}
use lib.ListN.{get_elem?}
use Rattle.smbd_base.specs.Pages.{entries_on}
use Rattle.smbd_base.specs.PagesFit.{PagesFit, events_by}
use Rattle.shared_pages.specs.declared.view.Opening.{Opening}
use Rattle.shared_pages.specs.declared.view.Sight.{Sight}
use Rattle.shared_pages.specs.Rule.{Log, IsPast, AreParts, Knows}

-- they are all the passes of the pool, in the order of their numbers
pub record AreAll (pool : Opening) (sights : List Sight) : Type 0 where
  pub count : length sights ≡ pool.seats
  pub numbered : (i : ℕ) (d : Sight) → i < length sights → (slice_index_or sights i d).number ≡ i

-- each of them has seen this of the pages
abbrev pub HaveSeen : List Log → List Sight → Type 0
HaveSeen seen sights = All (λ (v : Sight). v.seen ≡ seen) sights

-- the events that each of them made
abbrev pub lists_made : List Sight → List (List PageEvent)
lists_made sights = map (λ (v : Sight). v.made) sights

-- where all passes of a pool have seen the same, the lists of what they made fit together
abbrev pub MeetingMakesFit : Type 0
MeetingMakesFit = (pool : Opening) (seen : List Log) (sights : List Sight) → AreAll pool sights → All (λ (v : Sight). Knows pool v) sights
    → HaveSeen seen sights → PagesFit pool.first (lists_made sights)

-- each of them has seen this past of all pages
abbrev pub HaveSeenPast : Log → List Sight → Type 0
HaveSeenPast past sights = All (λ (v : Sight). v.past ≡ past) sights

-- the events that a pass made are its entries of this past, in their order
abbrev pub IsListOf : Log → Sight → Type 0
IsListOf past v = v.made ≡ events_by v.number past

-- what a pass has seen of each page is an older part of the page's entries in this past
abbrev pub HasPartsOf : Log → Sight → Type 0
HasPartsOf past v = AreParts past v.seen

-- One past of all pages that they have all seen. It is a run of the pool, and by its passes; what each of them made is its entries
-- there, in their order, and what each has seen of a page is there.
pub record HaveOnePast (pool : Opening) (sights : List Sight) : Type 0 where
  pub past : Log
  pub whole : IsPast pool past
  pub seen : HaveSeenPast past sights
  pub lists : All (IsListOf past) sights
  pub parts : All (HasPartsOf past) sights

-- where passes of a pool have seen the same past, it is the one past of all pages
abbrev pub MeetingMakesOnePast : Type 0
MeetingMakesOnePast = (pool : Opening) (past : Log) (sights : List Sight) → All (λ (v : Sight). Knows pool v) sights → HaveSeenPast past sights
    → HaveOnePast pool sights

-- where all passes of a pool have seen the same, what they have seen of each page is all of the page's entries in their past
abbrev pub MeetingSeesAll : Type 0
MeetingSeesAll = (pool : Opening) (past : Log) (seen : List Log) (sights : List Sight) → 1 ≤ pool.seats → AreAll pool sights
    → All (λ (v : Sight). Knows pool v) sights → HaveSeenPast past sights → HaveSeen seen sights
    → (page : ℕ) (log : Log) → get_elem? seen page ≡ some log → entries_on page past ≡ log
