-- What the calls of a pool tell a pass.
use Rattle.std.specs.Prelude.{◌≡◌, ◌≢◌, ℕ, ◌+◌, ◌<◌, ◌≤◌, List, [], ◌∷◌, length, replicate, slice_set, None}
use mathlib.Core.Option.{some}
use lib.ListN.{get_elem?}
use Rattle.smbd_base.specs.declared.token.TheConstants.{LAST_GENERATION}
use Rattle.smbd_base.specs.declared.page_event.PageEvent.{PageEvent}
use Rattle.smbd_base.specs.Pages.{PageState, IsPageLife, IsPageStep, page_in, page_state, page_after}
use Rattle.shared_pages.specs.declared.view.Opening.{Opening}
use Rattle.shared_pages.specs.declared.view.Sight.{Sight}
use Rattle.shared_pages.specs.declared.view.Hold.TheVariants.{Has}
use Rattle.shared_pages.specs.declared.view.View.TheVariants.{One}
use Rattle.shared_pages.specs.declared.pages.Pages.{Pages}
use Rattle.shared_pages.specs.declared.page_pass.PagePass.{PagePass}
use Rattle.shared_pages.specs.declared.answers.Load.{Load}
use Rattle.shared_pages.specs.declared.answers.Access.{Access}
use Rattle.shared_pages.specs.declared.answers.Access.TheVariants as access
use Rattle.smbd_base.specs.declared.right.Right.{Right}
use Rattle.smbd_base.specs.declared.page_event.PageEvent.TheVariants as events
use Rattle.shared_pages.specs.Answers.{load_answer, IfLoaded, OnRefused}
use Rattle.shared_pages.specs.Rule.{Log, Sat, Ends, Compare, IsPastAfter, made_by, mark, most_events, sight_of, holding, longer, new_sight}

-- what a pass knows
abbrev pub known_by : PagePass → Sight
known_by pass = sight_of pass.seat.me.0

-- how the pool was opened
abbrev pub opening_of : Pages → Opening
opening_of pages = pages.table.shared.key

-- it is a pass of this pool
abbrev pub IsOf : Pages → PagePass → Type 0
IsOf pages pass = pass.seat.table_id ≡ pages.table.shared.table_id

-- a pass of this number that was just made: it has seen nothing
abbrev pub IsNew : Pages → ℕ → PagePass → Type 0
IsNew pages n pass = IsOf pages pass × (known_by pass ≡ new_sight n (replicate (opening_of pages).pages []))

-- passes that were just made, with the numbers from this one on
abbrev pub AreNew : Pages → ℕ → List PagePass → Type 0
AreNew pages n [] = Unit {0}
AreNew pages n (pass ∷ passes) = IsNew pages n pass × AreNew pages (n + 1) passes

-- the pass has made the same events
pub record MadeAsMuch (old new : Sight) : Type 0 where
  pub number : new.number ≡ old.number
  pub made : new.made ≡ old.made

-- the pass has seen this of the page's life
abbrev pub HasSeen : Sight → ℕ → Log → Type 0
HasSeen v page log = get_elem? v.seen page ≡ some log

-- the pass made fewer than 2 ^ 57 events
abbrev pub MayMake : Sight → Type 0
MayMake v = length v.made < most_events

-- The life of a page up to a call, after what the pass had seen of it. The pass made no entry meanwhile.
pub record IsLifeAfter (first page : ℕ) (v : Sight) (log : Log) : Type 0 where
  pub lawful : IsPageLife first page log
  pub extends : (older : Log) → HasSeen v page older → Ends older log
  pub own : (older : Log) → HasSeen v page older → made_by v.number log ≡ made_by v.number older

-- the page is in the hands of the pass, which has seen its life up to here
pub record IsInHand (first page : ℕ) (old new : Sat) (count : ℕ) (content : PageState) : Type 0 where
  pub log : Log
  pub life : IsLifeAfter first page (sight_of old.0) log
  pub past : Log
  pub after : IsPastAfter page (sight_of old.0) log past
  pub seat : new ≡ (One (holding (sight_of old.0) page log past), (page, None) ∷ [])
  pub counted : count ≡ length log
  pub stands : content ≡ page_state first log
  pub countable : length log + 1 < mark
  pub seen : HasSeen (holding (sight_of old.0) page log past) page log
  pub few : length (made_by (sight_of old.0).number log) ≤ length (sight_of old.0).made

-- the page may be given back with the event
pub record MayGive (first page : ℕ) (event : PageEvent) (me : Sat) (count : ℕ) (content : PageState) : Type 0 where
  pub log : Log
  pub sight : Sight
  pub seat : me ≡ (One sight, (page, None) ∷ [])
  pub hold : sight.hold ≡ Has page
  pub seen : HasSeen sight page log
  pub on : page_in event ≡ page
  pub step : IsPageStep event (page_state first log)
  pub after : content ≡ page_after event (page_state first log)
  pub counted : count ≡ length log
  pub countable : length log + 1 < mark
  pub few : length (made_by sight.number log) < most_events

-- the page may be given back as it was
pub record MayLetGo (first page : ℕ) (me : Sat) (count : ℕ) (content : PageState) : Type 0 where
  pub log : Log
  pub sight : Sight
  pub seat : me ≡ (One sight, (page, None) ∷ [])
  pub hold : sight.hold ≡ Has page
  pub seen : HasSeen sight page log
  pub stands : content ≡ page_state first log
  pub counted : count ≡ length log

-- what a pass knows once it has seen this of the page's life, and this past of all pages
abbrev pub with_log : Sight → ℕ → Log → Log → Sight
with_log v page log past = record v { past = past; seen = slice_set v.seen page log }

-- what it knows when it has made the event, after this life of the page and this past of all pages
abbrev pub with_event : Sight → ℕ → PageEvent → Log → Log → Sight
with_event v page event log past = record v {
  made = event ∷ v.made;
  past = (record { pass = v.number; event = event }) ∷ past;
  seen = slice_set v.seen page ((record { pass = v.number; event = event }) ∷ log);
}

-- What a load that isn't Busy tells its pass: it has seen the page's life up to the call, and the answer is that of the state
-- that this life leaves. Where the page was loaded, the life goes on with that step, else it stays; so does the past of all pages,
-- of which the life is the page's part.
pub record LoadTells (first page : ℕ) (right : Right) (bytes : List ℕ) (old new : Sight) (result : Load) : Type 0 where
  pub log : Log
  pub life : IsLifeAfter first page old log
  pub past : Log
  pub after : IsPastAfter page old log past
  pub most : (page_state first log).generation ≤ LAST_GENERATION
  pub answer : result ≡ load_answer page (page_state first log)
  pub loaded : IfLoaded result (λ token. IsPageStep (events.Load token right bytes) (page_state first log)
      × (new ≡ with_event old page (events.Load token right bytes) log past))
  pub refused : OnRefused result (new ≡ with_log old page log past)

-- The same for an access, whose event follows from the state that was found.
pub record AccessTells (first page : ℕ) (event : PageState → PageEvent) (answer_at : PageState → Access) (old new : Sight) (result : Access) : Type 0 where
  pub log : Log
  pub life : IsLifeAfter first page old log
  pub past : Log
  pub after : IsPastAfter page old log past
  pub answer : result ≡ answer_at (page_state first log)
  pub done : result ≡ access.Done → IsPageStep (event (page_state first log)) (page_state first log)
      × (new ≡ with_event old page (event (page_state first log)) log past)
  pub refused : result ≢ access.Done → new ≡ with_log old page log past

-- Two passes met: of their pasts one was an older part of the other, and both then have the longer one.
pub record PastsMet (one other now then : Sight) : Type 0 where
  pub compare : Compare one.past other.past
  pub first : now.past ≡ longer one.past other.past
  pub even : then.past ≡ now.past

-- the pass made this event, and no other
abbrev pub Makes : PageEvent → Sight → Sight → Type 0
Makes event old new = new.made ≡ event ∷ old.made
