use Rattle.std.specs.Prelude.{◌≤◌, ◌+◌, ◌⊎◌, ◌≡◌, ◌≢◌, ℕ, ◌<◌, ◌==◌, nat_le, if◌then◌else◌, List, [], ◌∷◌, ◌++◌, length, slice_set, Option, Some}
use mathlib.Core.Option.{some}
use mathlib.Core.Option as maybe
use lib.ListN.{get_elem?}
use Rattle.atomic_table.specs.Table.{State, Me, Step}
use Rattle.smbd_base.specs.declared.page_event.PageEvent.{PageEvent}
use Rattle.smbd_base.specs.Pages.{Entry, PageState, IsPageLife, IsPoolRun, page_in, page_state, entries_on}
use Rattle.smbd_base.specs.PagesFit.{AreMadeBy, events_by}
use Rattle.shared_pages.specs.declared.view.Opening.{Opening}
use Rattle.shared_pages.specs.declared.view.Hold.{Hold}
use Rattle.shared_pages.specs.declared.view.Hold.TheVariants.{Free, Has}
use Rattle.shared_pages.specs.declared.view.Sight.{Sight}
use Rattle.shared_pages.specs.declared.view.View.{View}
use Rattle.shared_pages.specs.declared.view.View.TheVariants.{Spent, Rest, One, Copy}

abbrev pub Slot : Type 0
Slot = Option PageState

abbrev pub Sat : Type 0
Sat = Me Slot View

abbrev pub Log : Type 0
Log = List Entry

abbrev pub mark : ℕ
mark = 18446744073709551615

-- the most passes of a pool, and the most events that one pass makes
abbrev pub most_passes : ℕ
most_passes = 32

abbrev pub most_events : ℕ
most_events = 144115188075855872

-- the second goes on after the first, which is its older part
abbrev pub Ends : Log → Log → Type 0
Ends older log = (newer : Log) × (newer ++ older ≡ log)

-- the entries of one pass
abbrev pub made_by : ℕ → Log → Log
made_by n [] = []
made_by n (e ∷ past) = if e.pass == n then e ∷ made_by n past else made_by n past

-- the events of a list that are on this page, in their order
abbrev pub events_on : ℕ → List PageEvent → List PageEvent
events_on page [] = []
events_on page (e ∷ events) = if page_in e == page then e ∷ events_on page events else events_on page events

-- each event is on one of so many pages
abbrev pub AreWithin : ℕ → List PageEvent → Type 0
AreWithin count [] = Unit {0}
AreWithin count (e ∷ events) = (page_in e < count) × AreWithin count events

-- the events that a pass made are, page by page, its entries of the logs
pub record IsMade (n : ℕ) (made : List PageEvent) (logs : List Log) : Type 0 where
  pub parts : (p : ℕ) (l : Log) → get_elem? logs p ≡ some l → events_on p made ≡ events_by n l
  pub within : AreWithin (length logs) made

-- each page's list is an older part of its log
abbrev pub AllEnd : List Log → List Log → Type 0
AllEnd [] [] = Unit {0}
AllEnd [] (l ∷ ls) = ⊥
AllEnd (m ∷ ms) [] = ⊥
AllEnd (m ∷ ms) (l ∷ ls) = Ends m l × AllEnd ms ls

-- a past of all pages of the pool: a run of it, by its passes, which leaves the pages so
pub record IsPast (pool : Opening) (past : Log) : Type 0 where
  pub pages : List PageState
  pub run : IsPoolRun pool.first pool.pages past pages
  pub by : AreMadeBy pool.seats past

-- all that the pass made was seen by it
abbrev pub AllSeen : ℕ → List Log → List Log → Type 0
AllSeen n [] ls = Unit {0}
AllSeen n (m ∷ ms) [] = Unit {0}
AllSeen n (m ∷ ms) (l ∷ ls) = (made_by n l ≡ made_by n m) × AllSeen n ms ls

abbrev pub IsHeld : Hold → List ℕ → List Log → List Log → Type 0
IsHeld Free words seen logs = Unit {0}
IsHeld (Has p) words seen logs = (get_elem? words p ≡ some mark) × (get_elem? seen p ≡ get_elem? logs p)

-- of each page, what was seen is an older part of the page's entries in this past of all pages
abbrev pub AreParts : Log → List Log → Type 0
AreParts past lists = (p : ℕ) (l : Log) → get_elem? lists p ≡ some l → Ends l (entries_on p past)

-- What a pass has seen of the past of all pages is an older part of it, and has all that the pass made; the events that it made are
-- its entries there, in their order. What it has seen of each page is in it.
pub record PastFits (past : Log) (v : Sight) : Type 0 where
  pub seen : Ends v.past past
  pub other : Ends v.other_past past
  pub own : made_by v.number past ≡ made_by v.number v.past
  pub list : v.made ≡ events_by v.number v.past
  pub parts : AreParts v.past v.seen
  pub other_parts : AreParts v.other_past v.other

pub record SightFits (seats : ℕ) (words : List ℕ) (logs : List Log) (past : Log) (v : Sight) : Type 0 where
  pub seen : AllEnd v.seen logs
  pub other : AllEnd v.other logs
  pub own : AllSeen v.number v.seen logs
  pub held : IsHeld v.hold words v.seen logs
  pub among : v.number < seats
  pub made : IsMade v.number v.made logs
  pub pasts : PastFits past v

abbrev pub ViewFits : ℕ → List ℕ → List Log → Log → View → Type 0
ViewFits seats words logs past Spent = Unit {0}
ViewFits seats words logs past (Rest k lists) =
    AllEnd lists logs × ((n : ℕ) → k ≤ n → AllSeen n lists logs) × ((n : ℕ) → k ≤ n → IsMade n [] logs) × ((n : ℕ) → k ≤ n → made_by n past ≡ []) × AreParts [] lists
ViewFits seats words logs past (One v) = SightFits seats words logs past v
ViewFits seats words logs past (Copy c older) = AllEnd c logs × Ends older past × AreParts older c

pub record Rests (words : List ℕ) (homes : List (maybe.Option Slot)) (first p : ℕ) (l : Log) : Type 0 where
  pub counted : get_elem? words p ≡ some (length l)
  pub lies : get_elem? homes p ≡ some (some (Some (page_state first l)))

pub record Kept (pool : Opening) (s : State Slot View) : Type 0 where
  pub logs : List Log
  pub least : 1 ≤ pool.first
  pub seats : pool.seats ≤ most_passes
  pub words : length s.words ≡ pool.pages
  pub homes : length s.homes ≡ pool.pages
  pub all : length logs ≡ pool.pages
  pub past : Log
  pub whole : IsPast pool past
  pub parts : (p : ℕ) (l : Log) → get_elem? logs p ≡ some l → entries_on p past ≡ l
  pub lawful : (p : ℕ) (l : Log) → get_elem? logs p ≡ some l → IsPageLife pool.first p l
  pub made : (p : ℕ) (l : Log) → get_elem? logs p ≡ some l → AreMadeBy pool.seats l
  pub few : (n p : ℕ) (l : Log) → get_elem? logs p ≡ some l → length (made_by n l) ≤ most_events
  pub rests : (p : ℕ) (l : Log) → get_elem? logs p ≡ some l → get_elem? s.words p ≢ some mark → Rests s.words s.homes pool.first p l
  pub views : (j : ℕ) (u : View) → get_elem? s.views j ≡ some u → ViewFits pool.seats s.words logs past u
  pub apart : (i j : ℕ) (v w : Sight) → get_elem? s.views i ≡ some (One v) → get_elem? s.views j ≡ some (One w) → v.number ≡ w.number → i ≡ j
  pub one_holder : (i j : ℕ) (v w : Sight) (p : ℕ) → get_elem? s.views i ≡ some (One v) → get_elem? s.views j ≡ some (One w) → v.hold ≡ Has p → w.hold ≡ Has p → i ≡ j
  pub below : (i j k : ℕ) (v : Sight) (lists : List Log) → get_elem? s.views i ≡ some (One v) → get_elem? s.views j ≡ some (Rest k lists) → v.number < k
  pub one_rest : (i j k m : ℕ) (lists others : List Log) → get_elem? s.views i ≡ some (Rest k lists) → get_elem? s.views j ≡ some (Rest m others) → i ≡ j

abbrev pub new_sight : ℕ → List Log → Sight
new_sight n empty = record { number = n; made = []; past = []; seen = empty; other_past = []; other = empty; hold = Free; refusals = 0 }

abbrev pub sight_of : View → Sight
sight_of Spent = new_sight 0 []
sight_of (Rest k lists) = new_sight k lists
sight_of (One v) = v
sight_of (Copy c past) = new_sight 0 []

-- The past of all pages up to a step, after what the pass had seen of it. The pass made no entry meanwhile, and this is the
-- page's part.
pub record IsPastAfter (page : ℕ) (v : Sight) (log past : Log) : Type 0 where
  pub extends : Ends v.past past
  pub own : made_by v.number past ≡ made_by v.number v.past
  pub part : entries_on page past ≡ log

-- the page is held, and all of its log was seen, and the past of all pages up to here
abbrev pub holding : Sight → ℕ → Log → Log → Sight
holding v p l past = record v { past = past; seen = slice_set v.seen p l; hold = Has p }

-- the page is let go, as it was
abbrev pub let_go : Sight → Sight
let_go v = record v { hold = Free }

-- the page is let go, with one event more, after this past of all pages
abbrev pub gave : Sight → ℕ → PageEvent → Log → Log → Sight
gave v p event l past = record v {
  made = event ∷ v.made;
  past = (record { pass = v.number; event = event }) ∷ past;
  seen = slice_set v.seen p ((record { pass = v.number; event = event }) ∷ l);
  hold = Free;
}

-- its swap showed the page in the hands of another pass
abbrev pub refused : Sight → Sight
refused v = record v { refusals = v.refusals + 1 }

-- the page was in the hands of another pass, or it is now in those of this one, which sees its whole life up to here
abbrev pub held : ℕ → Step Slot → Sat → ℕ → Sat → Type 0
held first st m r n = (r ≡ mark → n ≡ (One (refused (sight_of m.0)), m.1))
    × (r ≢ mark → (l : Log) × (past : Log) × (n ≡ (One (holding (sight_of m.0) st.word l past), (st.word, Some (page_state first l)) ∷ [])) × (r ≡ length l) × IsPageLife first st.word l
    × ((older : Log) → get_elem? (sight_of m.0).seen st.word ≡ some older → Ends older l × (made_by (sight_of m.0).number l ≡ made_by (sight_of m.0).number older))
    × (length l + 1 < mark) × (get_elem? (slice_set (sight_of m.0).seen st.word l) st.word ≡ some l) × (length (made_by (sight_of m.0).number l) ≤ length (sight_of m.0).made)
    × IsPastAfter st.word (sight_of m.0) l past)

-- the page is given back as it was
abbrev pub kept : Step Slot → Sat → ℕ → Sat → Type 0
kept st m r n = n ≡ (One (let_go (sight_of m.0)), [])

-- the page went back with one event more, which is the newest one of all pages
abbrev pub HasGiven : PageEvent → ℕ → Sat → Sat → Type 0
HasGiven event page m n = (l : Log) → get_elem? (sight_of m.0).seen page ≡ some l
    → (past : Log) × (n ≡ (One (gave (sight_of m.0) page event l past), [])) × IsPastAfter page (sight_of m.0) l past

-- the page is given back with one event more
abbrev pub given : PageEvent → Step Slot → Sat → ℕ → Sat → Type 0
given event st m r n = HasGiven event st.word m n

-- of two lists of one page, the longer one
abbrev pub longer : Log → Log → Log
longer a b = if nat_le (length a) (length b) then b else a

abbrev pub longest : List Log → List Log → List Log
longest [] ys = []
longest (a ∷ xs) [] = a ∷ xs
longest (a ∷ xs) (b ∷ ys) = longer a b ∷ longest xs ys

-- one list of each page is an older part of the other
abbrev pub AllCompare : List Log → List Log → Type 0
AllCompare [] [] = Unit {0}
AllCompare [] (b ∷ ys) = ⊥
AllCompare (a ∷ xs) [] = ⊥
AllCompare (a ∷ xs) (b ∷ ys) = (Ends a b ⊎ Ends b a) × AllCompare xs ys

abbrev pub copied : View → View
copied Spent = Spent
copied (Rest k lists) = Spent
copied (One v) = Copy v.seen v.past
copied (Copy c past) = Copy c past

abbrev pub beside : Sight → View → View
beside v Spent = One v
beside v (Rest k lists) = One v
beside v (One w) = One v
beside v (Copy c past) = One (record v { other_past = past; other = c })

abbrev pub joined : View → View → View
joined Spent w = Spent
joined (Rest k lists) w = Rest k lists
joined (One v) w = beside v w
joined (Copy c past) w = Copy c past

abbrev pub learned : Sight → Sight
learned v = record v { past = longer v.past v.other_past; seen = longest v.seen v.other }

-- What a pass knows of its pool: of each page a lawful life, whose entries its passes made. Its own events are, page by page,
-- its entries of these lives. The past of all pages that it has seen is a run of the pool, which has these lives, and in which its
-- own events are its entries, in their order.
pub record Knows (pool : Opening) (v : Sight) : Type 0 where
  pub least : 1 ≤ pool.first
  pub pages : length v.seen ≡ pool.pages
  pub lives : (page : ℕ) (log : Log) → get_elem? v.seen page ≡ some log → IsPageLife pool.first page log
  pub by : (page : ℕ) (log : Log) → get_elem? v.seen page ≡ some log → AreMadeBy pool.seats log
  pub own : IsMade v.number v.made v.seen
  pub past : IsPast pool v.past
  pub list : v.made ≡ events_by v.number v.past
  pub parts : AreParts v.past v.seen

-- of two pasts one is an older part of the other
abbrev pub Compare : Log → Log → Type 0
Compare a b = Ends a b ⊎ Ends b a

-- a pass learns what the other has seen; the one's lists go on where the other's end
abbrev pub met : Opening → Step Slot → Sat → ℕ → Sat → Type 0
met pool st m r n = (n ≡ (One (learned (sight_of m.0)), m.1)) × AllCompare (sight_of m.0).seen (sight_of m.0).other
    × Knows pool (learned (sight_of m.0)) × Compare (sight_of m.0).past (sight_of m.0).other_past

-- nothing changes
abbrev pub looked : Opening → Step Slot → Sat → ℕ → Sat → Type 0
looked pool st m r n = (n ≡ m) × Knows pool (sight_of m.0)

abbrev pub fewer : View → View
fewer Spent = Spent
fewer (Rest k lists) = Rest (k + 1) lists
fewer (One v) = One v
fewer (Copy c past) = Copy c past

abbrev pub next_pass : View → View
next_pass Spent = Spent
next_pass (Rest k lists) = One (new_sight k lists)
next_pass (One v) = Spent
next_pass (Copy c past) = Spent
