-- When the lists of page events that the passes of one pool made fit together (this project's own). Each pass has its
-- own list, the newest event first; nothing here asks in which order events of two passes came.
use Rattle.std.specs.Prelude.{◌≡◌, ℕ, zero, suc, ◌-◌, ◌==◌, ◌<◌, ◌≤◌, nat_lt, Bool, false, ◌&&◌, if◌then◌else◌, Contains, count_by, List, [], ◌∷◌, ◌++◌, length}
use Rattle.std.specs.List.{flat_map}
use Rattle.smbd_base.specs.declared.right.Right.{Right}
use Rattle.smbd_base.specs.declared.right.Right.TheVariants as right
use Rattle.smbd_base.specs.declared.page_event.PageEvent.{PageEvent}
use Rattle.smbd_base.specs.declared.page_event.PageEvent.TheVariants.{Load, Fetch, Place, Unload}
use Rattle.smbd_base.specs.Tokens.{PageToken}
use Rattle.smbd_base.specs.Pages.{Entry, token_in, page_in, whole_page, part_of, overlaid}

abbrev pub is_token : PageToken → PageToken → Bool
is_token t u = t.page == u.page && t.generation == u.generation

-- the event is a load of this token
abbrev pub is_load_of : PageToken → PageEvent → Bool
is_load_of t (Load token right bytes) = is_token t token
is_load_of t (Fetch token at bytes) = false
is_load_of t (Place token order at bytes) = false
is_load_of t (Unload token bytes) = false

-- the event is an unload of this token
abbrev pub is_unload_of : PageToken → PageEvent → Bool
is_unload_of t (Load token right bytes) = false
is_unload_of t (Fetch token at bytes) = false
is_unload_of t (Place token order at bytes) = false
is_unload_of t (Unload token bytes) = is_token t token

-- the event is a place under this token
abbrev pub is_place_under : PageToken → PageEvent → Bool
is_place_under t (Load token right bytes) = false
is_place_under t (Fetch token at bytes) = false
is_place_under t (Place token order at bytes) = is_token t token
is_place_under t (Unload token bytes) = false

-- the event is the place of this order under this token
abbrev pub is_place_at : PageToken → ℕ → PageEvent → Bool
is_place_at t n (Load token right bytes) = false
is_place_at t n (Fetch token at bytes) = false
is_place_at t n (Place token order at bytes) = is_token t token && n == order
is_place_at t n (Unload token bytes) = false

-- the token is loaded by an event of the list
abbrev pub HasLoad : List PageEvent → PageToken → Type 0
HasLoad events t = 1 ≤ count_by (is_load_of t) events

-- the token is unloaded by an event of the list
abbrev pub HasUnload : List PageEvent → PageToken → Type 0
HasUnload events t = 1 ≤ count_by (is_unload_of t) events

-- the token of the generation before
abbrev pub token_before : PageToken → PageToken
token_before t = record { page = t.page; generation = t.generation - 1 }

-- the content after so many places under a token, one over the other in the order of their numbers
abbrev pub IsPlacedOver : List PageEvent → PageToken → List ℕ → ℕ → List ℕ → Type 0
IsPlacedOver events t loaded zero content = content ≡ loaded
IsPlacedOver events t loaded (suc n) content =
    (at : ℕ) × (bytes : List ℕ) × (before : List ℕ) × Contains events (Place t n at bytes)
    × IsPlacedOver events t loaded n before × (content ≡ overlaid at bytes before)

-- A token is loaded at most once and unloaded at most once. The loads of a page have consecutive generations, from the
-- first one on, and all but the last have their unload.
pub record AreLoadsInTurn (first : ℕ) (events : List PageEvent) : Type 0 where
  pub loads : (t : PageToken) → count_by (is_load_of t) events ≤ 1
  pub unloads : (t : PageToken) → count_by (is_unload_of t) events ≤ 1
  pub from : (t : PageToken) → HasLoad events t → first ≤ t.generation
  pub steps : (t : PageToken) → HasLoad events t → first < t.generation → HasLoad events (token_before t)
  pub ended : (t u : PageToken) → HasLoad events t → HasLoad events u → t.page ≡ u.page → t.generation < u.generation → HasUnload events t

-- what is fetched, placed or unloaded under a token agrees with the token's load
pub record AgreeWithLoads (events : List PageEvent) : Type 0 where
  pub loaded : (e : PageEvent) → Contains events e → HasLoad events (token_in e)
  pub orders : (t : PageToken) (n : ℕ) →
      count_by (is_place_at t n) events ≡ (if nat_lt n (count_by (is_place_under t) events) then 1 else 0)
  pub fetches : (t : PageToken) (at : ℕ) (bytes loaded : List ℕ) (r : Right) → Contains events (Fetch t at bytes)
      → Contains events (Load t r loaded) → (r ≡ right.Fetch) × (bytes ≡ part_of at (length bytes) (whole_page loaded))
  pub places : (t : PageToken) (n at : ℕ) (bytes loaded : List ℕ) (r : Right) → Contains events (Place t n at bytes)
      → Contains events (Load t r loaded) → r ≡ right.Place
  pub contents : (t : PageToken) (bytes loaded : List ℕ) (r : Right) → Contains events (Unload t bytes)
      → Contains events (Load t r loaded)
      → IsPlacedOver events t (whole_page loaded) (count_by (is_place_under t) events) bytes

-- what one pass may do after what it did before
pub record MayPrecede (before after : PageEvent) : Type 0 where
  pub load_first : (r : Right) (bytes : List ℕ) → after ≡ Load (token_in before) r bytes → ⊥
  pub unload_last : (bytes : List ℕ) → before ≡ Unload (token_in after) bytes → ⊥
  pub orders_rise : (t : PageToken) (m n at to : ℕ) (old new : List ℕ) → before ≡ Place t m at old → after ≡ Place t n to new → m < n
  pub generations_rise : page_in before ≡ page_in after → (token_in before).generation ≤ (token_in after).generation

-- each event of one list may come after those before it
abbrev pub AllMayPrecede : List PageEvent → PageEvent → Type 0
AllMayPrecede [] event = Unit {0}
AllMayPrecede (before ∷ past) event = MayPrecede before event × AllMayPrecede past event

abbrev pub IsInOrder : List PageEvent → Type 0
IsInOrder [] = Unit {0}
IsInOrder (event ∷ past) = AllMayPrecede past event × IsInOrder past

abbrev pub AreInOrder : List (List PageEvent) → Type 0
AreInOrder [] = Unit {0}
AreInOrder (list ∷ lists) = IsInOrder list × AreInOrder lists

-- the events of all lists
abbrev pub all_events : List (List PageEvent) → List PageEvent
all_events lists = flat_map (λ (list : List PageEvent). list) lists

-- the lists of the passes of one pool fit together
pub record PagesFit (first : ℕ) (lists : List (List PageEvent)) : Type 0 where
  pub turns : AreLoadsInTurn first (all_events lists)
  pub contents : AgreeWithLoads (all_events lists)
  pub order : AreInOrder lists

-- the events that one pass made, in their order
abbrev pub events_by : ℕ → List Entry → List PageEvent
events_by pass [] = []
events_by pass (e ∷ past) = if e.pass == pass then e.event ∷ events_by pass past else events_by pass past

-- the lists of so many passes
abbrev pub lists_of : ℕ → List Entry → List (List PageEvent)
lists_of zero past = []
lists_of (suc n) past = lists_of n past ++ events_by n past ∷ []

-- each entry was made by one of so many passes
abbrev pub AreMadeBy : ℕ → List Entry → Type 0
AreMadeBy seats [] = Unit {0}
AreMadeBy seats (e ∷ past) = (e.pass < seats) × AreMadeBy seats past
