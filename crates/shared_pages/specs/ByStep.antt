-- What a pool answers, told by the steps that the life of a page allows, and by its places.
use Rattle.std.specs.Prelude.{◌≡◌, ◌↔◌, ℕ, ◌+◌, ◌≤◌, None, List, length, count_by}
use Rattle.smbd_base.specs.declared.token.TheConstants.{PAGE_SIZE, LAST_GENERATION}
use Rattle.smbd_base.specs.declared.right.Right.{Right}
use Rattle.smbd_base.specs.declared.right.Right.TheVariants as right
use Rattle.smbd_base.specs.declared.page_event.PageEvent.TheVariants as events
use Rattle.smbd_base.specs.Tokens.{PageToken}
use Rattle.smbd_base.specs.Pages.{Entry, LoadedPage, PageState, IsLoadedAs, IsPageStep, IsPageLife, page_state}
use Rattle.smbd_base.specs.PagesFit.{is_place_under}
use Rattle.shared_pages.specs.declared.answers.Load.TheVariants.{Loaded, Live, Spent}
use Rattle.shared_pages.specs.declared.answers.Access.TheVariants.{Done, Stale, WrongRight, Worn}
use Rattle.shared_pages.specs.Answers.{load_answer, fetch_answer, place_answer, unload_answer}

-- the page is loaded under the token
pub record IsLoadedUnder (token : PageToken) (s : PageState) : Type 0 where
  pub page : LoadedPage
  pub loaded : IsLoadedAs token page s

-- and the token gives this right
pub record IsLoadedFor (token : PageToken) (right : Right) (s : PageState) : Type 0 where
  pub page : LoadedPage
  pub loaded : IsLoadedAs token page s
  pub gives : page.right ≡ right

-- how many places under the token a life has
abbrev pub places_under : PageToken → List Entry → ℕ
places_under token life = count_by (λ (e : Entry). is_place_under token e.event) life

-- the page may be loaded with the bytes under the token
pub record MayLoad (page : ℕ) (token : PageToken) (right : Right) (bytes : List ℕ) (s : PageState) : Type 0 where
  pub on : token.page ≡ page
  pub most : token.generation ≤ LAST_GENERATION
  pub step : IsPageStep (events.Load token right bytes) s

-- so many bytes may be fetched from this place on
pub record MayFetch (token : PageToken) (at count : ℕ) (s : PageState) : Type 0 where
  pub bytes : List ℕ
  pub long : length bytes ≡ count
  pub step : IsPageStep (events.Fetch token at bytes) s

-- the page may be unloaded
pub record MayUnload (token : PageToken) (s : PageState) : Type 0 where
  pub bytes : List ℕ
  pub step : IsPageStep (events.Unload token bytes) s

-- a load is done exactly where it is a step; else the page is loaded, or has had the last generation
pub record LoadsByStep (page : ℕ) (right : Right) (bytes : List ℕ) (s : PageState) : Type 0 where
  pub loaded : (token : PageToken) → (load_answer page s ≡ Loaded token) ↔ MayLoad page token right bytes s
  pub live : (token : PageToken) → (load_answer page s ≡ Live token) ↔ ((token.page ≡ page) × IsLoadedUnder token s)
  pub spent : (load_answer page s ≡ Spent) ↔ ((s.loaded ≡ None) × (s.generation ≡ LAST_GENERATION))

pub record FetchesByStep (token : PageToken) (s : PageState) : Type 0 where
  pub done : (at count : ℕ) → at + count ≤ PAGE_SIZE → (fetch_answer token s ≡ Done) ↔ MayFetch token at count s
  pub stale : (fetch_answer token s ≡ Stale) ↔ (IsLoadedUnder token s → ⊥)
  pub wrong : (fetch_answer token s ≡ WrongRight) ↔ IsLoadedFor token right.Place s

-- the order of a place that is done is the number of those before it
pub record PlacesByStep (token : PageToken) (life : List Entry) (s : PageState) : Type 0 where
  pub done : (order at : ℕ) (bytes : List ℕ) → at + length bytes ≤ PAGE_SIZE
      → IsPageStep (events.Place token order at bytes) s ↔ ((place_answer token s ≡ Done) × (order ≡ places_under token life))
  pub stale : (place_answer token s ≡ Stale) ↔ (IsLoadedUnder token s → ⊥)
  pub wrong : (place_answer token s ≡ WrongRight) ↔ IsLoadedFor token right.Fetch s
  pub worn : (place_answer token s ≡ Worn) ↔ (IsLoadedFor token right.Place s × (places_under token life ≡ 65535))

pub record UnloadsByStep (token : PageToken) (s : PageState) : Type 0 where
  pub done : (unload_answer token s ≡ Done) ↔ MayUnload token s
  pub stale : (unload_answer token s ≡ Stale) ↔ (IsLoadedUnder token s → ⊥)

-- of every state whose generation a token can have, and of all bytes that fit a page
abbrev pub AnswersLoads : Type 0
AnswersLoads = (page : ℕ) (right : Right) (bytes : List ℕ) (s : PageState) → s.generation ≤ LAST_GENERATION → length bytes ≤ PAGE_SIZE
    → LoadsByStep page right bytes s

-- of every life of the token's page
abbrev pub AnswersFetches : Type 0
AnswersFetches = (first : ℕ) (token : PageToken) (life : List Entry) → IsPageLife first token.page life
    → FetchesByStep token (page_state first life)

abbrev pub AnswersPlaces : Type 0
AnswersPlaces = (first : ℕ) → 1 ≤ first → (token : PageToken) (life : List Entry) → IsPageLife first token.page life
    → PlacesByStep token life (page_state first life)

abbrev pub AnswersUnloads : Type 0
AnswersUnloads = (token : PageToken) (s : PageState) → UnloadsByStep token s
