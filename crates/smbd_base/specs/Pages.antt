-- The life of a page of a pool (this project's own; MS-SMBD 3.1.4 has a registered buffer only). A page is loaded under
-- a token, fetched from or placed into by the peer, and unloaded again. A past is a list, the newest event first.
use Rattle.std.specs.Prelude.{◌≡◌, ℕ, ◌+◌, ◌-◌, ◌==◌, ◌<◌, ◌≤◌, if◌then◌else◌, Option, Some, None, List, [], ◌∷◌, ◌++◌, length, take, drop, replicate, slice_index_or, slice_set}
use Rattle.smbd_base.specs.declared.right.Right.{Right}
use Rattle.smbd_base.specs.declared.right.Right.TheVariants as right
use Rattle.smbd_base.specs.declared.page_event.PageEvent.{PageEvent}
use Rattle.smbd_base.specs.declared.page_event.PageEvent.TheVariants.{Load, Fetch, Place, Unload}
use Rattle.smbd_base.specs.declared.token.TheConstants.{PAGE_SIZE}
use Rattle.smbd_base.specs.Tokens.{PageToken}

-- a page event, and the number of the pass that made it
pub record Entry : Type 0 where
  pub pass : ℕ
  pub event : PageEvent

-- a loaded page: the right that its token gives, its 4,096 bytes, and how many places its token has had
pub record LoadedPage : Type 0 where
  pub right : Right
  pub content : List ℕ
  pub places : ℕ

-- a page: the generation of its last load, and what is loaded now
pub record PageState : Type 0 where
  pub generation : ℕ
  pub loaded : Option LoadedPage

-- the token that an event is on
abbrev pub token_in : PageEvent → PageToken
token_in (Load token right bytes) = token
token_in (Fetch token at bytes) = token
token_in (Place token order at bytes) = token
token_in (Unload token bytes) = token

-- the page that an event is on
abbrev pub page_in : PageEvent → ℕ
page_in event = (token_in event).page

-- a load fills the page up with zeros, to 4,096 bytes
unfoldable pub whole_page : List ℕ → List ℕ
whole_page bytes = bytes ++ replicate (PAGE_SIZE - length bytes) 0

-- so many bytes from a place on
abbrev pub part_of : ℕ → ℕ → List ℕ → List ℕ
part_of at count content = take count (drop at content)

-- a content with these bytes in the place of its own, from a place on
abbrev pub overlaid : ℕ → List ℕ → List ℕ → List ℕ
overlaid at bytes content = take at content ++ (bytes ++ drop (at + length bytes) content)

-- the page is loaded under this token
pub record IsLoadedAs (token : PageToken) (page : LoadedPage) (s : PageState) : Type 0 where
  pub now : s.loaded ≡ Some page
  pub under : s.generation ≡ token.generation

-- The steps of a page. A load is of a page that is not loaded, and its generation is the next one.
pub record IsLoad (token : PageToken) (bytes : List ℕ) (s : PageState) : Type 0 where
  pub unloaded : s.loaded ≡ None
  pub next : token.generation ≡ s.generation + 1
  pub fits : length bytes ≤ PAGE_SIZE

-- a fetch is under the right to fetch, and gives that part of the page
pub record IsFetch (token : PageToken) (at : ℕ) (bytes : List ℕ) (s : PageState) : Type 0 where
  pub page : LoadedPage
  pub loaded : IsLoadedAs token page s
  pub allowed : page.right ≡ right.Fetch
  pub within : at + length bytes ≤ PAGE_SIZE
  pub same : bytes ≡ part_of at (length bytes) page.content

-- a place is under the right to place, and the next one of its token; there are at most 65,535
pub record IsPlace (token : PageToken) (order at : ℕ) (bytes : List ℕ) (s : PageState) : Type 0 where
  pub page : LoadedPage
  pub loaded : IsLoadedAs token page s
  pub allowed : page.right ≡ right.Place
  pub next : order ≡ page.places
  pub most : order ≤ 65534
  pub within : at + length bytes ≤ PAGE_SIZE

-- an unload gives the whole page
pub record IsUnload (token : PageToken) (bytes : List ℕ) (s : PageState) : Type 0 where
  pub page : LoadedPage
  pub loaded : IsLoadedAs token page s
  pub same : bytes ≡ page.content

-- the event is a step from this state
abbrev pub IsPageStep : PageEvent → PageState → Type 0
IsPageStep (Load token right bytes) s = IsLoad token bytes s
IsPageStep (Fetch token at bytes) s = IsFetch token at bytes s
IsPageStep (Place token order at bytes) s = IsPlace token order at bytes s
IsPageStep (Unload token bytes) s = IsUnload token bytes s

-- a loaded page after one place more
abbrev pub placed : ℕ → List ℕ → Option LoadedPage → Option LoadedPage
placed at bytes None = None
placed at bytes (Some page) =
    Some (record { right = page.right; content = overlaid at bytes page.content; places = page.places + 1 })

-- the state after the event
abbrev pub page_after : PageEvent → PageState → PageState
page_after (Load token right bytes) s = record {
  generation = token.generation;
  loaded = Some (record { right = right; content = whole_page bytes; places = 0 });
}
page_after (Fetch token at bytes) s = s
page_after (Place token order at bytes) s = record { generation = s.generation; loaded = placed at bytes s.loaded }
page_after (Unload token bytes) s = record { generation = s.generation; loaded = None }

-- a page before its first load; its generation is the one below the first, so that each load has the next one
abbrev pub opened_page : ℕ → PageState
opened_page first = record { generation = first - 1; loaded = None }

-- the state of a page after its past
abbrev pub page_state : ℕ → List Entry → PageState
page_state first [] = opened_page first
page_state first (e ∷ past) = page_after e.event (page_state first past)

-- each entry is on this page, and a step from the state that those before it left
abbrev pub IsPageLife : ℕ → ℕ → List Entry → Type 0
IsPageLife first page [] = Unit {0}
IsPageLife first page (e ∷ past) =
    (page_in e.event ≡ page) × IsPageStep e.event (page_state first past) × IsPageLife first page past

-- the entries of a pool that are on this page, in their order
abbrev pub entries_on : ℕ → List Entry → List Entry
entries_on page [] = []
entries_on page (e ∷ past) = if page_in e.event == page then e ∷ entries_on page past else entries_on page past

-- the state of a page of a pool; a page that the pool does not have is one that was never loaded
abbrev pub page_at : ℕ → List PageState → PageState
page_at page pages = slice_index_or pages page (opened_page 1)

-- the event is a step of its page, and the other pages stay as they are
pub record IsPoolStep (event : PageEvent) (old new : List PageState) : Type 0 where
  pub among : page_in event < length old
  pub step : IsPageStep event (page_at (page_in event) old)
  pub after : new ≡ slice_set old (page_in event) (page_after event (page_at (page_in event) old))

-- the pages of a pool of so many after these entries, each of them a step
abbrev pub IsPoolRun : ℕ → ℕ → List Entry → List PageState → Type 0
IsPoolRun first count [] pages = pages ≡ replicate count (opened_page first)
IsPoolRun first count (e ∷ past) pages =
    (before : List PageState) × IsPoolRun first count past before × IsPoolStep e.event before pages
