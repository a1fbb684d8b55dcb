-- What a copy does with registered pages, told by its requests and by the lists of the page events of its workers, in which the newest
-- event comes first (this project's own).
use Rattle.std.specs.Prelude.{◌≡◌, ℕ, ◌+◌, ◌-◌, ◌*◌, ◌%◌, ◌<◌, ◌≤◌, Bool, false, Some, List, length, take, drop, replicate, Contains, count_by, slice_get}
use Rattle.smbd_base.specs.declared.token.TheConstants.{PAGE_SIZE}
use Rattle.smbd_base.specs.declared.right.Right.TheVariants as right
use Rattle.smbd_base.specs.declared.page_event.PageEvent.{PageEvent}
use Rattle.smbd_base.specs.declared.page_event.PageEvent.TheVariants.{Load, Fetch, Place, Unload}
use Rattle.smbd_base.specs.Tokens.{PageToken}
use Rattle.smbd_base.specs.Pages.{page_in}
use Rattle.smbd_base.specs.PagesFit.{is_token, is_place_under, HasLoad, all_events}
use Rattle.file_messages.specs.declared.layout.TheConstants.{GROUP_SIZE}
use Rattle.file_messages.specs.declared.message.Request.{Request}
use Rattle.file_pasts.specs.PutPages.{IsPartOf, tokens_named}

-- each event of a list is on a page of its worker: those of the i-th worker of an end, from 0, have remainder i
abbrev pub AreInTurn : ℕ → List (List PageEvent) → Type 0
AreInTurn workers lists = (place : ℕ) (list : List PageEvent) (e : PageEvent)
    → slice_get lists place ≡ Some list → Contains list e → page_in e % workers ≡ place

-- ---- a put, with so many windows

-- the part of a group that the load of a token carries: the group's WRITE names just this token for it
abbrev pub IsPartUnder : ℕ → List (List ℕ) → PageToken → List ℕ → Type 0
IsPartUnder w groups token part = IsPartOf w token.page (token.generation - 1) part groups

-- a Load for the server to fetch from, of a group's part under its token; or an Unload, whose WRITE's reply came
abbrev pub IsPutClientEvent : ℕ → List (List ℕ) → List Request → PageEvent → Type 0
IsPutClientEvent w groups heard (Load token right.Fetch bytes) = IsPartUnder w groups token bytes
IsPutClientEvent w groups heard (Load token right.Place bytes) = ⊥
IsPutClientEvent w groups heard (Fetch token at bytes) = ⊥
IsPutClientEvent w groups heard (Place token order at bytes) = ⊥
IsPutClientEvent w groups heard (Unload token bytes) = Contains (tokens_named heard) token

-- a Fetch of the whole part
abbrev pub IsPutServerEvent : ℕ → List (List ℕ) → PageEvent → Type 0
IsPutServerEvent w groups (Load token r bytes) = ⊥
IsPutServerEvent w groups (Fetch token at bytes) = (at ≡ 0) × IsPartUnder w groups token bytes
IsPutServerEvent w groups (Place token order at bytes) = ⊥
IsPutServerEvent w groups (Unload token bytes) = ⊥

abbrev pub is_fetch_under : PageToken → PageEvent → Bool
is_fetch_under t (Load token r bytes) = false
is_fetch_under t (Fetch token at bytes) = is_token t token
is_fetch_under t (Place token order at bytes) = false
is_fetch_under t (Unload token bytes) = false

-- the pages of a put of these groups, whose client asked, whose server answered, and whose client heard the reply to these requests
pub record PutsUsePages (w : ℕ) (groups : List (List ℕ)) (asked answered heard : List Request) (clients servers : List (List PageEvent)) : Type 0 where
  pub of_clients : (e : PageEvent) → Contains (all_events clients) e → IsPutClientEvent w groups heard e
  pub of_servers : (e : PageEvent) → Contains (all_events servers) e → IsPutServerEvent w groups e
  -- what a WRITE names is loaded
  pub loaded : (t : PageToken) → Contains (tokens_named asked) t → HasLoad (all_events clients) t
  -- it is fetched at most once, and once where the WRITE was answered
  pub once : (t : PageToken) → count_by (is_fetch_under t) (all_events servers) ≤ 1
  pub fetched : (t : PageToken) → Contains (tokens_named answered) t → 1 ≤ count_by (is_fetch_under t) (all_events servers)

-- ---- a get

-- the bytes of a copy that are read through the page of a token: the token's generation is the number of the READ that names it
abbrev pub part_read : List ℕ → PageToken → List ℕ
part_read bytes t = take PAGE_SIZE (drop (GROUP_SIZE * (t.generation - 1) + PAGE_SIZE * t.page) bytes)

-- a Load of zeros for the server to place in, or an Unload, whose READ's reply came
abbrev pub IsGetClientEvent : List Request → PageEvent → Type 0
IsGetClientEvent heard (Load token right.Fetch bytes) = ⊥
IsGetClientEvent heard (Load token right.Place bytes) = (token.page < 16) × (bytes ≡ replicate PAGE_SIZE 0)
IsGetClientEvent heard (Fetch token at bytes) = ⊥
IsGetClientEvent heard (Place token order at bytes) = ⊥
IsGetClientEvent heard (Unload token bytes) = Contains (tokens_named heard) token

-- the first Place under its token, at the page's front, of a part that isn't empty
abbrev pub IsGetServerEvent : List ℕ → PageEvent → Type 0
IsGetServerEvent bytes (Load token r loaded) = ⊥
IsGetServerEvent bytes (Fetch token at fetched) = ⊥
IsGetServerEvent bytes (Place token order at placed) = (order ≡ 0) × (at ≡ 0) × (placed ≡ part_read bytes token) × (1 ≤ length placed)
IsGetServerEvent bytes (Unload token left) = ⊥

-- the pages of a get of these bytes, whose client asked, whose server answered, and whose client heard the reply to these requests
pub record GetsUsePages (bytes : List ℕ) (asked answered heard : List Request) (clients servers : List (List PageEvent)) : Type 0 where
  pub of_clients : (e : PageEvent) → Contains (all_events clients) e → IsGetClientEvent heard e
  pub of_servers : (e : PageEvent) → Contains (all_events servers) e → IsGetServerEvent bytes e
  -- what a READ names is loaded
  pub loaded : (t : PageToken) → Contains (tokens_named asked) t → HasLoad (all_events clients) t
  -- at most one Place is under a token, and one where the READ was answered and its part isn't empty
  pub once : (t : PageToken) → count_by (is_place_under t) (all_events servers) ≤ 1
  pub placed : (t : PageToken) → Contains (tokens_named answered) t → 1 ≤ length (part_read bytes t) → 1 ≤ count_by (is_place_under t) (all_events servers)
