-- What a pool answers, by the state of the page that is asked for. The refusals stand in the order in which they are
-- looked for.
use Rattle.std.specs.Prelude.{ℕ, ◌+◌, ◌==◌, nat_le, Option, Some, None, if◌then◌else◌}
use Rattle.smbd_base.specs.declared.token.TheConstants.{LAST_GENERATION}
use Rattle.smbd_base.specs.declared.right.Right.{Right}
use Rattle.smbd_base.specs.declared.right.Right.TheVariants as right
use Rattle.smbd_base.specs.Tokens.{PageToken}
use Rattle.smbd_base.specs.Pages.{LoadedPage, PageState}
use Rattle.shared_pages.specs.declared.answers.Load.{Load}
use Rattle.shared_pages.specs.declared.answers.Load.TheVariants.{Loaded, Live, Busy, Spent}
use Rattle.shared_pages.specs.declared.answers.Access.{Access}
use Rattle.shared_pages.specs.declared.answers.Access.TheVariants.{Done, Stale, WrongRight, Worn}

-- the token of a page's load
abbrev pub token_of_page : ℕ → ℕ → PageToken
token_of_page page generation = record { page = page; generation = generation }

abbrev pub of_live : PageToken → Option LoadedPage → Option PageToken
of_live token None = None
of_live token (Some page) = Some token

-- the token under which a page is loaded
abbrev pub live_token : ℕ → PageState → Option PageToken
live_token page s = of_live (token_of_page page s.generation) s.loaded

abbrev pub loading : ℕ → ℕ → Option LoadedPage → Load
loading page generation (Some loaded) = Live (token_of_page page generation)
loading page generation None =
    if generation == LAST_GENERATION then Spent else Loaded (token_of_page page (generation + 1))

-- a load is refused where the page is loaded, or has had the last generation
abbrev pub load_answer : ℕ → PageState → Load
load_answer page s = loading page s.generation s.loaded

-- the right of what is loaded
abbrev pub right_of : Option LoadedPage → Option Right
right_of None = None
right_of (Some page) = Some page.right

-- the right under which the page is loaded by this token
abbrev pub right_under : PageToken → PageState → Option Right
right_under token s = if s.generation == token.generation then right_of s.loaded else None

-- how many places the token of what is loaded has had
abbrev pub places_had : Option LoadedPage → ℕ
places_had None = 0
places_had (Some page) = page.places

-- an access is stale where the page isn't loaded by its token; else there is one answer for each right
abbrev pub by_right : Option Right → Access → Access → Access
by_right None fetch place = Stale
by_right (Some right.Fetch) fetch place = fetch
by_right (Some right.Place) fetch place = place

abbrev pub fetch_answer : PageToken → PageState → Access
fetch_answer token s = by_right (right_under token s) Done WrongRight

-- a token has 65,535 places
abbrev pub place_answer : PageToken → PageState → Access
place_answer token s =
    by_right (right_under token s) WrongRight (if nat_le 65535 (places_had s.loaded) then Worn else Done)

abbrev pub unload_answer : PageToken → PageState → Access
unload_answer token s = by_right (right_under token s) Done Done

-- a fact of the token, where a page was loaded
abbrev pub IfLoaded : Load → (PageToken → Type 0) → Type 0
IfLoaded (Loaded token) P = P token
IfLoaded (Live token) P = Unit {0}
IfLoaded Busy P = Unit {0}
IfLoaded Spent P = Unit {0}

-- a fact where no page was loaded
abbrev pub OnRefused : Load → Type 0 → Type 0
OnRefused (Loaded token) P = Unit {0}
OnRefused (Live token) P = P
OnRefused Busy P = P
OnRefused Spent P = P
