-- Laws of the pages of a pool.
use Rattle.std.specs.Prelude.{◌≡◌, ℕ, ◌<◌, ◌≤◌, List}
use Rattle.smbd_base.specs.Pages.{Entry, PageState, IsPageLife, IsPoolRun, entries_on, page_at, page_state}
use Rattle.smbd_base.specs.PagesFit.{PagesFit, AreMadeBy, lists_of}

-- steps from the opened pages make a lawful life of each page, and its state is the one that this life leaves
abbrev pub MakesPageLives : Type 0
MakesPageLives = (first count : ℕ) (past : List Entry) (pages : List PageState) → IsPoolRun first count past pages
    → (page : ℕ) → IsPageLife first page (entries_on page past)

abbrev pub LeavesPageStates : Type 0
LeavesPageStates = (first count : ℕ) (past : List Entry) (pages : List PageState) → IsPoolRun first count past pages
    → (page : ℕ) → page < count → page_at page pages ≡ page_state first (entries_on page past)

-- the lists that the single passes made of such steps fit together
abbrev pub MakesFittingLists : Type 0
MakesFittingLists = (first count : ℕ) → 1 ≤ first → (seats : ℕ) (past : List Entry) (pages : List PageState)
    → IsPoolRun first count past pages → AreMadeBy seats past → PagesFit first (lists_of seats past)
