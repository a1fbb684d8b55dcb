-- What a slot of the pool says of its page.
use Rattle.std.specs.Prelude.{◌≡◌, ℕ, ◌≤◌, Option, Some, None, List, length, IfSome}
use Rattle.smbd_base.specs.declared.token.TheConstants.{PAGE_SIZE, LAST_GENERATION}
use Rattle.smbd_base.specs.declared.right.Right.{Right}
use Rattle.smbd_base.specs.Pages.{LoadedPage}

-- a page is loaded where it has a right
abbrev pub loaded_page : Option Right → List ℕ → ℕ → Option LoadedPage
loaded_page None content places = None
loaded_page (Some right) content places = Some (record { right = right; content = content; places = places })

pub record IsSlot (right : Option Right) (bytes : List ℕ) (generation : ℕ) : Type 0 where
  pub size : length bytes ≡ PAGE_SIZE
  pub most : generation ≤ LAST_GENERATION
  pub least : IfSome right (λ r. 1 ≤ generation)
