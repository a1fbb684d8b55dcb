-- Tokens of registered pages (this project's own; MS-SMBD leaves the 32 bits of a steering token to the adapter).
use Rattle.std.specs.Prelude.{ℕ, ◌+◌, ◌*◌, ◌/◌, ◌%◌, ◌==◌, ◌<◌, ◌≤◌, Option, Some, None, if◌then◌else◌}
use Rattle.smbd_base.specs.declared.token.TheConstants.{PAGE_SIZE, LAST_GENERATION}

-- a token names a page, and which of its loads
pub record PageToken : Type 0 where
  pub page : ℕ
  pub generation : ℕ

-- the numbers that a token can have: the page fits 8 bits, and the generation 24, but for 0
pub record IsToken (token : PageToken) : Type 0 where
  pub page : token.page < 256
  pub least : 1 ≤ token.generation
  pub most : token.generation ≤ LAST_GENERATION

-- the one number that stands for a token in a descriptor
abbrev pub number_of : PageToken → ℕ
number_of token = token.generation * 256 + token.page

-- the token of a number, where its generation is not 0
abbrev pub token_of : ℕ → Option PageToken
token_of n = if n / 256 == 0 then None else Some (record { page = n % 256; generation = n / 256 })

-- the place of a page's first byte among those of its pool
abbrev pub start_of_page : ℕ → ℕ
start_of_page page = PAGE_SIZE * page
