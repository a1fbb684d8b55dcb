-- What the word of a place shows.
use Rattle.std.specs.Prelude.{◌≡◌, ℕ, ◌+◌, ◌/◌, ◌%◌, ◌<◌}
use Rattle.counted_slot.specs.Counting.{readers}
use Rattle.smbd_base.specs.declared.token.TheConstants.{LAST_GENERATION}
use Rattle.shared_records.specs.declared.word.Shown.{Shown}
use Rattle.shared_records.specs.declared.word.Shown.TheVariants.{Nothing, Writer, Listed}

-- the generation that a word names, counted from 0 in its high half
abbrev pub generation_in : ℕ → ℕ
generation_in word = word / 4294967296 % LAST_GENERATION + 1

-- exactly one of the three is shown by each word
abbrev pub IsShown : ℕ → Shown → Type 0
IsShown word Nothing = word % 4 ≡ 0
IsShown word Writer = word % 4 ≡ 3
IsShown word (Listed generation holds) =
    (0 < word % 4) × (word % 4 < 3) × (generation ≡ generation_in word) × (holds ≡ readers word)

-- the word shows a record of this generation, held by as many as it counts
abbrev pub IsListed : ℕ → ℕ → Type 0
IsListed word generation = IsShown word (Listed generation (readers word))
