-- The input that is made of a first byte and a length (this project's own).
use Rattle.std.specs.Prelude.{ℕ, ◌+◌, ◌/◌, ◌%◌, List, map}
use Rattle.std.specs.List.{range_with_len}

-- byte k, from 0: one more than the byte before it, two more where a block of 256 begins, and three more where one of 65,536 does
abbrev pub made_byte : ℕ → ℕ → ℕ
made_byte first k = (first + k + k / 256 + k / 65536) % 256

-- the input of so many bytes
unfoldable pub made_bytes : ℕ → ℕ → List ℕ
made_bytes first length = map (made_byte first) (range_with_len 0 length)
