-- The sizes of a copy, in bytes (this project's own).
use Rattle.std.specs.Prelude.{ℕ}

-- the most bytes of a copy, and of an input that is read whole
abbrev pub most_bytes : ℕ
most_bytes = 16777216
