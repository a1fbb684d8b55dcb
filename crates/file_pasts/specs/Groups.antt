-- Groups of bytes that are handed in.
use Rattle.std.specs.Prelude.{ℕ, ◌≤◌, List, [], ◌∷◌, length}
use Rattle.file_messages.specs.declared.layout.TheConstants.{GROUP_SIZE}

-- each group has at most 65,536 bytes
abbrev pub AreShort : List (List ℕ) → Type 0
AreShort [] = Unit {0}
AreShort (g ∷ gs) = (length g ≤ GROUP_SIZE) × AreShort gs
