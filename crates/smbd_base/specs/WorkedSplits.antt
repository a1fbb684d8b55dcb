-- Worked splits: which pieces make which messages, and which do not.
use Rattle.std.specs.Prelude.{ℕ, List, [], ◌∷◌}
use Rattle.smbd_base.specs.Pieces.{Piece, SplitsInto}

abbrev pub piece : List ℕ → ℕ → Piece
piece payload remaining = record { payload = payload; remaining = remaining }

-- the texts `ab`, `c` and `abc`
abbrev pub ab : List ℕ
ab = 97 ∷ 98 ∷ []

abbrev pub c : List ℕ
c = 99 ∷ []

abbrev pub abc : List ℕ
abc = 97 ∷ 98 ∷ 99 ∷ []

-- one byte of a message comes after `ab`
abbrev pub begun : List Piece
begun = piece ab 1 ∷ []

pub record SplitSo : Type 0 where
  -- nothing came; a message is begun; it is whole; and after it comes one of a single piece, and another is begun
  pub none : SplitsInto [] [] [] 0
  pub first : SplitsInto begun [] begun 1
  pub whole : SplitsInto (piece ab 1 ∷ piece c 0 ∷ []) (abc ∷ []) [] 0
  pub more : SplitsInto (piece ab 1 ∷ piece c 0 ∷ piece ab 0 ∷ piece ab 1 ∷ []) (abc ∷ ab ∷ []) begun 1

-- each is wrong in one thing
pub record SplitNotSo : Type 0 where
  -- an empty message of no piece
  pub of_nothing : SplitsInto [] ([] ∷ []) [] 0 → ⊥
  -- two whole messages as one
  pub joined : SplitsInto (piece ab 0 ∷ piece c 0 ∷ []) (abc ∷ []) [] 0 → ⊥
  -- a message that expects one byte more than comes
  pub too_few : SplitsInto (piece ab 2 ∷ piece c 0 ∷ []) (abc ∷ []) [] 0 → ⊥
  -- a message that is begun counts as whole
  pub not_ended : SplitsInto begun (ab ∷ []) [] 0 → ⊥
  -- a piece is left out; other bytes; the messages in the other order
  pub left_out : SplitsInto (piece ab 0 ∷ piece c 0 ∷ []) (c ∷ []) [] 0 → ⊥
  pub other_bytes : SplitsInto (piece ab 0 ∷ []) (c ∷ []) [] 0 → ⊥
  pub turned : SplitsInto (piece ab 0 ∷ piece c 0 ∷ []) (c ∷ ab ∷ []) [] 0 → ⊥
  -- nothing is expected of a message that is begun, another number of bytes is, or some of one that is not begun
  pub none_expected : SplitsInto begun [] begun 0 → ⊥
  pub more_expected : SplitsInto begun [] begun 2 → ⊥
  pub expected_of_none : SplitsInto [] [] [] 1 → ⊥
