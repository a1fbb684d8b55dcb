-- The pieces of a message.
use Rattle.std.proofs.Common.{◌≡◌, ℕ, ◌+◌, ◌*◌, ◌-◌, ◌/◌, ◌≤◌, ◌<◌, List, [], ◌∷◌, length, take, refl, arith}
use Rattle.std.proofs.lemmas.List.{take_all}
use Rattle.std.proofs.lemmas.Nat.{div-mul-add}
use Rattle.smbd_base.specs.Pieces.{Piece, pieces_of, pieces_count}

-- a message in one piece
abbrev pub whole : List ℕ → Piece
whole message = record { payload = message; remaining = 0 }

one_part : (n size : ℕ) → 0 < n → n ≤ size → (n + size - 1) / size ≡ 1
one_part n size some fits =
    let is : n + size - 1 ≡ 1 * size + (n - 1) = omega arith in
    rw is (div-mul-add 1 size (n - 1) (omega arith))

-- a message that fits one frame is its one piece
pub pieces_of-one : (size : ℕ) (message : List ℕ) → 0 < length message → length message ≤ size → pieces_of size message ≡ whole message ∷ []
unfolding pieces_of
pieces_of-one size message some fits =
    let one : pieces_count size message ≡ 1 = one_part (length message) size some fits in
    let all : take size message ≡ message = take_all size message fits in
    let none : length message - size ≡ 0 = omega arith in
    rw (one, all, none) refl
