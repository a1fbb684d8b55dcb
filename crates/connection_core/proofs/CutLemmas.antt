-- The next piece of a message, and those after it.
use Rattle.std.proofs.Common.{◌≡◌, ℕ, ◌+◌, ◌*◌, ◌-◌, ◌/◌, ◌<◌, ◌≤◌, ◌==◌, min, false, Some, [], ◌∷◌, length, drop, refl, sym, ap, ◌∙◌, arith}
use Rattle.std.proofs.Math.Nat.{min-le_left}
use Rattle.std.proofs.lemmas.Bool.Decides.{nat_tests}
use Rattle.std.proofs.lemmas.List.{length-drop, length-take-le, drop_all}
use Rattle.std.proofs.lemmas.Nat.{div-mul-add}
use Rattle.smbd_base.specs.Pieces.{pieces_of, pieces_count}
use Rattle.fragmenter.specs.Cut.{Cutting, pieces_left, next_place, piece_at, advanced}
use Rattle.fragmenter.specs.declared.piece.Piece.{Piece as Place}
use Rattle.fragmenter.proofs.FirstPiece.{pieces_left-first}

-- nothing has no piece
pieces_of-nil : (size : ℕ) → 0 < size → pieces_of size [] ≡ []
unfolding pieces_of
pieces_of-nil size wide =
    let none : pieces_count size [] ≡ 0 =
    ap (λ (n : ℕ). n / size) (let is : 0 + size - 1 ≡ 0 * size + (size - 1) = omega arith in is) ∙ div-mul-add 0 size (size - 1) (omega arith) in
    rw none refl

-- ---- a message that is divided

-- where the next piece stands, where bytes are left
abbrev pub place_of : Cutting → Place
place_of cut = record {
  from = cut.given;
  length = min (length cut.message - cut.given) cut.size;
  remaining = length cut.message - cut.given - cut.size;
}

-- a number that is not zero
pub not_zero : (n : ℕ) → 0 < n → (n == 0) ≡ false
not_zero n some = grind (arith, nat_tests)

pub next_place-some : (cut : Cutting) → cut.given < length cut.message → next_place cut ≡ Some (place_of cut)
next_place-some cut left =
    let test : (length cut.message - cut.given == 0) ≡ false = not_zero (length cut.message - cut.given) (omega arith) in
    rw test refl

-- the next piece, and those after it
pub pieces_left-cons : (cut : Cutting) → 0 < cut.size → cut.given < length cut.message
    → pieces_left cut ≡ piece_at cut.message (place_of cut) ∷ pieces_left (advanced cut)
pieces_left-cons cut wide left =
    let on : cut.given + min (length cut.message - cut.given) cut.size ≡ min (length cut.message) (cut.given + cut.size) = omega arith in
    pieces_left-first cut.message cut.size cut.given wide left
    ∙ ap (λ (given : ℕ). piece_at cut.message (place_of cut) ∷ pieces_left (record cut { given = given })) on

-- none is left where no byte is
pub pieces_left-none : (cut : Cutting) → 0 < cut.size → length cut.message ≤ cut.given → pieces_left cut ≡ []
pieces_left-none cut wide all = rw (drop_all cut.given cut.message all) (pieces_of-nil cut.size wide)

-- a piece has as many bytes as its place says
pub piece_at-length : (cut : Cutting) → cut.given < length cut.message → (place_of cut).length ≡ length (piece_at cut.message (place_of cut)).payload
piece_at-length cut left =
    let rest = drop cut.given cut.message in
    let len : length rest ≡ length cut.message - cut.given = length-drop cut.given cut.message in
    let most = min (length cut.message - cut.given) cut.size in
    let le : most ≤ length rest = omega (arith, len, min-le_left (length cut.message - cut.given) cut.size) in
    sym (length-take-le most rest le)
