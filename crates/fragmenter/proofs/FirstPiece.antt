-- The first piece of a message, and the pieces after it.
use Rattle.std.proofs.Common.{◌≡◌, ◌⊎◌, inl, inr, ◌==◌, Bool, true, false, cond, Some, None, subst, ℕ, suc, ◌+◌, ◌-◌, ◌/◌, ◌≤◌, ◌<◌, min, List, ◌∷◌, length, take, drop, refl, sym, ◌∙◌, arith}
use Rattle.std.proofs.Math.Nat.{add-div_left, div-eq_of_lt, min-eq_left, min-eq_right}
use Rattle.std.proofs.lemmas.Bool.{cases_lt}
use Rattle.std.proofs.lemmas.Bool.Decides.{nat_tests}
use Rattle.std.proofs.lemmas.List.{length-drop, drop-drop, drop_all, take_all}
use Rattle.fragmenter.specs.declared.piece.Piece.{Piece as Place}
use Rattle.smbd_base.specs.Pieces.{pieces_of, pieces_count}
use Rattle.fragmenter.specs.Cut.{Cutting, pieces_left, piece_at, next_place}

-- one part more than the bytes after the first part take
one_more : (n size : ℕ) → 0 < n → 0 < size → (n + size - 1) / size ≡ suc ((n - size + size - 1) / size)
one_more n size some wide = by_length (cases_lt size n) where
  here : (n + size - 1) / size ≡ suc ((n - 1) / size)
  here =
      let is : n + size - 1 ≡ size + (n - 1) = omega arith in
      let counted : (size + (n - 1)) / size ≡ (n - 1) / size + 1 = add-div_left (n - 1) wide in
      rw is (omega (arith, counted))

  by_length : (size < n) ⊎ (n ≤ size) → (n + size - 1) / size ≡ suc ((n - size + size - 1) / size)
  by_length (inr short) =
      let none : (n - 1) / size ≡ 0 = div-eq_of_lt (omega arith) in
      let none_after : (n - size + size - 1) / size ≡ 0 = div-eq_of_lt (omega arith) in
      rw none_after (omega (arith, here, none))
  by_length (inl longer) =
      let is : n - size + size - 1 ≡ n - 1 = omega arith in
      rw is here

-- a message that is not empty has a first part, and then the parts of the bytes after it
pub pieces_of-first : (size : ℕ) (message : List ℕ) → 0 < size → 0 < length message
    → pieces_of size message ≡ record { payload = take size message; remaining = length message - size } ∷ pieces_of size (drop size message)
unfolding pieces_of
pieces_of-first size message wide some =
    let long : length (drop size message) ≡ length message - size = length-drop size message in
    let count : pieces_count size message ≡ suc (pieces_count size (drop size message)) = rw long (one_more (length message) size some wide) in
    rw count refl

-- giving the next piece leaves the pieces after it
pub pieces_left-first : (message : List ℕ) (size given : ℕ) → 0 < size → given < length message
    → pieces_left (record { message = message; size = size; given = given })
    ≡ record { payload = take (min (length message - given) size) (drop given message); remaining = length message - given - size }
    ∷ pieces_left (record { message = message; size = size; given = given + min (length message - given) size })
pieces_left-first message size given wide more = by_length (cases_lt size (length message - given)) where
  bytes : List ℕ
  bytes = drop given message

  long : length bytes ≡ length message - given
  long = length-drop given message

  here : pieces_of size bytes ≡ record { payload = take size bytes; remaining = length message - given - size } ∷ pieces_of size (drop size bytes)
  here = rw (← long) (pieces_of-first size bytes wide (omega (arith, long)))

  by_length : (size < length message - given) ⊎ (length message - given ≤ size)
      → pieces_of size bytes
      ≡ record { payload = take (min (length message - given) size) bytes; remaining = length message - given - size }
      ∷ pieces_of size (drop (given + min (length message - given) size) message)
  by_length (inr short) =
      let least : min (length message - given) size ≡ length message - given = min-eq_left short in
      let whole : take (length message - given) bytes ≡ take size bytes = take_all (length message - given) bytes (omega (arith, long)) ∙ sym (take_all size bytes (omega (arith, long))) in
      let none : drop (given + (length message - given)) message ≡ drop size bytes = drop_all (given + (length message - given)) message (omega arith) ∙ sym (drop_all size bytes (omega (arith, long))) in
      rw (least, whole, none) here
  by_length (inl longer) =
      let least : min (length message - given) size ≡ size = min-eq_right (omega arith) in
      rw (least, ← drop-drop size given message) here

-- where a next piece stands, it is the first of the pieces left
pub pieces_left-next : (cutting : Cutting) (place : Place) → 0 < cutting.size → next_place cutting ≡ Some place
    → pieces_left cutting ≡ piece_at cutting.message place ∷ pieces_left (record cutting { given = cutting.given + place.length })
pieces_left-next cutting place wide next = by_rest (length cutting.message - cutting.given == 0) refl next where
  by_rest : (none : Bool) → (length cutting.message - cutting.given == 0) ≡ none
      → cond none None (Some (record { from = cutting.given; length = min (length cutting.message - cutting.given) cutting.size; remaining = length cutting.message - cutting.given - cutting.size })) ≡ Some place
      → pieces_left cutting ≡ piece_at cutting.message place ∷ pieces_left (record cutting { given = cutting.given + place.length })
  by_rest true none is = absurd (let b : ⊥ = cc in b)
  by_rest false some is =
      let more : cutting.given < length cutting.message = grind (arith, nat_tests) in
      let place_is : record { from = cutting.given; length = min (length cutting.message - cutting.given) cutting.size; remaining = length cutting.message - cutting.given - cutting.size } ≡ place = cc in
      subst (λ (p : Place). pieces_left cutting ≡ piece_at cutting.message p ∷ pieces_left (record cutting { given = cutting.given + p.length })) place_is
      (pieces_left-first cutting.message cutting.size cutting.given wide more)
