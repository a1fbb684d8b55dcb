-- The lists that made inputs are.
use Rattle.std.proofs.Common.{◌≡◌, ℕ, zero, suc, ◌+◌, ◌-◌, ◌<◌, ◌≤◌, min, Some, List, [], ◌∷◌, ◌++◌, map, length, take, drop, get_or, refl, sym, ap, ◌∙◌, arith, length-append, length-drop, length-take-le, drop_of_length-le}
use Rattle.std.specs.Prelude.{slice_get}
use Rattle.std.specs.List.{range_with_len}
use Rattle.std.proofs.lemmas.List.{drop-map}
use Rattle.std.proofs.lemmas.List.FromFn.{length-map-range_with_len, get_or-map-range_with_len, take-map-range_with_len, fill_by_all}
use Rattle.std.proofs.lemmas.Option.{slice_get-get_or}
use Rattle.smbd_outside.proofs.StreamLemmas.{gives_front}
use Rattle.made_input.specs.Made.{made_byte, made_bytes}

-- ---- consecutive numbers

-- all but the first k of them
drop-numbers : (a n k : ℕ) → k ≤ n → drop k (range_with_len a n) ≡ range_with_len (a + k) (n - k)
drop-numbers a n zero few = let e : a ≡ a + 0 = omega arith in let m : n ≡ n - 0 = omega arith in ap (λ (x : ℕ). range_with_len x n) e ∙ ap (λ (y : ℕ). range_with_len (a + 0) y) m
drop-numbers a zero (suc k) few = absurd (omega arith)
drop-numbers a (suc n) (suc k) few =
    let less : k ≤ n = omega arith in
    let e : (a + 1) + k ≡ a + suc k = omega arith in
    let m : n - k ≡ suc n - suc k = omega arith in
    drop-numbers (a + 1) n k less ∙ ap (λ (x : ℕ). range_with_len x (n - k)) e ∙ ap (λ (y : ℕ). range_with_len (a + suc k) y) m

-- a function of the place after a
map-numbers : (f : ℕ → ℕ) (a b n : ℕ) → map (λ (k : ℕ). f (a + k)) (range_with_len b n) ≡ map f (range_with_len (a + b) n)
map-numbers f a b zero = refl
map-numbers f a b (suc n) =
    let e : a + (b + 1) ≡ a + b + 1 = omega arith in
    ap (λ (xs : List ℕ). f (a + b) ∷ xs) (map-numbers f a (b + 1) n ∙ ap (λ (x : ℕ). map f (range_with_len x n)) e)

-- ---- made inputs

pub length-made : (first size : ℕ) → length (made_bytes first size) ≡ size
unfolding made_bytes
length-made first size = length-map-range_with_len (made_byte first) 0 size

pub byte-made : (first size k : ℕ) → k < size → slice_get (made_bytes first size) k ≡ Some (made_byte first k)
unfolding made_bytes
byte-made first size k within =
    let inside : k < length (map (made_byte first) (range_with_len 0 size)) = omega (arith, length-map-range_with_len (made_byte first) 0 size) in
    slice_get-get_or (map (made_byte first) (range_with_len 0 size)) k 0 inside
    ∙ ap (λ (b : ℕ). Some b) (get_or-map-range_with_len (made_byte first) 0 size k k 0 within (omega arith))

-- the bytes from one place on
pub part-made : (first size given count : ℕ) → given + count ≤ size → take count (drop given (made_bytes first size)) ≡ map (made_byte first) (range_with_len given count)
unfolding made_bytes
part-made first size given count within =
    let f = made_byte first in
    let from : 0 + given ≡ given = omega arith in
    let few : count ≤ size - given = omega arith in
    ap (λ (xs : List ℕ). take count xs) (drop-map f given (range_with_len 0 size) ∙ ap (λ (ns : List ℕ). map f ns) (drop-numbers 0 size given (omega arith))
    ∙ ap (λ (x : ℕ). map f (range_with_len x (size - given))) from)
    ∙ take-map-range_with_len f given (size - given) count few

-- a room whose bytes are so is filled
pub filled-made : (first place : ℕ) (room : List ℕ) → ((k : ℕ) → k < length room → get_or room k 0 ≡ made_byte first (place + k))
    → room ≡ map (made_byte first) (range_with_len place (length room))
filled-made first place room each =
    fill_by_all (λ (k : ℕ). made_byte first (place + k)) room (length room) 0 refl each
    ∙ map-numbers (made_byte first) place 0 (length room) ∙ (let from : place + 0 ≡ place = omega arith in ap (λ (x : ℕ). map (made_byte first) (range_with_len x (length room))) from)

-- ---- a read

module _ (first size given count : ℕ) (left room buf : List ℕ) (from : drop given (made_bytes first size) ≡ left) (within : given ≤ size) (is : count ≡ min (length buf) (size - given))
    (made : room ≡ map (made_byte first) (range_with_len given (length (take count buf)))) where
  pub left-long : length left ≡ size - given
  left-long = sym (ap length from) ∙ length-drop given (made_bytes first size) ∙ ap (λ (n : ℕ). n - given) (length-made first size)

  room-long : length (take count buf) ≡ count
  room-long = length-take-le count buf (omega (arith, is))

  -- it gives a front of what is left
  pub gives : room ≡ take count left
  gives =
      made ∙ ap (λ (n : ℕ). map (made_byte first) (range_with_len given n)) room-long ∙ sym (part-made first size given count (omega (arith, is, within)))
      ∙ ap (λ (xs : List ℕ). take count xs) from

  pub leaves : left ≡ take count (room ++ drop count buf) ++ drop (given + count) (made_bytes first size)
  leaves = gives_front (made_bytes first size) left room (drop count buf) given count from gives (omega (arith, is, left-long))

  -- and where it gave nothing, nothing is left
  pub ended : count ≡ 0 → 0 < length (room ++ drop count buf) → drop (given + count) (made_bytes first size) ≡ []
  ended none some =
      let long : length room ≡ count = ap length gives ∙ length-take-le count left (omega (arith, is, left-long)) in
      let all = length-append room (drop count buf) in
      let rest = length-drop count buf in
      drop_of_length-le (made_bytes first size) (omega (arith, is, none, some, long, all, rest, length-made first size))
