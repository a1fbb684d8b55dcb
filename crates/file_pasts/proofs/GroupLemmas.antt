-- Groups and how many bytes they have.
use Rattle.std.proofs.Common.{◌≡◌, ℕ, zero, suc, ◌+◌, ◌*◌, ◌<◌, ◌≤◌, ◌==◌, ◌&&◌, Bool, true, false, Some, None, List, [], ◌∷◌, ◌++◌, length, take, drop, refl, ap, arith}
use Rattle.std.specs.Prelude.{slice_get}
use Rattle.file_pasts.specs.ClientPast.{total}
use Rattle.file_pasts.specs.PutDue.{are_whole}
use Rattle.file_pasts.specs.Groups.{AreShort}

-- the n-th element, from 0, is x, and after it come these
pub record IsNext (n : ℕ) (xs : List (List ℕ)) (x : List ℕ) (rest : List (List ℕ)) : Type 0 where
  pub get : slice_get xs n ≡ Some x
  pub within : n < length xs
  pub rest_is : drop (suc n) xs ≡ rest
  pub sum : total (take (suc n) xs) ≡ total (take n xs) + length x

pub next_of : (n : ℕ) (xs : List (List ℕ)) (x : List ℕ) (rest : List (List ℕ)) → drop n xs ≡ x ∷ rest → IsNext n xs x rest
next_of zero [] x rest e = absurd (let b : ⊥ = cc in b)
next_of (suc n) [] x rest e = absurd (let b : ⊥ = cc in b)
next_of zero (y ∷ ys) x rest e =
    let head : y ≡ x = cc in
    record { get = cc; within = omega arith; rest_is = cc; sum = omega (arith, ap length head) }
next_of (suc n) (y ∷ ys) x rest e =
    let ih = next_of n ys x rest e in
    record { get = ih.get; within = omega (arith, ih.within); rest_is = ih.rest_is; sum = omega (arith, ih.sum) }

pub none_next : (n : ℕ) (xs : List (List ℕ)) → drop n xs ≡ [] → length xs ≤ n
none_next zero [] e = omega arith
none_next (suc n) [] e = omega arith
none_next zero (y ∷ ys) e = absurd (let b : ⊥ = cc in b)
none_next (suc n) (y ∷ ys) e = omega (arith, none_next n ys e)

pub past_end : (n : ℕ) (xs : List (List ℕ)) → length xs ≤ n → slice_get xs n ≡ None
past_end n [] h = refl
past_end zero (y ∷ ys) h = absurd (omega arith)
past_end (suc n) (y ∷ ys) h = past_end n ys (omega arith)

pub AreShort-append : (gs : List (List ℕ)) (b : List ℕ) → AreShort gs → length b ≤ 65536 → AreShort (gs ++ b ∷ [])
AreShort-append [] b s h = (h, tt)
AreShort-append (g ∷ gs) b s h = (s.0, AreShort-append gs b s.1 h)

pub total-take-short : (n : ℕ) (gs : List (List ℕ)) → AreShort gs → total (take n gs) ≤ 65536 * n
total-take-short zero gs s = omega arith
total-take-short (suc n) [] s = omega arith
total-take-short (suc n) (g ∷ gs) s = omega (arith, s.0, total-take-short n gs s.1)

pub short_at : (n : ℕ) (gs : List (List ℕ)) (x : List ℕ) → AreShort gs → slice_get gs n ≡ Some x → length x ≤ 65536
short_at n [] x s e = absurd (let b : ⊥ = cc in b)
short_at zero (g ∷ gs) x s e = let same : g ≡ x = cc in omega (arith, s.0, ap length same)
short_at (suc n) (g ∷ gs) x s e = short_at n gs x s.1 e

pub are_whole-append : (gs : List (List ℕ)) (b : List ℕ) → are_whole (gs ++ b ∷ []) ≡ (are_whole gs && length b == 65536)
are_whole-append [] b = by_test (length b == 65536) where
  by_test : (t : Bool) → (t && true) ≡ t
  by_test true = refl
  by_test false = refl
are_whole-append (g ∷ gs) b = rw (are_whole-append gs b) (and_assoc (length g == 65536) (are_whole gs) (length b == 65536)) where
  and_assoc : (x y z : Bool) → (x && (y && z)) ≡ ((x && y) && z)
  and_assoc true y z = refl
  and_assoc false y z = refl

pub take_whole : (n : ℕ) (gs : List (List ℕ)) → length gs ≤ n → take n gs ≡ gs
take_whole zero [] h = refl
take_whole (suc n) [] h = refl
take_whole zero (g ∷ gs) h = absurd (omega arith)
take_whole (suc n) (g ∷ gs) h = ap (λ (t : List (List ℕ)). g ∷ t) (take_whole n gs (omega arith))

pub drop_whole : (n : ℕ) (gs : List (List ℕ)) → length gs ≤ n → drop n gs ≡ []
drop_whole zero [] h = refl
drop_whole (suc n) [] h = refl
drop_whole zero (g ∷ gs) h = absurd (omega arith)
drop_whole (suc n) (g ∷ gs) h = drop_whole n gs (omega arith)
