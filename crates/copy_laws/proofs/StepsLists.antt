-- What stands at a place of a list, where one place was written again, or more was put behind it.
use Rattle.std.proofs.Common.{◌≡◌, ◌⊎◌, inl, inr, ℕ, zero, suc, ◌<◌, Some, List, [], ◌∷◌, ◌++◌, length, refl, ap, arith}
use Rattle.std.specs.Prelude.{slice_get, slice_set}
use Rattle.copy_laws.proofs.Eaches.{Each}

pub set-cases : {A : Type 0} (xs : List A) (i j : ℕ) (v w : A) → slice_get (slice_set xs i v) j ≡ Some w
    → ((j ≡ i) × (w ≡ v)) ⊎ ((j ≡ i → ⊥) × (slice_get xs j ≡ Some w))
set-cases [] i j v w e = absurd (let b : ⊥ = cc in b)
set-cases (x ∷ xs) zero zero v w e = inl (refl, (let h : w ≡ v = cc in h))
set-cases (x ∷ xs) zero (suc j) v w e = inr ((λ (h : suc j ≡ zero). let b : ⊥ = omega arith in b), e)
set-cases (x ∷ xs) (suc i) zero v w e = inr ((λ (h : zero ≡ suc i). let b : ⊥ = omega arith in b), e)
set-cases (x ∷ xs) (suc i) (suc j) v w e = by_case (set-cases xs i j v w e) where
  by_case : ((j ≡ i) × (w ≡ v)) ⊎ ((j ≡ i → ⊥) × (slice_get xs j ≡ Some w)) → ((suc j ≡ suc i) × (w ≡ v)) ⊎ ((suc j ≡ suc i → ⊥) × (slice_get xs j ≡ Some w))
  by_case (inl h) = inl (ap suc h.0, h.1)
  by_case (inr h) = inr ((λ (same : suc j ≡ suc i). h.0 (omega arith)), h.1)

pub get-middle : {A : Type 0} (before later : List A) (x : A) → slice_get (before ++ x ∷ later) (length before) ≡ Some x
get-middle [] later x = refl
get-middle (y ∷ before) later x = get-middle before later x

pub get-front : {A : Type 0} (xs ys : List A) (n : ℕ) → n < length xs → slice_get (xs ++ ys) n ≡ slice_get xs n
get-front [] ys n h = absurd (omega arith)
get-front (x ∷ xs) ys zero h = refl
get-front (x ∷ xs) ys (suc n) h = get-front xs ys n (omega arith)

pub get-here : {A : Type 0} (xs : List A) (n : ℕ) → n < length xs → (x : A) × (slice_get xs n ≡ Some x)
get-here [] n h = absurd (omega arith)
get-here (x ∷ xs) zero h = (x, refl)
get-here (x ∷ xs) (suc n) h = get-here xs n (omega arith)

-- what holds at each place holds of each
pub each-by-place : {A : Type 0} (P : A → Type 0) (xs : List A) → ((n : ℕ) (x : A) → slice_get xs n ≡ Some x → P x) → Each P xs
each-by-place P [] h = tt
each-by-place P (x ∷ xs) h = (h zero x refl, each-by-place P xs (λ n y e. h (suc n) y e))
