-- Lists of which the front was given.
use Rattle.std.proofs.Common.{◌≡◌, ℕ, zero, suc, ◌+◌, ◌<◌, ◌≤◌, Some, None, List, [], ◌∷◌, ◌++◌, length, drop, refl, ap, ◌∙◌, arith}
use Rattle.std.specs.Prelude.{slice_get}

pub next_at : {A : Type 0} (n : ℕ) (xs : List A) (x : A) (rest : List A) → drop n xs ≡ x ∷ rest → slice_get xs n ≡ Some x
next_at zero [] x rest e = absurd (let b : ⊥ = cc in b)
next_at (suc n) [] x rest e = absurd (let b : ⊥ = cc in b)
next_at zero (y ∷ ys) x rest e = let head : y ≡ x = cc in ap Some head
next_at (suc n) (y ∷ ys) x rest e = next_at n ys x rest e

pub none_at : {A : Type 0} (n : ℕ) (xs : List A) → drop n xs ≡ [] → slice_get xs n ≡ None
none_at zero [] e = refl
none_at (suc n) [] e = refl
none_at zero (y ∷ ys) e = absurd (let b : ⊥ = cc in b)
none_at (suc n) (y ∷ ys) e = none_at n ys e

-- the front of what is left
pub front_left : {A : Type 0} (n : ℕ) (xs : List A) → slice_get (drop n xs) 0 ≡ slice_get xs n
front_left zero [] = refl
front_left (suc n) [] = refl
front_left zero (y ∷ ys) = refl
front_left (suc n) (y ∷ ys) = front_left n ys

pub second_left : {A : Type 0} (n : ℕ) (xs : List A) → slice_get (drop n xs) 1 ≡ slice_get xs (n + 1)
second_left n xs = by_suc n xs ∙ ap (λ (k : ℕ). slice_get xs k) (let e : suc n ≡ n + 1 = omega arith in e) where
  by_suc : {A : Type 0} (n : ℕ) (xs : List A) → slice_get (drop n xs) 1 ≡ slice_get xs (suc n)
  by_suc zero [] = refl
  by_suc (suc n) [] = refl
  by_suc zero (y ∷ ys) = refl
  by_suc (suc n) (y ∷ ys) = by_suc n ys

pub drop_more : {A : Type 0} (n : ℕ) (xs : List A) → drop 1 (drop n xs) ≡ drop (n + 1) xs
drop_more n xs = by_suc n xs ∙ ap (λ (k : ℕ). drop k xs) (let e : suc n ≡ n + 1 = omega arith in e) where
  by_suc : {A : Type 0} (n : ℕ) (xs : List A) → drop 1 (drop n xs) ≡ drop (suc n) xs
  by_suc zero [] = refl
  by_suc (suc n) [] = refl
  by_suc zero (y ∷ ys) = refl
  by_suc (suc n) (y ∷ ys) = by_suc n ys

pub get-before : {A : Type 0} (n : ℕ) (xs : List A) (y : A) → n < length xs → slice_get (xs ++ y ∷ []) n ≡ slice_get xs n
get-before n [] y h = absurd (omega arith)
get-before zero (x ∷ xs) y h = refl
get-before (suc n) (x ∷ xs) y h = get-before n xs y (omega arith)

pub get-last : {A : Type 0} (n : ℕ) (xs : List A) (y : A) → n ≡ length xs → slice_get (xs ++ y ∷ []) n ≡ Some y
get-last zero [] y h = refl
get-last (suc n) [] y h = absurd (omega arith)
get-last zero (x ∷ xs) y h = absurd (omega arith)
get-last (suc n) (x ∷ xs) y h = get-last n xs y (omega arith)

pub within : {A : Type 0} (n : ℕ) (xs : List A) (x : A) → slice_get xs n ≡ Some x → n < length xs
within n [] x e = absurd (let b : ⊥ = cc in b)
within zero (y ∷ ys) x e = omega arith
within (suc n) (y ∷ ys) x e = omega (arith, within n ys x e)

pub beyond : {A : Type 0} (n : ℕ) (xs : List A) → slice_get xs n ≡ None → length xs ≤ n
beyond n [] e = omega arith
beyond zero (y ∷ ys) e = absurd (let b : ⊥ = cc in b)
beyond (suc n) (y ∷ ys) e = omega (arith, beyond n ys e)

pub drop_all : {A : Type 0} (n : ℕ) (xs : List A) → length xs ≤ n → drop n xs ≡ []
drop_all zero [] h = refl
drop_all (suc n) [] h = refl
drop_all zero (x ∷ xs) h = absurd (omega arith)
drop_all (suc n) (x ∷ xs) h = drop_all n xs (omega arith)

pub split_at : {A : Type 0} (n : ℕ) (xs : List A) (x : A) → slice_get xs n ≡ Some x → drop n xs ≡ x ∷ drop 1 (drop n xs)
split_at n [] x e = absurd (let b : ⊥ = cc in b)
split_at {A = A} zero (y ∷ ys) x e = let head : y ≡ x = cc in ap (λ (z : A). z ∷ ys) head
split_at (suc n) (y ∷ ys) x e = split_at n ys x e
