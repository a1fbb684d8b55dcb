-- A fact of each element of a list, by recursion.
use Rattle.std.proofs.Common.{◌≡◌, ℕ, zero, suc, Some, List, [], ◌∷◌, ◌++◌, reverse, subst, ⊎_elim, Contains}
use Rattle.std.specs.Prelude.{slice_get}
use Rattle.std.proofs.lemmas.List.{reverse-append}
use Rattle.smbd_base.specs.declared.page_event.PageEvent.{PageEvent}
use Rattle.smbd_base.proofs.EventLists.{Contains-nil, Contains-cons_cases}

abbrev pub Each : {X : Type 0} → (X → Type 0) → List X → Type 0
Each P [] = Unit {0}
Each P (x ∷ xs) = P x × Each P xs

pub each-append : {X : Type 0} (P : X → Type 0) (xs ys : List X) → Each P xs → Each P ys → Each P (xs ++ ys)
each-append P [] ys h k = k
each-append P (x ∷ xs) ys h k = (h.0, each-append P xs ys h.1 k)

pub each-front : {X : Type 0} (P : X → Type 0) (xs ys : List X) → Each P (xs ++ ys) → Each P xs
each-front P [] ys h = tt
each-front P (x ∷ xs) ys h = (h.0, each-front P xs ys h.1)

pub each-back : {X : Type 0} (P : X → Type 0) (xs ys : List X) → Each P (xs ++ ys) → Each P ys
each-back P [] ys h = h
each-back P (x ∷ xs) ys h = each-back P xs ys h.1

pub each-weaker : {X : Type 0} (P Q : X → Type 0) (xs : List X) → ((x : X) → P x → Q x) → Each P xs → Each Q xs
each-weaker P Q [] f h = tt
each-weaker P Q (x ∷ xs) f h = (f x h.0, each-weaker P Q xs f h.1)

pub each-both : {X : Type 0} (P Q R : X → Type 0) (xs : List X) → ((x : X) → P x → Q x → R x) → Each P xs → Each Q xs → Each R xs
each-both P Q R [] f h k = tt
each-both P Q R (x ∷ xs) f h k = (f x h.0 k.0, each-both P Q R xs f h.1 k.1)

-- of a list whose last is this one
pub reverse-cons : {X : Type 0} (x : X) (xs : List X) → reverse (x ∷ xs) ≡ reverse xs ++ x ∷ []
reverse-cons x xs = reverse-append (x ∷ []) xs

pub each-reversed : {X : Type 0} (P : X → Type 0) (xs : List X) → Each P (reverse xs) → Each P xs
each-reversed P [] h = tt
each-reversed P (x ∷ xs) h =
    let k : Each P (reverse xs ++ x ∷ []) = subst (λ (ys : List _). Each P ys) (reverse-cons x xs) h in
    ((each-back P (reverse xs) (x ∷ []) k).0, each-reversed P xs (each-front P (reverse xs) (x ∷ []) k))

pub each-at : {X : Type 0} (P : X → Type 0) (xs : List X) (n : ℕ) (x : X) → Each P xs → slice_get xs n ≡ Some x → P x
each-at P [] n x h e = absurd (let b : ⊥ = cc in b)
each-at P (y ∷ ys) zero x h e = subst P (same y x e) h.0 where
  same : {A : Type 0} (a b : A) → Some a ≡ Some b → a ≡ b
  same a b h = cc
each-at P (y ∷ ys) (suc n) x h e = each-at P ys n x h.1 e

pub each-contained : (P : PageEvent → Type 0) (xs : List PageEvent) (e : PageEvent) → Each P xs → Contains xs e → P e
each-contained P [] e h c = absurd (Contains-nil e c)
each-contained P (x ∷ xs) e h c =
    ⊎_elim (λ (same : x ≡ e). subst P same h.0) (λ (old : Contains xs e). each-contained P xs e h.1 old) (Contains-cons_cases x xs e c)
