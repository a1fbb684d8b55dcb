-- Two lists, element by element, and the last elements and fronts of lists.
use Rattle.std.proofs.Common.{◌≡◌, List, [], ◌∷◌, ◌++◌, map, reverse, refl, sym, ap, ◌∙◌, append_assoc}
use Rattle.std.proofs.lemmas.List.{reverse-reverse, append_cancel_left, map-append}
use mathlib.Core.List.{IsPrefix}
use Rattle.copy_laws.proofs.Eaches.{Each, reverse-cons}

-- a relation of each element of one list to the element of the other at its place; the lists are as long
abbrev pub Pairwise : {X : Type 0} → (X → X → Type 0) → List X → List X → Type 0
Pairwise R [] [] = Unit {0}
Pairwise R [] (y ∷ ys) = ⊥
Pairwise R (x ∷ xs) [] = ⊥
Pairwise R (x ∷ xs) (y ∷ ys) = R x y × Pairwise R xs ys

pub pairwise-same : {X : Type 0} (P Q : X → Type 0) (R : X → X → Type 0) (xs ys : List X) → ((x y : X) → P x → Q y → R x y → x ≡ y)
    → Each P xs → Each Q ys → Pairwise R xs ys → xs ≡ ys
pairwise-same P Q R [] [] f h k r = refl
pairwise-same P Q R [] (y ∷ ys) f h k r = absurd r
pairwise-same P Q R (x ∷ xs) [] f h k r = absurd r
pairwise-same P Q R (x ∷ xs) (y ∷ ys) f h k r = rw (f x y h.0 k.0 r.0, pairwise-same P Q R xs ys f h.1 k.1 r.1) refl

pub pairwise-stronger : {X : Type 0} (P Q : X → Type 0) (R S : X → X → Type 0) (xs ys : List X) → ((x y : X) → P x → Q y → R x y → S x y)
    → Each P xs → Each Q ys → Pairwise R xs ys → Pairwise S xs ys
pairwise-stronger P Q R S [] [] f h k r = tt
pairwise-stronger P Q R S [] (y ∷ ys) f h k r = absurd r
pairwise-stronger P Q R S (x ∷ xs) [] f h k r = absurd r
pairwise-stronger P Q R S (x ∷ xs) (y ∷ ys) f h k r = (f x y h.0 k.0 r.0, pairwise-stronger P Q R S xs ys f h.1 k.1 r.1)

pub pairwise-append : {X : Type 0} (R : X → X → Type 0) (xs ys more others : List X) → Pairwise R xs ys → Pairwise R more others → Pairwise R (xs ++ more) (ys ++ others)
pairwise-append R [] [] more others r s = s
pairwise-append R [] (y ∷ ys) more others r s = absurd r
pairwise-append R (x ∷ xs) [] more others r s = absurd r
pairwise-append R (x ∷ xs) (y ∷ ys) more others r s = (r.0, pairwise-append R xs ys more others r.1 s)

-- ---- what a function makes of lists

pub each-mapped : {X Y : Type 0} (P : Y → Type 0) (f : X → Y) (xs : List X) → ((x : X) → P (f x)) → Each P (map f xs)
each-mapped P f [] h = tt
each-mapped P f (x ∷ xs) h = (h x, each-mapped P f xs h)

pub pairs-mapped : {X Y : Type 0} (f : X → Y) (R : X → X → Type 0) (xs ys : List X) → ((x y : X) → f x ≡ f y → R x y) → map f xs ≡ map f ys → Pairwise R xs ys
pairs-mapped f R [] [] h e = tt
pairs-mapped f R [] (y ∷ ys) h e = absurd (let b : ⊥ = cc in b)
pairs-mapped f R (x ∷ xs) [] h e = absurd (let b : ⊥ = cc in b)
pairs-mapped f R (x ∷ xs) (y ∷ ys) h e =
    let head : f x ≡ f y = cc in
    let tail : map f xs ≡ map f ys = cc in
    (h x y head, pairs-mapped f R xs ys h tail)

mapped-reversed : {X Y : Type 0} (f : X → Y) (xs : List X) → map f (reverse xs) ≡ reverse (map f xs)
mapped-reversed f [] = refl
mapped-reversed f (x ∷ xs) =
    ap (λ (l : List _). map f l) (reverse-cons x xs) ∙ map-append f (reverse xs) (x ∷ [])
    ∙ ap (λ (l : List _). l ++ f x ∷ []) (mapped-reversed f xs) ∙ sym (reverse-cons (f x) (map f xs))

-- lists whose reverses are mapped to the same list
pub mapped-back : {X Y : Type 0} (f : X → Y) (xs ys : List X) → map f (reverse xs) ≡ map f (reverse ys) → map f xs ≡ map f ys
mapped-back f xs ys e =
    sym (reverse-reverse (map f xs)) ∙ ap (λ (l : List _). reverse l) (sym (mapped-reversed f xs) ∙ e ∙ mapped-reversed f ys) ∙ reverse-reverse (map f ys)

-- ---- last elements and fronts

pub no-last : {X : Type 0} (xs : List X) (x : X) → xs ++ x ∷ [] ≡ [] → ⊥
no-last [] x e = (let b : ⊥ = cc in b)
no-last (y ∷ ys) x e = (let b : ⊥ = cc in b)

pub last-apart : {X : Type 0} (xs ys : List X) (x y : X) → xs ++ x ∷ [] ≡ ys ++ y ∷ [] → (xs ≡ ys) × (x ≡ y)
last-apart [] [] x y e = (refl, (let h : x ≡ y = cc in h))
last-apart [] (b ∷ bs) x y e = absurd (no-last bs y (let h : bs ++ y ∷ [] ≡ [] = cc in h))
last-apart (a ∷ as-more) [] x y e = absurd (no-last as-more x (let h : as-more ++ x ∷ [] ≡ [] = cc in h))
last-apart (a ∷ as-more) (b ∷ bs) x y e =
    let head : a ≡ b = cc in
    let tail : as-more ++ x ∷ [] ≡ bs ++ y ∷ [] = cc in
    let later = last-apart as-more bs x y tail in
    (rw (head, later.0) refl, later.1)

-- what comes next in two fronts of one list is the same
pub next-of-fronts : {X : Type 0} (xs : List X) (x y : X) (zs : List X) → IsPrefix (xs ++ x ∷ []) zs → IsPrefix (xs ++ y ∷ []) zs → x ≡ y
next-of-fronts xs x y zs p q =
    let e : x ∷ p.0 ≡ y ∷ q.0 =
    append_cancel_left xs (x ∷ p.0) (y ∷ q.0) (sym (append_assoc xs (x ∷ []) p.0) ∙ p.1 ∙ sym q.1 ∙ append_assoc xs (y ∷ []) q.0) in
    let h : x ≡ y = cc in
    h
