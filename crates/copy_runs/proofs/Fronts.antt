-- Fronts of lists.
use Rattle.std.proofs.Common.{◌≡◌, ℕ, ◌≤◌, List, ◌++◌, length, take, map, sym, ap, ◌∙◌, arith, length-append}
use mathlib.Core.List.{IsPrefix}
use Rattle.std.proofs.lemmas.List.{length-map, take-append-le}
use Rattle.file_pasts.proofs.Lists.{front_whole}

pub length-prefix : {X : Type 0} (xs ys : List X) → IsPrefix xs ys → length xs ≤ length ys
length-prefix xs ys p = (let all : length (xs ++ p.0) ≡ length ys = ap length p.1 in omega (arith, all, length-append xs p.0))

-- a front of a front
shorter-front : {X : Type 0} (n : ℕ) (xs ys : List X) → IsPrefix xs ys → n ≤ length xs → take n xs ≡ take n ys
shorter-front n xs ys p h = sym (take-append-le n xs p.0 h) ∙ ap (take n) p.1

-- the first so many of a front, counted by what was made of others
pub taken-front : {X Y Z : Type 0} (f : Y → Z) (counted : List Y) (xs ys : List X) → IsPrefix xs ys → length counted ≤ length xs
    → take (length counted) xs ≡ take (length (map f counted)) ys
taken-front f counted xs ys p h = shorter-front (length counted) xs ys p h ∙ ap (λ (n : ℕ). take n ys) (sym (length-map counted f))

-- a front, counted by what was made of it
pub whole-front : {X Z : Type 0} (f : X → Z) (xs ys : List X) → IsPrefix xs ys → xs ≡ take (length (map f xs)) ys
whole-front f xs ys p = (let all : length xs ≤ length xs = omega arith in sym (front_whole (length xs) xs all) ∙ taken-front f xs xs ys p all)
