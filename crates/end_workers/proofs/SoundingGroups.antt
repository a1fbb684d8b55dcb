-- The groups of the bytes of a copy, joined, and fronts of them.
use Rattle.std.proofs.Common.{◌≡◌, ℕ, zero, suc, ◌+◌, ◌*◌, ◌/◌, ◌%◌, ◌<◌, ◌≤◌, Bool, true, false, List, [], ◌∷◌, ◌++◌, length, take, drop, refl, sym, ap, ◌∙◌, subst, append_assoc, length-append, arith}
use Rattle.std.proofs.lemmas.List.{append-nil, take-append-drop, take-append-le, take_all, length-take, length-drop}
use mathlib.Core.List.{IsPrefix}
use Rattle.file_messages.specs.Runs.{parts_from, groups_of}
use Rattle.file_pasts.proofs.Lists.{front_of}
use Rattle.copy_runs.proofs.Fronts.{length-prefix}
use Rattle.copy_runs.proofs.EndLists.{length-groups}
use Rattle.end_workers.specs.Progress.{joined}
use Rattle.end_workers.specs.Promise.{usable, groups_begun}

-- ---- fronts

pub prefix-of : {A : Type 0} (xs ys : List A) → xs ≡ ys → IsPrefix xs ys
prefix-of xs ys e = ([], append-nil xs ∙ e)

pub prefix-append : {A : Type 0} (xs ys zs : List A) → IsPrefix ys zs → IsPrefix (xs ++ ys) (xs ++ zs)
prefix-append xs ys zs p = (p.0, append_assoc xs ys p.0 ∙ ap (λ (l : List _). xs ++ l) p.1)

-- so many of the first ones are a front of any front that has as many
pub take-prefix : {A : Type 0} (n : ℕ) (xs ys : List A) → IsPrefix xs ys → n ≤ length xs → IsPrefix (take n ys) xs
take-prefix n xs ys p h =
    let same : take n xs ≡ take n ys = sym (take-append-le n xs p.0 h) ∙ ap (λ (l : List _). take n l) p.1 in
    (drop n xs, ap (λ (l : List _). l ++ drop n xs) (sym same) ∙ take-append-drop n xs)

-- a front is the first so many
pub prefix-is : {A : Type 0} (xs ys : List A) → IsPrefix xs ys → xs ≡ take (length xs) ys
prefix-is xs ys p =
    let all : length xs ≤ length xs = omega arith in
    sym (take_all (length xs) xs all) ∙ sym (take-append-le (length xs) xs p.0 all) ∙ ap (λ (l : List _). take (length xs) l) p.1

-- ---- groups joined

pub joined-append : (xs ys : List (List ℕ)) → joined (xs ++ ys) ≡ joined xs ++ joined ys
joined-append [] ys = refl
joined-append (x ∷ xs) ys = ap (λ (l : List ℕ). x ++ l) (joined-append xs ys) ∙ sym (append_assoc x (joined xs) (joined ys))

pub joined-prefix : (xs ys : List (List ℕ)) → IsPrefix xs ys → IsPrefix (joined xs) (joined ys)
joined-prefix xs ys p = (joined p.0, sym (joined-append xs p.0) ∙ ap joined p.1)

joined-parts : (n : ℕ) (bytes : List ℕ) → length bytes ≤ n * 65536 → joined (parts_from n 65536 bytes) ≡ bytes
joined-parts zero bytes h = sym (empty bytes (omega (arith, h))) where
  empty : (xs : List ℕ) → length xs ≤ 0 → xs ≡ []
  empty [] h = refl
  empty (x ∷ xs) h = absurd (omega (arith, h))
joined-parts (suc n) bytes h =
    ap (λ (t : List ℕ). take 65536 bytes ++ t) (joined-parts n (drop 65536 bytes) (omega (arith, h, length-drop 65536 bytes)))
    ∙ take-append-drop 65536 bytes

-- the groups of some bytes make them up
pub joined-groups : (bytes : List ℕ) → joined (groups_of bytes) ≡ bytes
joined-groups bytes = joined-parts ((length bytes + 65535) / 65536) bytes (omega arith)

parts-short : (n m : ℕ) (bytes : List ℕ) → length (joined (take m (parts_from n 65536 bytes))) ≤ m * 65536
parts-short n zero bytes = omega arith
parts-short zero (suc m) bytes = omega arith
parts-short (suc n) (suc m) bytes =
    let rest = parts-short n m (drop 65536 bytes) in
    let first = length-take 65536 bytes in
    let all = length-append (take 65536 bytes) (joined (take m (parts_from n 65536 (drop 65536 bytes)))) in
    omega (arith, rest, first, all)

-- bytes that the first so many groups have begin no more groups
pub begun-most : (stored bytes : List ℕ) (groups : List (List ℕ)) → IsPrefix groups (groups_of bytes) → IsPrefix stored (joined groups) → groups_begun stored ≤ length groups
begun-most stored bytes groups g p =
    let long : length (joined groups) ≤ length groups * 65536 =
    subst (λ (gs : List (List ℕ)). length (joined gs) ≤ length groups * 65536) (sym (prefix-is groups (groups_of bytes) g))
    (parts-short ((length bytes + 65535) / 65536) (length groups) bytes) in
    let few = length-prefix stored (joined groups) p in
    let begun : groups_begun stored ≡ (length stored + 65535) / 65536 = length-groups stored in
    omega (arith, long, few, begun)

-- ---- the bytes of which requests can be made

pub usable-front : (ended : Bool) (bytes : List ℕ) → IsPrefix (usable ended bytes) bytes
usable-front true bytes = prefix-of bytes bytes refl
usable-front false bytes = front_of (length bytes / 65536 * 65536) (take (length bytes / 65536 * 65536) bytes) bytes refl

-- all of them, where they are whole groups if the end was not seen
pub usable-all : (ended : Bool) (bytes : List ℕ) → (ended ≡ false → length bytes % 65536 ≡ 0) → usable ended bytes ≡ bytes
usable-all true bytes whole = refl
usable-all false bytes whole = (let w = whole refl in take_all (length bytes / 65536 * 65536) bytes (omega (arith, w)))

-- those of whole groups, where fewer than a group's came after them
pub usable-rest : (bytes more : List ℕ) → length bytes % 65536 ≡ 0 → length more < 65536 → usable false (bytes ++ more) ≡ bytes
usable-rest bytes more whole few =
    let long = length-append bytes more in
    let exact : length (bytes ++ more) / 65536 * 65536 ≡ length bytes = omega (arith, whole, few, long) in
    let all : length bytes ≤ length bytes = omega arith in
    ap (λ (n : ℕ). take n (bytes ++ more)) exact ∙ take-append-le (length bytes) bytes more all ∙ take_all (length bytes) bytes all
