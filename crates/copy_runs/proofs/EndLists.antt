-- Fronts that are the whole list, and how many requests a copy has.
use Rattle.std.proofs.Common.{◌≡◌, ℕ, zero, suc, ◌+◌, ◌/◌, ◌≤◌, Bool, true, false, None, List, [], ◌∷◌, ◌++◌, length, sym, ap, refl, ◌∙◌, arith, length-append}
use Rattle.std.specs.Prelude.{slice_get}
use mathlib.Core.List.{IsPrefix}
use Rattle.std.proofs.lemmas.List.{append-nil}
use Rattle.file_messages.specs.declared.kind.Channel.{Channel}
use Rattle.file_messages.specs.Runs.{groups_of, windows, writes_from, end_request, end_if, put_requests, reads_from, reads_count, get_requests}
use Rattle.file_pasts.proofs.InStep.{length-parts}

-- ---- fronts

pub front-few : {X : Type 0} (xs ys : List X) → IsPrefix xs ys → length xs ≤ length ys
front-few xs ys p =
    let all : length (xs ++ p.0) ≡ length ys = ap (λ (l : List _). length l) p.1 in
    omega (arith, all, length-append xs p.0)

nothing-left : {X : Type 0} (xs : List X) → length xs ≤ 0 → xs ≡ []
nothing-left [] h = refl
nothing-left (x ∷ xs) h = absurd (omega (arith, h))

-- a front that is no shorter is the list
pub front-all : {X : Type 0} (xs ys : List X) → IsPrefix xs ys → length ys ≤ length xs → xs ≡ ys
front-all xs ys p h =
    let all : length (xs ++ p.0) ≡ length ys = ap (λ (l : List _). length l) p.1 in
    let none : p.0 ≡ [] = nothing-left p.0 (omega (arith, all, h, length-append xs p.0)) in
    sym (append-nil xs) ∙ ap (λ (l : List _). xs ++ l) (sym none) ∙ p.1

-- a place where nothing stands is behind the list
pub none-at : {X : Type 0} (xs : List X) (n : ℕ) → slice_get xs n ≡ None → length xs ≤ n
none-at [] n e = omega arith
none-at (x ∷ xs) zero e = absurd (let b : ⊥ = cc in b)
none-at (x ∷ xs) (suc n) e = (let z = none-at xs n e in omega (arith, z))

-- ---- requests

pub length-groups : (bytes : List ℕ) → length (groups_of bytes) ≡ (length bytes + 65535) / 65536
length-groups bytes = length-parts ((length bytes + 65535) / 65536) 65536 bytes

length-writes : (channel : Channel) (w k offset : ℕ) (groups : List (List ℕ)) → length (writes_from channel w k offset groups) ≡ length groups
length-writes channel w k offset [] = refl
length-writes channel w k offset (g ∷ groups) = (let z = length-writes channel w (k + 1) (offset + length g) groups in omega (arith, z))

length-writes-end : (channel : Channel) (pages : ℕ) (ended : Bool) (bytes : List ℕ)
    → length (put_requests channel pages ended bytes) ≡ length (groups_of bytes) + length (end_if ended (end_request (length (groups_of bytes) + 1) (length bytes)))
length-writes-end channel pages ended bytes =
    length-append (writes_from channel (windows pages) 1 0 (groups_of bytes)) (end_if ended (end_request (length (groups_of bytes) + 1) (length bytes)))
    ∙ ap (λ (n : ℕ). n + length (end_if ended (end_request (length (groups_of bytes) + 1) (length bytes)))) (length-writes channel (windows pages) 1 0 (groups_of bytes))

-- of a put whose bytes have ended
pub length-put : (channel : Channel) (pages : ℕ) (bytes : List ℕ) → length (put_requests channel pages true bytes) ≡ length (groups_of bytes) + 1
length-put channel pages bytes = length-writes-end channel pages true bytes

pub put-few : (channel : Channel) (pages : ℕ) (ended : Bool) (bytes : List ℕ) → length (put_requests channel pages ended bytes) ≤ length (groups_of bytes) + 1
put-few channel pages true bytes = (let z = length-put channel pages bytes in omega (arith, z))
put-few channel pages false bytes = (let z : length (put_requests channel pages false bytes) ≡ length (groups_of bytes) + 0 = length-writes-end channel pages false bytes in omega (arith, z))

pub length-reads : (channel : Channel) (count k : ℕ) → length (reads_from channel count k) ≡ count
length-reads channel zero k = refl
length-reads channel (suc count) k = (let z = length-reads channel count (k + 1) in omega (arith, z))

pub length-get : (channel : Channel) (bytes : List ℕ) → length (get_requests channel bytes) ≡ reads_count bytes + 1
length-get channel bytes =
    length-append (reads_from channel (reads_count bytes) 1) (end_request (reads_count bytes + 1) (length bytes) ∷ []) ∙ ap (λ (n : ℕ). n + 1) (length-reads channel (reads_count bytes) 1)
