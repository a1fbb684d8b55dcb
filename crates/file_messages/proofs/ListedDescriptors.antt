-- Descriptors that stand in a request, one by one.
use Rattle.std.proofs.Common.{◌≡◌, ℕ, suc, ◌+◌, ◌-◌, ◌*◌, ◌<◌, ◌≤◌, ◌||◌, ◌&&◌, nat_lt, Bool, true, false, List, [], ◌∷◌, ◌++◌, length, take, drop, get_or, refl, sym, ap, ◌∙◌, append_assoc, arith}
use Rattle.std.proofs.lemmas.Bool.Decides.{nat_tests}
use Rattle.std.proofs.lemmas.List.{get_or-drop, length-drop, drop-drop, take_more, append-nil}
use Rattle.std.proofs.lemmas.Grind.{flat_map-append}
use Rattle.std.specs.List.{flat_map}
use Rattle.smbd_base.specs.Fields.{u32_at}
use Rattle.buffer_descriptor.specs.declared.descriptor.Descriptor.{Descriptor}
use Rattle.buffer_descriptor.specs.Descriptors.{fields_of, descriptor_bytes}
use Rattle.file_messages.specs.Messages.{descriptors_in, is_sound, are_sound, sum_of_lengths, shares_with, share_a_byte, overlap}

-- a number in what is left of a list stands that much later in the list
pub u32_at-drop : (n place : ℕ) (bytes : List ℕ) → u32_at place (drop n bytes) ≡ u32_at (n + place) bytes
u32_at-drop n place bytes =
    let byte : (k : ℕ) → get_or (drop n bytes) (place + k) 0 ≡ get_or bytes (n + place + k) 0 =
    λ k. get_or-drop n bytes (place + k) 0 ∙ ap (λ (i : ℕ). get_or bytes i 0) (let e : n + (place + k) ≡ n + place + k = omega arith in e) in
    let first : get_or (drop n bytes) place 0 ≡ get_or bytes (n + place) 0 = get_or-drop n bytes place 0 in
    let ends : nat_lt (length (drop n bytes)) (place + 4) ≡ nat_lt (length bytes) (n + place + 4) =
    ap (λ (k : ℕ). nat_lt k (place + 4)) (length-drop n bytes) ∙ less (nat_lt (length bytes) (n + place + 4)) refl in
    rw (ends, first, byte 1, byte 2, byte 3) refl
  where
    less : (t : Bool) → nat_lt (length bytes) (n + place + 4) ≡ t → nat_lt (length bytes - n) (place + 4) ≡ nat_lt (length bytes) (n + place + 4)
    less true e = (let h : length bytes < n + place + 4 = grind (arith, nat_tests) in let g : nat_lt (length bytes - n) (place + 4) ≡ true = grind (arith, nat_tests) in g ∙ sym e)
    less false e = (let h : n + place + 4 ≤ length bytes = grind (arith, nat_tests) in let g : nat_lt (length bytes - n) (place + 4) ≡ false = grind (arith, nat_tests) in g ∙ sym e)

-- the descriptors from this place on
abbrev pub from_place : ℕ → ℕ → List ℕ → List Descriptor
from_place count place bytes = descriptors_in (count - place) (drop (16 * place) bytes)

pub from_place-next : (count place : ℕ) (bytes : List ℕ) → place < count
    → from_place count place bytes ≡ fields_of (drop (16 * place) bytes) ∷ from_place count (place + 1) bytes
from_place-next count place bytes h =
    let less : count - place ≡ suc (count - (place + 1)) = omega arith in
    let next : drop 16 (drop (16 * place) bytes) ≡ drop (16 * (place + 1)) bytes =
    drop-drop 16 (16 * place) bytes ∙ ap (λ (n : ℕ). drop n bytes) (let e : 16 * place + 16 ≡ 16 * (place + 1) = omega arith in e) in
    ap (λ (n : ℕ). descriptors_in n (drop (16 * place) bytes)) less ∙ ap (λ (rest : List ℕ). fields_of (drop (16 * place) bytes) ∷ descriptors_in (count - (place + 1)) rest) next

pub from_place-end : (count place : ℕ) (bytes : List ℕ) → count ≤ place → from_place count place bytes ≡ []
from_place-end count place bytes h = ap (λ (n : ℕ). descriptors_in n (drop (16 * place) bytes)) (let e : count - place ≡ 0 = omega arith in e)

pub from_place-first : (count : ℕ) (bytes : List ℕ) → from_place count 0 bytes ≡ descriptors_in count bytes
from_place-first count bytes = ap (λ (n : ℕ). descriptors_in n bytes) (let e : count - 0 ≡ count = omega arith in e)

-- ---- one more descriptor was looked at

pub overlap-met : (count place : ℕ) (bytes : List ℕ) (d : Descriptor) (t : Bool) → place < count → d ≡ fields_of (drop (16 * place) bytes)
    → t ≡ shares_with d (from_place count (place + 1) bytes)
    → overlap (from_place count place bytes) ≡ (t || overlap (from_place count (place + 1) bytes))
overlap-met count place bytes d t h is e =
    ap overlap (from_place-next count place bytes h)
    ∙ ap (λ (x : Descriptor). shares_with x (from_place count (place + 1) bytes) || overlap (from_place count (place + 1) bytes)) (sym is)
    ∙ ap (λ (b : Bool). b || overlap (from_place count (place + 1) bytes)) (sym e)

pub shares-met : (count place : ℕ) (bytes : List ℕ) (one d : Descriptor) (t : Bool) → place < count → d ≡ fields_of (drop (16 * place) bytes)
    → t ≡ share_a_byte one d
    → shares_with one (from_place count place bytes) ≡ (t || shares_with one (from_place count (place + 1) bytes))
shares-met count place bytes one d t h is e =
    ap (shares_with one) (from_place-next count place bytes h)
    ∙ ap (λ (x : Descriptor). share_a_byte one x || shares_with one (from_place count (place + 1) bytes)) (sym is)
    ∙ ap (λ (b : Bool). b || shares_with one (from_place count (place + 1) bytes)) (sym e)

pub sound-met : (count place : ℕ) (bytes : List ℕ) (d : Descriptor) (t : Bool) → place < count → d ≡ fields_of (drop (16 * place) bytes)
    → t ≡ is_sound d → are_sound (from_place count place bytes) ≡ (t && are_sound (from_place count (place + 1) bytes))
sound-met count place bytes d t h is e =
    ap are_sound (from_place-next count place bytes h)
    ∙ ap (λ (x : Descriptor). is_sound x && are_sound (from_place count (place + 1) bytes)) (sym is)
    ∙ ap (λ (b : Bool). b && are_sound (from_place count (place + 1) bytes)) (sym e)

pub sum-met : (count place : ℕ) (bytes : List ℕ) (d : Descriptor) → place < count → d ≡ fields_of (drop (16 * place) bytes)
    → sum_of_lengths (from_place count place bytes) ≡ d.length + sum_of_lengths (from_place count (place + 1) bytes)
sum-met count place bytes d h is =
    ap sum_of_lengths (from_place-next count place bytes h)
    ∙ ap (λ (x : Descriptor). x.length + sum_of_lengths (from_place count (place + 1) bytes)) (sym is)

pub list-met : (count place : ℕ) (bytes : List ℕ) (found : List Descriptor) (d : Descriptor) → place < count → d ≡ fields_of (drop (16 * place) bytes)
    → found ++ from_place count place bytes ≡ (found ++ d ∷ []) ++ from_place count (place + 1) bytes
list-met count place bytes found d h is =
    ap (λ (t : List Descriptor). found ++ t) (from_place-next count place bytes h ∙ ap (λ (x : Descriptor). x ∷ from_place count (place + 1) bytes) (sym is))
    ∙ sym (append_assoc found (d ∷ []) (from_place count (place + 1) bytes))

-- its fields stand in the request itself
pub descriptor-read : (place : ℕ) (bytes : List ℕ) → fields_of (drop (16 * place) (drop 24 bytes)) ≡ record {
  offset = u32_at (24 + 16 * place) bytes + u32_at (24 + 16 * place + 4) bytes * 4294967296;
  token = u32_at (24 + 16 * place + 8) bytes;
  length = u32_at (24 + 16 * place + 12) bytes;
}
descriptor-read place bytes =
    let at : (k : ℕ) → u32_at k (drop (16 * place) (drop 24 bytes)) ≡ u32_at (24 + 16 * place + k) bytes =
    λ k. ap (u32_at k) (drop-drop (16 * place) 24 bytes) ∙ u32_at-drop (24 + 16 * place) k bytes in
    let first : u32_at 0 (drop (16 * place) (drop 24 bytes)) ≡ u32_at (24 + 16 * place) bytes =
    at 0 ∙ ap (λ (k : ℕ). u32_at k bytes) (let e : 24 + 16 * place + 0 ≡ 24 + 16 * place = omega arith in e) in
    rw (first, at 4, at 8, at 12) refl

pub descriptor-made : (place at low high token len : ℕ) (bytes : List ℕ) → at ≡ place → low ≡ u32_at (24 + 16 * at) bytes
    → high ≡ u32_at (24 + 16 * at + 4) bytes → token ≡ u32_at (24 + 16 * at + 8) bytes → len ≡ u32_at (24 + 16 * at + 12) bytes
    → ◌≡◌ {A = Descriptor} (record { offset = low + high * 4294967296; token = token; length = len }) (fields_of (drop (16 * place) (drop 24 bytes)))
descriptor-made place at low high token len bytes e a b c d =
    made low high token len _ _ _ _ a b c d ∙ sym (descriptor-read at bytes) ∙ ap (λ (k : ℕ). fields_of (drop (16 * k) (drop 24 bytes))) e
  where
    made : (o h t l p g u m : ℕ) → o ≡ p → h ≡ g → t ≡ u → l ≡ m
        → ◌≡◌ {A = Descriptor} (record { offset = o + h * 4294967296; token = t; length = l }) (record { offset = p + g * 4294967296; token = u; length = m })
    made o h t l p g u m x y z w = rw (x, y, z, w) refl

pub unsound_by : (t a b : Bool) → t ≡ false → a ≡ (t && b) → a ≡ false
unsound_by true a b e h = absurd (let x : ⊥ = cc in x)
unsound_by false a b e h = h

pub sound_by : (t a b : Bool) → t ≡ true → a ≡ (t && b) → a ≡ b
sound_by true a b e h = h
sound_by false a b e h = absurd (let x : ⊥ = cc in x)

-- ---- one more descriptor was written

pub bytes-more : (old : List ℕ) (list : List Descriptor) (i : ℕ) (d : Descriptor) (text out new : List ℕ) → i < length list
    → text ≡ old ++ flat_map descriptor_bytes (take i list) → out ≡ descriptor_bytes (get_or list i d) → new ≡ text ++ out
    → new ≡ old ++ flat_map descriptor_bytes (take (i + 1) list)
bytes-more old list i d text out new h before one after =
    after ∙ ap (λ (t : List ℕ). t ++ out) before
    ∙ append_assoc old (flat_map descriptor_bytes (take i list)) out
    ∙ ap (λ (t : List ℕ). old ++ t) (ap (λ (t : List ℕ). flat_map descriptor_bytes (take i list) ++ t) (one ∙ sym (append-nil (descriptor_bytes (get_or list i d))))
    ∙ sym (flat_map-append descriptor_bytes (take i list) (get_or list i d ∷ []))
    ∙ ap (flat_map descriptor_bytes) (sym (take_more list i d h)))
