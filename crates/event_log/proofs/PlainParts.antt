-- Parts with neither a space nor a line feed, joined and taken apart again.
use Rattle.std.proofs.Common.{◌≡◌, ◌≢◌, ℕ, suc, ◌+◌, ◌/◌, ◌%◌, ◌^◌, ◌<◌, ◌≤◌, ◌==◌, nat_le, true, false, List, [], ◌∷◌, ◌++◌, length, get_or, decimal, refl, ap, ◌∙◌, arith, length-append}
use Rattle.std.specs.Prelude.{All, slice_index}
use Rattle.std.specs.List.{join_with_byte, list_all}
use Rattle.std.proofs.lemmas.Bool.{and_parts, leb-true, ne_eqb}
use Rattle.std.proofs.lemmas.Fmt.{decimal_is_IsNumeral, length-decimal-le}
use Rattle.std.proofs.lemmas.Str.Parse.{digit_at}
use Rattle.std.proofs.lemmas.List.Elements.{All-nil, All-cons, All-append, All-get_or, All-from_get_or}
use Rattle.std.proofs.lemmas.List.Splits.{slice_split_none, slice_split_at}
use Rattle.hex.specs.Hex.{encode_with, encode_lower, lower_digits, IsBytes}
use Rattle.event_log.specs.Reading.{parts_of}

-- each byte is past the space
abbrev pub IsPlain : List ℕ → Type 0
IsPlain part = All (λ (b : ℕ). 33 ≤ b) part

abbrev pub ArePlain : List (List ℕ) → Type 0
ArePlain [] = Unit {0}
ArePlain (part ∷ parts) = IsPlain part × ArePlain parts

pub plain_from_test : (part : List ℕ) → list_all (λ (b : ℕ). nat_le 33 b) part ≡ true → IsPlain part
plain_from_test [] h = All-nil (λ (b : ℕ). 33 ≤ b)
plain_from_test (b ∷ part) h =
    let p = and_parts _ _ h in
    All-cons (λ (b : ℕ). 33 ≤ b) b part (leb-true 33 b p.0) (plain_from_test part p.1)

pub decimal-plain : (n : ℕ) → n < 2 ^ 64 → IsPlain (decimal n)
decimal-plain n small =
    All-from_get_or (λ (b : ℕ). 33 ≤ b) (decimal n) 0 (λ i below. let d = digit_at (decimal n) i (decimal_is_IsNumeral n small).0.1 below in omega (arith, d))

lower_digit-plain : (k : ℕ) → k < 16 → 33 ≤ slice_index lower_digits k
lower_digit-plain k small = All-get_or (λ (b : ℕ). 33 ≤ b) lower_digits k 0 small (plain_from_test lower_digits refl)

pub encode-plain : (bytes : List ℕ) → IsBytes bytes → IsPlain (encode_lower bytes)
unfolding encode_with
encode-plain [] h = All-nil (λ (b : ℕ). 33 ≤ b)
encode-plain (b ∷ rest) h =
    let byte : b < 256 = h 0 in
    All-cons (λ (b : ℕ). 33 ≤ b) (slice_index lower_digits (b / 16)) (slice_index lower_digits (b % 16) ∷ encode_lower rest)
    (lower_digit-plain (b / 16) (omega arith))
    (All-cons (λ (b : ℕ). 33 ≤ b) (slice_index lower_digits (b % 16)) (encode_lower rest) (lower_digit-plain (b % 16) (omega arith)) (encode-plain rest (λ i. h (suc i))))

no_space : (part : List ℕ) → IsPlain part → All (λ (b : ℕ). (b == 32) ≡ false) part
no_space part h =
    All-from_get_or (λ (b : ℕ). (b == 32) ≡ false) part 0 (λ i below.
    let k = All-get_or (λ (b : ℕ). 33 ≤ b) part i 0 below h in ne_eqb (get_or part i 0) 32 (λ e. absurd (omega (arith, k, e))))

no_feed : (part : List ℕ) → IsPlain part → All (λ (b : ℕ). b ≢ 10) part
no_feed part h =
    All-from_get_or (λ (b : ℕ). b ≢ 10) part 0 (λ i below e.
    let k = All-get_or (λ (b : ℕ). 33 ≤ b) part i 0 below h in absurd (omega (arith, k, e)))

-- plain parts are the parts of their joined text
pub parts_of-join : (part : List ℕ) (parts : List (List ℕ)) → IsPlain part → ArePlain parts
    → parts_of (join_with_byte 32 (part ∷ parts)) ≡ part ∷ parts
parts_of-join part [] h hs = slice_split_none (λ (b : ℕ). b == 32) part (no_space part h)
parts_of-join part (next ∷ parts) h hs =
    slice_split_at (λ (b : ℕ). b == 32) part 32 (join_with_byte 32 (next ∷ parts)) (no_space part h) refl
    ∙ ap (λ (ps : List (List ℕ)). part ∷ ps) (parts_of-join next parts hs.0 hs.1)

-- and have no line feed in it
pub no_feed-join : (part : List ℕ) (parts : List (List ℕ)) → IsPlain part → ArePlain parts
    → All (λ (b : ℕ). b ≢ 10) (join_with_byte 32 (part ∷ parts))
no_feed-join part [] h hs = no_feed part h
no_feed-join part (next ∷ parts) h hs =
    All-append (λ (b : ℕ). b ≢ 10) part (32 ∷ join_with_byte 32 (next ∷ parts)) (no_feed part h)
    (All-cons (λ (b : ℕ). b ≢ 10) 32 (join_with_byte 32 (next ∷ parts)) (λ e. absurd (omega (arith, e))) (no_feed-join next parts hs.0 hs.1))

-- the bytes of parts and of the spaces before them
abbrev pub total : List (List ℕ) → ℕ
total [] = 0
total (part ∷ parts) = 1 + length part + total parts

pub length-join : (part : List ℕ) (parts : List (List ℕ)) → length (join_with_byte 32 (part ∷ parts)) ≡ length part + total parts
length-join part [] = omega arith
length-join part (next ∷ parts) =
    let later : length (join_with_byte 32 (next ∷ parts)) ≡ length next + total parts = length-join next parts in
    let both : length (part ++ 32 ∷ join_with_byte 32 (next ∷ parts)) ≡ length part + length (32 ∷ join_with_byte 32 (next ∷ parts)) =
    length-append part (32 ∷ join_with_byte 32 (next ∷ parts)) in
    omega arith

pub decimal-short : (n : ℕ) → n < 2 ^ 64 → length (decimal n) ≤ 20
decimal-short n small = length-decimal-le 20 n (omega arith) (omega arith) small
