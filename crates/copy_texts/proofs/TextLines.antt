-- The bytes of lines: no line has a line feed, and its first bytes tell whose it is.
use Rattle.std.proofs.Common.{◌≡◌, ℕ, zero, suc, ◌+◌, ◌-◌, ◌/◌, ◌%◌, ◌<◌, ◌≤◌, ◌==◌, nat_lt, nat_le, Bool, true, false, cond, List, [], ◌∷◌, ◌++◌, decimal, refl, ap, ◌∙◌, arith, ⊎_elim}
use Rattle.std.specs.Prelude.{codes, slice_index, if◌then◌else◌}
use Rattle.std.specs.List.{join_with_byte, list_all}
use Rattle.std.specs.Fmt.{digits, digits_onto, digit_glyph}
use Rattle.std.proofs.lemmas.Bool.{and_parts, leb-true, cases_lt}
use Rattle.std.proofs.lemmas.Bool.Decides.{nat_tests}
use Rattle.std.proofs.lemmas.Fmt.{decimal_digit}
use Rattle.std.proofs.lemmas.List.{get_or_past}
use Rattle.std.proofs.lemmas.List.Elements.{All-get_or}
use Rattle.hex.specs.Hex.{encode_with, encode_lower, lower_digits}
use Rattle.smbd_base.specs.declared.right.Right.{Right}
use Rattle.smbd_base.specs.declared.right.Right.TheVariants as rights
use Rattle.smbd_base.specs.Tokens.{number_of}
use Rattle.event_log.specs.declared.side.Side.{Side}
use Rattle.event_log.specs.declared.side.Side.TheVariants.{C, S, Cw, Sw}
use Rattle.event_log.specs.declared.log_line.LogLine.{LogLine}
use Rattle.event_log.specs.declared.log_line.LogLine.TheVariants.{Post, Submit, Emit, Take, Cut, Load, Fetch, Place, Unload}
use Rattle.event_log.specs.Lines.{side_text, right_text, words_of, line_text}
use Rattle.event_log.proofs.PlainParts.{plain_from_test}
use Rattle.event_log.proofs.WrittenLines.{line_text-words}
use Rattle.copy_laws.proofs.Eaches.{Each, each-append, each-weaker}

-- ---- bytes that a text lacks

abbrev pub Lacks : ℕ → List ℕ → Type 0
Lacks c xs = Each (λ (b : ℕ). b ≡ c → ⊥) xs

abbrev Plain : List ℕ → Type 0
Plain xs = Each (λ (b : ℕ). 33 ≤ b) xs

plain-lacks : (c : ℕ) → c < 33 → (xs : List ℕ) → Plain xs → Lacks c xs
plain-lacks c low xs h = each-weaker (λ (b : ℕ). 33 ≤ b) (λ (b : ℕ). b ≡ c → ⊥) xs (λ b large e. absurd (omega (arith, large, e, low))) h

-- at the first of a byte that they lack two texts fall apart in the same way
pub split-at : (c : ℕ) (xs ys more others : List ℕ) → Lacks c xs → Lacks c ys → xs ++ c ∷ more ≡ ys ++ c ∷ others → (xs ≡ ys) × (more ≡ others)
split-at c [] [] more others h k e = (refl, (let tail : more ≡ others = cc in tail))
split-at c [] (y ∷ ys) more others h k e = absurd (k.0 (let head : y ≡ c = cc in head))
split-at c (x ∷ xs) [] more others h k e = absurd (h.0 (let head : x ≡ c = cc in head))
split-at c (x ∷ xs) (y ∷ ys) more others h k e =
    let head : x ≡ y = cc in
    let tail : xs ++ c ∷ more ≡ ys ++ c ∷ others = cc in
    let later = split-at c xs ys more others h.1 k.1 tail in
    (rw (head, later.0) refl, later.1)

-- ---- decimal and hex

plain-glyph : (d : ℕ) → 33 ≤ digit_glyph false d
plain-glyph d = by_test (nat_lt d 10) where
  by_test : (t : Bool) → 33 ≤ cond t (48 + d) (87 + d)
  by_test true = omega arith
  by_test false = omega arith

plain-onto : (k n : ℕ) (acc : List ℕ) → Plain acc → Plain (digits_onto k 10 false n acc)
plain-onto zero n acc h = h
plain-onto (suc k) n acc h =
    by_test (n / 10 == 0) (plain-onto k (n / 10) (digit_glyph false (n % 10) ∷ acc) (plain-glyph (n % 10), h))
  where
    by_test : (t : Bool) → Plain (digits_onto k 10 false (n / 10) (digit_glyph false (n % 10) ∷ acc))
        → Plain (cond t (digit_glyph false (n % 10) ∷ acc) (digits_onto k 10 false (n / 10) (digit_glyph false (n % 10) ∷ acc)))
    by_test true ih = (plain-glyph (n % 10), h)
    by_test false ih = ih

-- whatever the number
plain-decimal : (n : ℕ) → Plain (decimal n)
unfolding digits
plain-decimal n = plain-onto 64 n [] tt

pub decimal-lacks : (c : ℕ) → c < 33 → (n : ℕ) → Lacks c (decimal n)
decimal-lacks c low n = plain-lacks c low (decimal n) (plain-decimal n)

lacks-glyph : (k : ℕ) → slice_index lower_digits k ≡ 10 → ⊥
lacks-glyph k e =
    ⊎_elim
    (λ (small : k < 16). absurd (let large = All-get_or (λ (b : ℕ). 33 ≤ b) lower_digits k 0 small (plain_from_test lower_digits refl) in omega (arith, large, e)))
    (λ (past : 16 ≤ k). absurd (let none = get_or_past lower_digits k 0 past in omega (arith, none, e)))
    (cases_lt k 16)

hex-lacks : (bytes : List ℕ) → Lacks 10 (encode_lower bytes)
unfolding encode_with
hex-lacks [] = tt
hex-lacks (b ∷ rest) = (lacks-glyph (b / 16), (lacks-glyph (b % 16), hex-lacks rest))

-- ---- words and lines

plain-text : (xs : List ℕ) → list_all (λ (b : ℕ). nat_le 33 b) xs ≡ true → Plain xs
plain-text [] h = tt
plain-text (b ∷ xs) h = let p = and_parts _ _ h in (leb-true 33 b p.0, plain-text xs p.1)

text-lacks : (xs : List ℕ) → list_all (λ (b : ℕ). nat_le 33 b) xs ≡ true → Lacks 10 xs
text-lacks xs h = plain-lacks 10 (omega arith) xs (plain-text xs h)

number-lacks : (n : ℕ) → Lacks 10 (decimal n)
number-lacks n = decimal-lacks 10 (omega arith) n

right-lacks : (right : Right) → Lacks 10 (right_text right)
right-lacks rights.Fetch = text-lacks (codes "fetch") refl
right-lacks rights.Place = text-lacks (codes "place") refl

words-lack : (line : LogLine) → Each (Lacks 10) (words_of line)
words-lack (Post count) = (text-lacks (codes "post") refl, (number-lacks count, tt))
words-lack (Submit len) = (text-lacks (codes "submit") refl, (number-lacks len, tt))
words-lack (Emit frame) = (text-lacks (codes "emit") refl, (hex-lacks frame, tt))
words-lack (Take number len) = (text-lacks (codes "take") refl, (number-lacks number, (number-lacks len, tt)))
words-lack Cut = (text-lacks (codes "cut") refl, tt)
words-lack (Load token right len) =
    (text-lacks (codes "load") refl, (number-lacks (number_of token), (right-lacks right, (number-lacks len, tt))))
words-lack (Fetch token at len) =
    (text-lacks (codes "fetch") refl, (number-lacks (number_of token), (number-lacks at, (number-lacks len, tt))))
words-lack (Place token order at len) =
    (text-lacks (codes "place") refl, (number-lacks (number_of token), (number-lacks order, (number-lacks at, (number-lacks len, tt)))))
words-lack (Unload token) = (text-lacks (codes "unload") refl, (number-lacks (number_of token), tt))

side-lacks : (side : Side) → Lacks 10 (side_text side)
side-lacks C = text-lacks (codes "C") refl
side-lacks S = text-lacks (codes "S") refl
side-lacks (Cw worker) = each-append (λ (b : ℕ). b ≡ 10 → ⊥) (codes "C") (decimal worker) (text-lacks (codes "C") refl) (number-lacks worker)
side-lacks (Sw worker) = each-append (λ (b : ℕ). b ≡ 10 → ⊥) (codes "S") (decimal worker) (text-lacks (codes "S") refl) (number-lacks worker)

join-lacks : (part : List ℕ) (parts : List (List ℕ)) → Lacks 10 part → Each (Lacks 10) parts → Lacks 10 (join_with_byte 32 (part ∷ parts))
join-lacks part [] h k = h
join-lacks part (next ∷ parts) h k =
    each-append (λ (b : ℕ). b ≡ 10 → ⊥) part (32 ∷ join_with_byte 32 (next ∷ parts)) h ((λ e. absurd (omega (arith, e))), join-lacks next parts k.0 k.1)

line-lacks : (side : Side) (line : LogLine) → Lacks 10 (line_text side line)
line-lacks side line = join-lacks (side_text side) (words_of line) (side-lacks side) (words-lack line)

-- ---- whose line it is

abbrev side_by : ℕ → ℕ → Side
side_by letter next =
    if letter == 67 then (if next == 32 then C else Cw (next - 48)) else (if next == 32 then S else Sw (next - 48))

-- the side that the first two bytes of a line name
abbrev pub side_of_line : List ℕ → Side
side_of_line line = side_by (slice_index line 0) (slice_index line 1)

-- a line of this side, without its line feed
pub record Tells (side : Side) (line : List ℕ) : Type 0 where
  pub named : side_of_line line ≡ side
  pub whole : Lacks 10 line

pub client-tells : (line : LogLine) → Tells C (line_text C line)
client-tells line = record { named = ap (λ (l : List ℕ). side_of_line l) (line_text-words C line); whole = line-lacks C line }

pub server-tells : (line : LogLine) → Tells S (line_text S line)
server-tells line = record { named = ap (λ (l : List ℕ). side_of_line l) (line_text-words S line); whole = line-lacks S line }

no_space : (worker : ℕ) → (48 + worker == 32) ≡ false
no_space worker = grind (arith, nat_tests)

named-back : (worker : ℕ) → 48 + worker - 48 ≡ worker
named-back worker = omega arith

pub client_worker-tells : (worker : ℕ) → worker < 10 → (line : LogLine) → Tells (Cw worker) (line_text (Cw worker) line)
client_worker-tells worker small line = record {
  named =
      ap (λ (l : List ℕ). side_of_line l) (line_text-words (Cw worker) line)
      ∙ ap (λ (d : List ℕ). side_of_line ((67 ∷ d) ++ 32 ∷ join_with_byte 32 (words_of line))) (decimal_digit worker small)
      ∙ rw (no_space worker, named-back worker) refl;
  whole = line-lacks (Cw worker) line;
}

pub server_worker-tells : (worker : ℕ) → worker < 10 → (line : LogLine) → Tells (Sw worker) (line_text (Sw worker) line)
server_worker-tells worker small line = record {
  named =
      ap (λ (l : List ℕ). side_of_line l) (line_text-words (Sw worker) line)
      ∙ ap (λ (d : List ℕ). side_of_line ((83 ∷ d) ++ 32 ∷ join_with_byte 32 (words_of line))) (decimal_digit worker small)
      ∙ rw (no_space worker, named-back worker) refl;
  whole = line-lacks (Sw worker) line;
}
