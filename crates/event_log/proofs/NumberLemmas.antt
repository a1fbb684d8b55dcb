-- Numbers and the texts that spell them.
use Rattle.std.proofs.Common.{◌≡◌, ℕ, ◌^◌, ◌<◌, ◌≤◌, ◌==◌, ◌⊎◌, ◌&&◌, nat_le, Bool, true, false, cond, List, length, get_or, Option, Some, None, Result, Ok, Err, decimal, refl, sym, ap, ◌∙◌, subst, arith, inl, inr}
use Rattle.std.specs.Prelude.{IsUtf8, bytes_eq}
use Rattle.std.specs.Result.{OkIff}
use Rattle.std.specs.Str.Parse.{AllDigits, digits_value, ParsesUnsigned}
use Rattle.std.proofs.lemmas.Fmt.{decimal_is_IsNumeral, decimal_digit, first_decimal, decimal-digits_value, IsAscii-decimal}
use Rattle.std.proofs.lemmas.Str.{IsUtf8-from_ascii}
use Rattle.std.proofs.lemmas.Str.Parse.{digit_at, IsNumeralModel, numerals_by_value, tells_digits, parse_plain}
use Rattle.std.proofs.lemmas.Bool.{cases_eq, and_parts, leb-true, le-leb}
use Rattle.std.proofs.lemmas.Bool.Decides.{nat_tests}
use Rattle.std.proofs.lemmas.Slice.Eq.{bytes_eq-Decides}
use Rattle.event_log.specs.Reading.{number_in}

own : IsNumeralModel (AllDigits 10) (digits_value 10)
own = numerals_by_value _ tells_digits

-- what is known of the decimal digits of a number
pub record IsDecimal (text : List ℕ) (n : ℕ) : Type 0 where
  pub some : 0 < length text
  pub low : 48 ≤ get_or text 0 0
  pub high : get_or text 0 0 ≤ 57
  pub front : get_or text 0 0 ≡ 48 → length text ≡ 1
  pub all : AllDigits 10 text
  pub value : digits_value 10 text ≡ n
  pub text_is : IsUtf8 text

front_of_zero : (n : ℕ) → n < 2 ^ 64 → get_or (decimal n) 0 0 ≡ 48 → length (decimal n) ≡ 1
front_of_zero n small first =
    elim (cases_eq n 0) [
      | inl zero_is ↦ ap (λ (m : ℕ). length (decimal m)) zero_is ∙ ap length (decimal_digit 0 (omega arith))
      | inr other ↦ absurd (omega (arith, first_decimal n (omega arith) small))
    ]

pub decimal-IsDecimal : (n : ℕ) → n < 2 ^ 64 → IsDecimal (decimal n) n
decimal-IsDecimal n small =
    let numeral = decimal_is_IsNumeral n small in
    let first = digit_at (decimal n) 0 numeral.0.1 numeral.0.0 in
    record {
      some = numeral.0.0;
      low = omega (arith, first);
      high = omega (arith, first);
      front = front_of_zero n small;
      all = numeral.0.1;
      value = numeral.1;
      text_is = IsUtf8-from_ascii (decimal n) (IsAscii-decimal n small);
    }

pub IsDecimal-of : (text : List ℕ) (n : ℕ) → n < 2 ^ 64 → text ≡ decimal n → IsDecimal text n
IsDecimal-of text n small is = let P : List ℕ → Type 0 = λ t. IsDecimal t n in subst P (sym is) (decimal-IsDecimal n small)

pub some_bytes : (text : List ℕ) → (length text == 0) ≡ false → 0 < length text
some_bytes text h = grind (arith, nat_tests)

pub front_alone : (text : List ℕ) → 0 < length text → ((get_or text 0 0 ≡ 48) × (length text ≤ 1)) ⊎ (get_or text 0 0 ≡ 48 → ⊥)
    → get_or text 0 0 ≡ 48 → length text ≡ 1
front_alone text some either first =
    elim either [
      | inl short ↦ omega (arith, short.1)
      | inr other ↦ absurd (other first)
    ]

-- a text that `parse` reads, with no sign and no leading zero, is the number's digits
pub parsed_some : {E : Type 0} (text read : List ℕ) (r : Result ℕ E) (n : ℕ) → read ≡ text → ParsesUnsigned 64 10 read r → r ≡ Ok n
    → 0 < length text → (get_or text 0 0 ≡ 43 → ⊥) → (get_or text 0 0 ≡ 48 → length text ≡ 1) → text ≡ decimal n
parsed_some text read r n same parsed is some plus front =
    let h = parse_plain own 64 text r (subst (λ (t : List ℕ). ParsesUnsigned 64 10 t r) same parsed) plus in
    let k = subst (λ (v : Result ℕ _). OkIff v (AllDigits 10 text × (0 < length text) × (digits_value 10 text < 2 ^ 64)) (digits_value 10 text)) is h in
    sym (ap decimal k.1 ∙ decimal-digits_value own text k.0.0 some front k.0.2)

pub parsed_none : {E : Type 0} (text read : List ℕ) (r : Result ℕ E) (e : E) → read ≡ text → ParsesUnsigned 64 10 read r → r ≡ Err e
    → (n : ℕ) → n < 2 ^ 64 → text ≡ decimal n → ⊥
parsed_none text read r e same parsed is n small spelled =
    let d = IsDecimal-of text n small spelled in
    let low = d.low in
    let h = parse_plain own 64 text r (subst (λ (t : List ℕ). ParsesUnsigned 64 10 t r) same parsed) (λ plus. absurd (omega (arith, plus, low))) in
    let k = subst (λ (v : Result ℕ _). OkIff v (AllDigits 10 text × (0 < length text) × (digits_value 10 text < 2 ^ 64)) (digits_value 10 text)) is h in
    k (d.all, d.some, omega (arith, d.value))

-- nothing is spelled by an empty text
pub empty_none : (text : List ℕ) → length text ≡ 0 → (n : ℕ) → n < 2 ^ 64 → text ≡ decimal n → ⊥
empty_none text empty n small is = let d = IsDecimal-of text n small is in let some = d.some in omega arith

pub plus_none : (text : List ℕ) → get_or text 0 0 ≡ 43 → (n : ℕ) → n < 2 ^ 64 → text ≡ decimal n → ⊥
plus_none text plus n small is = let d = IsDecimal-of text n small is in let low = d.low in omega arith

pub zero_none : (text : List ℕ) → get_or text 0 0 ≡ 48 → 1 < length text → (n : ℕ) → n < 2 ^ 64 → text ≡ decimal n → ⊥
zero_none text first long n small is = let d = IsDecimal-of text n small is in let one = d.front first in omega arith

pub no_text_none : (text : List ℕ) → (IsUtf8 text → ⊥) → (n : ℕ) → n < 2 ^ 64 → text ≡ decimal n → ⊥
no_text_none text other n small is = other (IsDecimal-of text n small is).text_is

and-true : (b : Bool) → (b && true) ≡ b
and-true true = refl
and-true false = refl

lt-leb : (m n : ℕ) → n < m → nat_le m n ≡ false
lt-leb m n h = grind (arith, nat_tests)

-- a number in its range, and what is none
pub number_in-decimal : (least most n : ℕ) (text : List ℕ) → n < 2 ^ 64 → text ≡ decimal n
    → number_in least most text ≡ cond (nat_le least n && nat_le n most) (Some n) None
unfolding number_in
number_in-decimal least most n text small is =
    let d = IsDecimal-of text n small is in
    let same : bytes_eq text (decimal n) ≡ true = (bytes_eq-Decides text (decimal n)).1 is in
    rw (d.value, same, and-true (nat_le least n && nat_le n most)) refl

pub number_in-inside : (least most n : ℕ) (text : List ℕ) → n < 2 ^ 64 → text ≡ decimal n → least ≤ n → n ≤ most
    → Some n ≡ number_in least most text
number_in-inside least most n text small is low high =
    sym (number_in-decimal least most n text small is ∙ rw (le-leb least n low, le-leb n most high) refl)

pub number_in-below : (least most n : ℕ) (text : List ℕ) → n < 2 ^ 64 → text ≡ decimal n → n < least → None ≡ number_in least most text
number_in-below least most n text small is low =
    sym (number_in-decimal least most n text small is ∙ rw (lt-leb least n low) refl)

pub number_in-above : (least most n : ℕ) (text : List ℕ) → n < 2 ^ 64 → text ≡ decimal n → least ≤ n → most < n → None ≡ number_in least most text
number_in-above least most n text small is low high =
    sym (number_in-decimal least most n text small is ∙ rw (le-leb least n low, lt-leb n most high) refl)

pub record IsNumberIn (least most n : ℕ) (text : List ℕ) : Type 0 where
  pub low : least ≤ n
  pub high : n ≤ most
  pub spelled : text ≡ decimal n

cond_some : (t : Bool) (m n : ℕ) → cond t (Some m) None ≡ Some n → (t ≡ true) × (m ≡ n)
cond_some true m n h = (refl, cc)
cond_some false m n h = cc

pub number_in-some : (least most n : ℕ) (text : List ℕ) → number_in least most text ≡ Some n → IsNumberIn least most n text
unfolding number_in
number_in-some least most n text h =
    let value = digits_value 10 text in
    let found = cond_some (nat_le least value && nat_le value most && bytes_eq text (decimal value)) value n h in
    let p = and_parts _ _ found.0 in
    let q = and_parts _ _ p.0 in
    record {
      low = subst (λ (m : ℕ). least ≤ m) found.1 (leb-true least value q.0);
      high = subst (λ (m : ℕ). m ≤ most) found.1 (leb-true value most q.1);
      spelled = (bytes_eq-Decides text (decimal value)).0 p.1 ∙ ap decimal found.1;
    }

-- a text that spells no number below 2^64 has none of a range there
pub number_in-none : (least most : ℕ) (text : List ℕ) → most < 2 ^ 64 → ((n : ℕ) → n < 2 ^ 64 → text ≡ decimal n → ⊥)
    → None ≡ number_in least most text
number_in-none least most text small none =
    none_of (number_in least most text) (λ n h.
    let found = number_in-some least most n text h in
    let high = found.high in
    none n (omega arith) found.spelled)
  where
    none_of : (o : Option ℕ) → ((n : ℕ) → o ≡ Some n → ⊥) → None ≡ o
    none_of None h = refl
    none_of (Some n) h = absurd (h n refl)
