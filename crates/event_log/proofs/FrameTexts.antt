-- The hex of a frame, written and read.
use Rattle.std.proofs.Common.{◌≡◌, ℕ, zero, suc, ◌+◌, ◌*◌, ◌/◌, ◌%◌, ◌<◌, ◌==◌, ◌&&◌, ◌||◌, not, Bool, true, false, cond, List, [], ◌∷◌, length, Some, None, Option, Result, Ok, Err, unwrap_or, refl, sym, ap, ◌∙◌, arith, inl, inr}
use Rattle.std.specs.Prelude.{slice_index}
use Rattle.std.specs.List.{list_all}
use Rattle.std.proofs.lemmas.Bool.{and_parts, and_from, eqb-true, eq-eqb, le-leb, cases_lt}
use Rattle.std.proofs.lemmas.List.Elements.{All-get_or}
use Rattle.std.proofs.lemmas.List.Sums.{AllPass-from_list_all}
use Rattle.hex.specs.Hex.{decode_of, decode_pairs, digit_or_error, encode_with, encode_lower, hex_digit_value, lower_digits, pair_value, value_at, IsBytes, ◌>>=◌}
use Rattle.hex.specs.declared.error.FromHexError.{FromHexError}
use Rattle.hex.proofs.HexLemmas.{decode_of-encode_lower, decode_of-even, decode_of-ok, length-encode_with}
use Rattle.smbd_base.specs.declared.limits.TheConstants.{MOST_FRAME_SIZE}
use Rattle.event_log.specs.declared.log_line.LogLine.{LogLine}
use Rattle.event_log.specs.declared.log_line.LogLine.TheVariants.{Emit}
use Rattle.event_log.specs.declared.fault.LineFault.{LineFault}
use Rattle.event_log.specs.declared.fault.LineFault.TheVariants as faults
use Rattle.event_log.specs.Lines.{IsBetween}
use Rattle.event_log.specs.Reading.{is_frame_text, is_lower_digit, emit_line, frame_line}
use Rattle.event_log.proofs.FrameLemmas.{IsFrameText-of}

-- ---- written

lower_at : (k : ℕ) → k < 16 → is_lower_digit (slice_index lower_digits k) ≡ true
lower_at k small =
    All-get_or (λ (b : ℕ). is_lower_digit b ≡ true) lower_digits k 0 small (AllPass-from_list_all is_lower_digit lower_digits refl)

all_lower-encode : (bytes : List ℕ) → IsBytes bytes → list_all is_lower_digit (encode_lower bytes) ≡ true
unfolding encode_with
all_lower-encode [] h = refl
all_lower-encode (b ∷ rest) h =
    let byte : b < 256 = h 0 in
    and_from _ _ (lower_at (b / 16) (omega arith)) (and_from _ _ (lower_at (b % 16) (omega arith)) (all_lower-encode rest (λ i. h (suc i))))

pub frame_line-encode : (frame : List ℕ) → IsBetween 1 MOST_FRAME_SIZE (length frame) → IsBytes frame → frame_line (encode_lower frame) ≡ Ok (Emit frame)
frame_line-encode frame fits bytes =
    let low = fits.low in
    let high = fits.high in
    let long : length (encode_lower frame) ≡ 2 * length frame = length-encode_with lower_digits frame in
    let test : is_frame_text (encode_lower frame) ≡ true =
    and_from _ _ (and_from _ _ (and_from _ _ (le-leb 1 (length (encode_lower frame)) (omega arith)) (le-leb (length (encode_lower frame)) 16384 (omega arith)))
    (eq-eqb (length (encode_lower frame) % 2) 0 (omega arith))) (all_lower-encode frame bytes) in
    rw (test, decode_of-encode_lower frame bytes) refl

-- ---- read

-- the digit in lower case that has a byte's value is the byte
abbrev stays : ℕ → Bool
stays b = not (is_lower_digit b) || (slice_index lower_digits (unwrap_or (hex_digit_value b) 99) == b)

abbrev all_stay : ℕ → Bool
all_stay zero = true
all_stay (suc n) = stays n && all_stay n

all_stay-at : (n b : ℕ) → all_stay n ≡ true → b < n → stays b ≡ true
all_stay-at zero b h lt = absurd (omega arith)
all_stay-at (suc n) b h lt =
    let parts = and_parts (stays n) (all_stay n) h in
    elim (cases_lt b n) [
      | inl below ↦ all_stay-at n b parts.1 below
      | inr top ↦
          let e : b ≡ n = omega arith in
          rw e parts.0
    ]

or_second : (a b : Bool) → (not a || b) ≡ true → a ≡ true → b ≡ true
or_second true b h e = h
or_second false b h e = absurd (let x : ⊥ = cc in x)

lower_small : (b : ℕ) → is_lower_digit b ≡ true → b < 103
lower_small b h = grind arith

value_small : (b v : ℕ) → hex_digit_value b ≡ Some v → v < 16
value_small b v h = grind arith

digit_back : (b v : ℕ) → is_lower_digit b ≡ true → hex_digit_value b ≡ Some v → slice_index lower_digits v ≡ b
digit_back b v lower h =
    let same = eqb-true (slice_index lower_digits (unwrap_or (hex_digit_value b) 99)) b (or_second _ _ (all_stay-at 103 b refl (lower_small b lower)) lower) in
    rw h at same

-- what an `Ok` after a step of the decoder shows
decoded : {A B : Type 0} (r : Result A FromHexError) (f : A → Result B FromHexError) (y : B)
    → (r >>= f) ≡ Ok y → (x : A) × (r ≡ Ok x) × (f x ≡ Ok y)
decoded (Ok x) f y h = (x, refl, h)
decoded (Err e) f y h = cc

digit_read : (c i : ℕ) (o : Option ℕ) (v : ℕ) → digit_or_error c i o ≡ Ok v → o ≡ Some v
digit_read c i (Some w) v h = cc
digit_read c i None v h = cc

same_ok : {A : Type 0} (x y : A) → ◌≡◌ {A = Result A FromHexError} (Ok x) (Ok y) → x ≡ y
same_ok x y h = cc

-- the two halves of a byte
high_half : (h l byte : ℕ) → h < 16 → l < 16 → h * 16 + l ≡ byte → byte / 16 ≡ h
high_half h l byte a b e = omega arith

low_half : (h l byte : ℕ) → h < 16 → l < 16 → h * 16 + l ≡ byte → byte % 16 ≡ l
low_half h l byte a b e = omega arith

decode_pairs-back : (i : ℕ) (digits frame : List ℕ) → list_all is_lower_digit digits ≡ true → decode_pairs i digits ≡ Ok frame
    → digits ≡ encode_lower frame
unfolding decode_pairs encode_with
decode_pairs-back i [] frame lower h = ap encode_lower (same_ok [] frame h)
decode_pairs-back i (a ∷ []) frame lower h = cc
decode_pairs-back i (a ∷ b ∷ rest) frame lower h =
    let la = and_parts _ _ lower in
    let lb = and_parts _ _ la.1 in
    let p0 = decoded (pair_value a b i) _ frame h in
    let p1 = decoded (value_at a i) _ p0.0 p0.1 in
    let p2 = decoded (value_at b (i + 1)) _ p0.0 p1.2 in
    let p3 = decoded (decode_pairs (i + 2) rest) _ frame p0.2 in
    let high = digit_read a i (hex_digit_value a) p1.0 p1.1 in
    let low = digit_read b (i + 1) (hex_digit_value b) p2.0 p2.1 in
    let high_small : p1.0 < 16 = value_small a p1.0 high in
    let low_small : p2.0 < 16 = value_small b p2.0 low in
    let byte : p1.0 * 16 + p2.0 ≡ p0.0 = same_ok _ _ p2.2 in
    let e : p0.0 ∷ p3.0 ≡ frame = same_ok _ _ p3.2 in
    let ih : rest ≡ encode_lower p3.0 = decode_pairs-back (i + 2) rest p3.0 lb.1 p3.1 in
    let first : slice_index lower_digits (p0.0 / 16) ≡ a =
    ap (slice_index lower_digits) (high_half p1.0 p2.0 p0.0 high_small low_small byte) ∙ digit_back a p1.0 la.0 high in
    let second : slice_index lower_digits (p0.0 % 16) ≡ b =
    ap (slice_index lower_digits) (low_half p1.0 p2.0 p0.0 high_small low_small byte) ∙ digit_back b p2.0 lb.0 low in
    ap (λ (x : ℕ). x ∷ b ∷ rest) (sym first) ∙ ap (λ (x : ℕ). slice_index lower_digits (p0.0 / 16) ∷ x ∷ rest) (sym second)
    ∙ ap (λ (xs : List ℕ). slice_index lower_digits (p0.0 / 16) ∷ slice_index lower_digits (p0.0 % 16) ∷ xs) ih
    ∙ ap encode_lower e

-- what the hex of a frame says, and nothing else does
pub record IsFrameOf (digits : List ℕ) (line : LogLine) : Type 0 where
  pub frame : List ℕ
  pub line_is : Emit frame ≡ line
  pub digits_are : digits ≡ encode_lower frame
  pub fits : IsBetween 1 MOST_FRAME_SIZE (length frame)
  pub bytes : IsBytes frame

emit_line-ok : (digits : List ℕ) (r : Result (List ℕ) FromHexError) (line : LogLine) → decode_of digits ≡ r → emit_line r ≡ Ok line
    → (frame : List ℕ) × (decode_of digits ≡ Ok frame) × (Emit frame ≡ line)
emit_line-ok digits (Ok frame) line e h = (frame, e, cc)
emit_line-ok digits (Err fault) line e h = cc

tested : (t : Bool) (r : Result LogLine LineFault) (line : LogLine) → cond t r (Err faults.Hex) ≡ Ok line → (t ≡ true) × (r ≡ Ok line)
tested true r line h = (refl, h)
tested false r line h = cc

pub frame_line-ok : (digits : List ℕ) (line : LogLine) → frame_line digits ≡ Ok line → IsFrameOf digits line
frame_line-ok digits line h =
    let t = tested (is_frame_text digits) (emit_line (decode_of digits)) line h in
    let f = IsFrameText-of digits t.0 in
    let some = f.some in
    let most = f.most in
    let d = emit_line-ok digits (decode_of digits) line refl t.1 in
    let ok = decode_of-ok digits d.0 d.1 in
    let long = ok.2 in
    record {
      frame = d.0;
      line_is = d.2;
      digits_are = decode_pairs-back 0 digits d.0 f.lower (sym (decode_of-even digits f.even) ∙ d.1);
      fits = record { low = omega arith; high = omega arith };
      bytes = ok.3;
    }
