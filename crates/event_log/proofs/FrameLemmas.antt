-- The hex of a frame.
use Rattle.std.proofs.Common.{◌≡◌, ℕ, ◌%◌, ◌≤◌, true, List, [], ◌∷◌, length, refl, arith}
use Rattle.std.specs.List.{list_all}
use Rattle.std.proofs.lemmas.Bool.{and_parts, and_from, eqb-true, leb-true}
use Rattle.std.proofs.lemmas.List.Sums.{AllPass-from_list_all}
use Rattle.hex.specs.Hex.{is_hex_digit}
use Rattle.hex.proofs.HexLemmas.{decode_of-digits}
use Rattle.event_log.specs.Reading.{is_frame_text, is_lower_digit, frame_line, IsEmit}

-- what the test of a frame's hex says
pub record IsFrameText (digits : List ℕ) : Type 0 where
  pub some : 1 ≤ length digits
  pub most : length digits ≤ 16384
  pub even : length digits % 2 ≡ 0
  pub lower : list_all is_lower_digit digits ≡ true

pub IsFrameText-of : (digits : List ℕ) → is_frame_text digits ≡ true → IsFrameText digits
IsFrameText-of digits h =
    let p = and_parts _ _ h in
    let q = and_parts _ _ p.0 in
    let r = and_parts _ _ q.0 in
    record {
      some = leb-true 1 (length digits) r.0;
      most = leb-true (length digits) 16384 r.1;
      even = eqb-true (length digits % 2) 0 q.1;
      lower = p.1;
    }

-- a digit in lower case is a digit
pub is_hex_digit-lower : (b : ℕ) → is_lower_digit b ≡ true → is_hex_digit b ≡ true
is_hex_digit-lower b h = grind arith

pub all_hex : (digits : List ℕ) → list_all is_lower_digit digits ≡ true → list_all is_hex_digit digits ≡ true
all_hex [] h = refl
all_hex (b ∷ digits) h =
    let p = and_parts _ _ h in and_from _ _ (is_hex_digit-lower b p.0) (all_hex digits p.1)

-- a frame's hex has its bytes
pub frame_line-frame : (digits : List ℕ) → is_frame_text digits ≡ true → IsEmit (frame_line digits)
frame_line-frame digits h =
    let f = IsFrameText-of digits h in
    let d = decode_of-digits digits f.even (AllPass-from_list_all is_hex_digit digits (all_hex digits f.lower)) in
    (d.0, rw (h, d.1) refl)
