-- What the writes of a header leave, one after another, and what is read from them.
use Rattle.std.proofs.Common.{◌≡◌, ℕ, ◌+◌, Bool, true, false, List, [], ◌∷◌, ◌++◌, length, take, drop, replicate, Ok, refl, subst, arith}
use Rattle.std.specs.Int.{w16, w32, to_le_bytes, from_bool}
use Rattle.smbd_base.specs.DataFrame.{data_frame_of, header_bytes, flag_bits}
use Rattle.smbd_base.proofs.FrameLaws.{empty_header, filled_header, data_frame_of-empty, data_frame_of-filled}
use Rattle.transfer_msg.specs.declared.header.Header.{Header}
use Rattle.transfer_msg.specs.Written.{header_text, written_frame, FieldsFit}

-- a number of two bytes over what stands at this place, and one of four
abbrev pub put_16 : ℕ → ℕ → List ℕ → List ℕ
put_16 at number out = take at out ++ (to_le_bytes w16 number ++ drop (at + 2) out)

abbrev pub put_32 : ℕ → ℕ → List ℕ → List ℕ
put_32 at number out = take at out ++ (to_le_bytes w32 number ++ drop (at + 4) out)

-- the two credits over 20 zeros
pub put_empty : (requested granted : ℕ) (rest : List ℕ)
    → put_16 2 granted (put_16 0 requested (replicate 20 0 ++ rest)) ≡ empty_header requested granted ++ rest
put_empty requested granted rest = refl

-- all fields over 24 zeros
pub put_filled : (requested granted flags remaining len : ℕ)
    → put_32 16 len (put_32 12 24 (put_32 8 remaining (put_16 4 flags (put_16 2 granted (put_16 0 requested (replicate 24 0))))))
    ≡ filled_header requested granted flags remaining len
put_filled requested granted flags remaining len = refl

-- a flag as a number
pub flag_number : (flag : Bool) → from_bool flag ≡ flag_bits flag
flag_number true = refl
flag_number false = refl

-- a written header, and a payload of its length after it, read as both
pub read_back : (header : Header) (payload : List ℕ) → FieldsFit header → length payload ≡ header.length
    → data_frame_of (header_text header ++ payload) ≡ Ok (written_frame header payload)
read_back header [] fit long =
    subst (λ (len : ℕ). data_frame_of (header_bytes header.credits_requested header.credits_granted header.response_requested header.remaining len ++ []) ≡ Ok (written_frame header [])) long
    (data_frame_of-empty header.credits_requested header.credits_granted header.response_requested header.remaining fit.credits_requested fit.credits_granted)
read_back header (byte ∷ later) fit long =
    subst (λ (len : ℕ). data_frame_of (header_bytes header.credits_requested header.credits_granted header.response_requested header.remaining len ++ byte ∷ later) ≡ Ok (written_frame header (byte ∷ later))) long
    (data_frame_of-filled header.credits_requested header.credits_granted header.response_requested header.remaining (byte ∷ later)
    fit.credits_requested fit.credits_granted fit.remaining (omega arith) (rw long fit.len))
