-- The data transfer message (MS-SMBD 2.2.3). The layout is MS-SMBD's; which bytes are read leniently, and the one
-- written form, are this project's own.
use Rattle.std.specs.Prelude.{ℕ, ◌+◌, ◌%◌, ◌==◌, nat_lt, not, ◌||◌, Bool, true, false, List, [], ◌∷◌, ◌++◌, length, take, drop, if◌then◌else◌, Result, Ok, Err}
use Rattle.std.specs.Int.{w16, w32, to_le_bytes}
use Rattle.smbd_base.specs.declared.faults.FrameFault.{FrameFault}
use Rattle.smbd_base.specs.declared.faults.FrameFault.TheVariants.{Short, Offset, Length}
use Rattle.smbd_base.specs.Fields.{u16_at, u32_at}

-- what a data transfer message says; where it has no payload, nothing remains
pub record DataFrame : Type 0 where
  pub credits_requested : ℕ
  pub credits_granted : ℕ
  pub flags : ℕ
  pub remaining : ℕ
  pub payload : List ℕ

-- DataOffset: where the payload begins, counted from the start of the message
abbrev pub data_offset : List ℕ → ℕ
data_offset bytes = u32_at 12 bytes

-- DataLength: how many bytes the payload has
abbrev pub data_length : List ℕ → ℕ
data_length bytes = u32_at 16 bytes

-- the fields that stand in these bytes, with this payload and so many bytes of its message after it
abbrev pub with_payload : List ℕ → ℕ → List ℕ → DataFrame
with_payload bytes remaining payload = record {
  credits_requested = u16_at 0 bytes;
  credits_granted = u16_at 2 bytes;
  flags = u16_at 4 bytes;
  remaining = remaining;
  payload = payload;
}

-- What bytes say as a data transfer message, or the first fault that applies. Reserved and padding may hold anything,
-- and so may the bytes after the payload; without a payload the offset and what remains are not looked at.
unfoldable pub data_frame_of : List ℕ → Result DataFrame FrameFault
data_frame_of bytes =
    if nat_lt (length bytes) 20 then Err Short
    else if data_length bytes == 0 then Ok (with_payload bytes 0 [])
    else if nat_lt (data_offset bytes) 24 || not (data_offset bytes % 8 == 0) then Err Offset
    else if nat_lt (length bytes) (data_offset bytes + data_length bytes) then Err Length
    else Ok (with_payload bytes (u32_at 8 bytes) (take (data_length bytes) (drop (data_offset bytes) bytes)))

-- SMB_DIRECT_RESPONSE_REQUESTED, the one flag: it asks for a response
abbrev pub flag_bits : Bool → ℕ
flag_bits true = 1
flag_bits false = 0

-- the written bytes before a payload of this length: 24, or 20 where there is none, and then all fields but the credits are 0
unfoldable pub header_bytes : ℕ → ℕ → Bool → ℕ → ℕ → List ℕ
header_bytes requested granted response_requested remaining len =
    if len == 0 then to_le_bytes w16 requested ++ to_le_bytes w16 granted
    ++ 0 ∷ 0 ∷ 0 ∷ 0 ∷ 0 ∷ 0 ∷ 0 ∷ 0 ∷ 0 ∷ 0 ∷ 0 ∷ 0 ∷ 0 ∷ 0 ∷ 0 ∷ 0 ∷ []
    else to_le_bytes w16 requested ++ to_le_bytes w16 granted ++ to_le_bytes w16 (flag_bits response_requested) ++ 0 ∷ 0 ∷ []
    ++ to_le_bytes w32 remaining ++ to_le_bytes w32 24 ++ to_le_bytes w32 len ++ 0 ∷ 0 ∷ 0 ∷ 0 ∷ []

-- the one written form of a data transfer message
abbrev pub frame_bytes : ℕ → ℕ → Bool → ℕ → List ℕ → List ℕ
frame_bytes requested granted response_requested remaining payload =
    header_bytes requested granted response_requested remaining (length payload) ++ payload
