-- The header of a data transfer message (MS-SMBD 2.2.3), by its one written form (`DataFrame` of smbd_base).
use Rattle.std.specs.Prelude.{ℕ, ◌<◌, ◌^◌, ◌==◌, List, [], ◌∷◌, if◌then◌else◌}
use Rattle.smbd_base.specs.DataFrame.{DataFrame, header_bytes, flag_bits}
use Rattle.transfer_msg.specs.declared.header.Header.{Header}

-- each number fits its field
pub record FieldsFit (header : Header) : Type 0 where
  pub credits_requested : header.credits_requested < 2 ^ 16
  pub credits_granted : header.credits_granted < 2 ^ 16
  pub remaining : header.remaining < 2 ^ 32
  pub len : header.length < 2 ^ 32

-- how many bytes it has: without a payload there is no padding
abbrev pub header_length : Header → ℕ
header_length header = if header.length == 0 then 20 else 24

-- the bytes before the payload
abbrev pub header_text : Header → List ℕ
header_text header =
    header_bytes header.credits_requested header.credits_granted header.response_requested header.remaining header.length

-- what a message says that was written with this header and payload: without a payload, only the credits
abbrev pub written_frame : Header → List ℕ → DataFrame
written_frame header [] = record {
  credits_requested = header.credits_requested;
  credits_granted = header.credits_granted;
  flags = 0;
  remaining = 0;
  payload = [];
}
written_frame header (byte ∷ later) = record {
  credits_requested = header.credits_requested;
  credits_granted = header.credits_granted;
  flags = flag_bits header.response_requested;
  remaining = header.remaining;
  payload = byte ∷ later;
}
