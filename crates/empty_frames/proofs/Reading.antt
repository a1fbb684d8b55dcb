-- What a data transfer message reads as that an end sends: with the payload of the piece that waits, or without.
use Rattle.std.proofs.Common.{◌≡◌, inl, inr, ℕ, ◌+◌, ◌≤◌, ◌<◌, ◌==◌, nat_lt, nat_le, Bool, true, false, not, ◌&&◌, List, [], ◌∷◌, ◌++◌, length, take, drop, lit<, Ok, refl, arith}
use Rattle.std.specs.List.{flat_map, All}
use Rattle.std.proofs.lemmas.Bool.Decides.{nat_tests}
use Rattle.std.proofs.lemmas.List.{take_all}
use Rattle.std.proofs.lemmas.List.Elements.{All-nil, All-append, All-drop, All-head, All-weaker}
use Rattle.smbd_base.specs.declared.end_id.EndId.{EndId}
use Rattle.smbd_base.specs.declared.event.Event.{Event}
use Rattle.smbd_base.specs.Limits.{Limits, IsLawful}
use Rattle.smbd_base.specs.Counts.{credits_held, receives_grantable, is_silent}
use Rattle.smbd_base.specs.DataFrame.{DataFrame, data_frame_of, data_length, data_offset, frame_bytes, flag_bits, with_payload}
use Rattle.smbd_base.specs.Fields.{u32_at}
use Rattle.smbd_base.specs.Pieces.{Piece, pieces_of}
use Rattle.smbd_base.specs.History.{asks, carries, data_frame_due, frame_due, pieces_waiting, payload_size, messages_submitted, pieces_sent, is_agreed, is_sending, IsLegal}
use Rattle.smbd_base.proofs.BalanceLemmas.{balanced, silent_opening}
use Rattle.smbd_base.proofs.Counting.{is_empty}
use Rattle.smbd_base.proofs.FrameLaws.{u32_at-append, filled_header, header_bytes-filled, data_frame_of-empty}
use Rattle.smbd_base.proofs.Inversion.{Emits, sending_parts}
use Rattle.smbd_laws.proofs.Fitting.{not_zero}
use Rattle.smbd_laws.proofs.Joining.{AreSome, IsPart, pieces_of-parts}
use Rattle.smbd_laws.proofs.Settling.{agreed_lawful}
use Rattle.smbd_laws.proofs.Submitting.{submitted_some}
use Rattle.empty_frames.specs.EmptyFrames.{is_empty_message}

-- ---- a message with payload

-- bytes whose payload stands at 24, and does not pass their end
read_filled : (bytes : List ℕ) (len : ℕ) → 0 < len → data_offset bytes ≡ 24 → data_length bytes ≡ len → 24 + len ≤ length bytes
    → data_frame_of bytes ≡ Ok (with_payload bytes (u32_at 8 bytes) (take len (drop 24 bytes)))
unfolding data_frame_of
read_filled bytes len some offset is_len long =
    let not_short : nat_lt (length bytes) 20 ≡ false = grind (arith, nat_tests) in
    let not_empty : (len == 0) ≡ false = not_zero len some in
    let within : nat_lt (length bytes) (24 + len) ≡ false = grind (arith, nat_tests) in
    rw (is_len, not_empty, offset, not_short, within)

-- a message with this payload
record HasPayload (frame payload : List ℕ) : Type 0 where
  says : DataFrame
  read : data_frame_of frame ≡ Ok says
  same : says.payload ≡ payload

-- a written message has its payload, whatever the other fields hold
has_payload : (requested granted : ℕ) (flag : Bool) (remaining : ℕ) (payload : List ℕ) → 0 < length payload → length payload < 4294967296
    → HasPayload (frame_bytes requested granted flag remaining payload) payload
has_payload requested granted flag remaining payload some fits =
    let bytes : List ℕ = filled_header requested granted (flag_bits flag) remaining (length payload) ++ payload in
    let offset : data_offset bytes ≡ 24 = u32_at-append (take 12 bytes) 24 (drop 16 bytes) 12 refl (lit< tt) in
    let is_len : data_length bytes ≡ length payload = u32_at-append (take 16 bytes) (length payload) (drop 20 bytes) 16 refl fits in
    record {
      says = with_payload bytes (u32_at 8 bytes) (take (length payload) payload);
      read = rw (header_bytes-filled requested granted flag remaining (length payload) some) (read_filled bytes (length payload) some offset is_len (omega arith));
      same = take_all (length payload) payload (omega arith);
    }

-- ---- the message that goes out

-- it is empty where no piece waits, and else carries a payload; one that asks for a response carries one
pub record IsRead (frame : List ℕ) (waiting : List Piece) : Type 0 where
  pub empty : is_empty_message (data_frame_of frame) ≡ is_empty waiting
  pub filled : carries (data_frame_of frame) ≡ not (is_empty waiting)
  pub asking : asks (data_frame_of frame) ≡ true → carries (data_frame_of frame) ≡ true

read_empty : (requested granted : ℕ) → requested < 65536 → granted < 65536 → IsRead (frame_bytes requested granted false 0 []) []
read_empty requested granted requested_fits granted_fits =
    let says = data_frame_of-empty requested granted false 0 requested_fits granted_fits in
    record { empty = rw says refl; filled = rw says refl; asking = rw says (λ asked. absurd cc) }

-- a piece that a frame of an agreed end carries
record IsFilled (p : Piece) : Type 0 where
  some : 0 < length p.payload
  fits : length p.payload < 4294967296

read_piece : (requested granted : ℕ) (flag : Bool) (p : Piece) (later : List Piece) → IsFilled p → IsRead (frame_bytes requested granted flag p.remaining p.payload) (p ∷ later)
read_piece requested granted flag p later filled =
    let h = has_payload requested granted flag p.remaining p.payload filled.some filled.fits in
    let none : (length h.says.payload == 0) ≡ false = rw h.same (not_zero (length p.payload) filled.some) in
    record {
      empty = rw h.read none;
      filled = rw (h.read, none) refl;
      asking = rw (h.read, none) (λ asked. refl);
    }

read_due : (limits : Limits) (held grantable : ℕ) (waiting : List Piece) → IsLawful limits → grantable < 65536 → All IsFilled waiting
    → IsRead (data_frame_due limits held grantable waiting) waiting
read_due limits held grantable [] lawful small filled = read_empty limits.credits grantable (omega (arith, lawful.credits.1)) small
read_due limits held grantable (p ∷ later) lawful small filled =
    read_piece limits.credits grantable (not (length later == 0) && nat_le held 2) p later (All-head IsFilled p later filled)

-- ---- the pieces that wait

filled_each : (size : ℕ) (messages : List (List ℕ)) → 0 < size → size < 4294967296 → AreSome messages → All IsFilled (flat_map (pieces_of size) messages)
filled_each size [] some fits bytes = All-nil IsFilled
filled_each size (m ∷ messages) some fits bytes =
    All-append IsFilled (pieces_of size m) (flat_map (pieces_of size) messages)
    (All-weaker (IsPart size (length m)) IsFilled (λ p part. record { some = part.filled; fits = omega (arith, part.short) }) (pieces_of size m)
    (pieces_of-parts size (length m) m some (omega arith)))
    (filled_each size messages some fits bytes.1)

waiting_filled : (side : EndId) (limits : Limits) (past : List Event) → IsLawful limits → IsLegal side limits past → is_agreed side limits past ≡ true
    → All IsFilled (pieces_waiting side limits past)
waiting_filled side limits past lawful legal agreed =
    let size = (agreed_lawful side limits past lawful agreed).send_size in
    All-drop IsFilled (pieces_sent past) (flat_map (pieces_of (payload_size side limits past)) (messages_submitted past))
    (filled_each (payload_size side limits past) (messages_submitted past) (omega (arith, size.0)) (omega (arith, size.1)) (submitted_some side limits past legal))

-- ---- of an end that follows its rules

-- the frame is a data transfer message that the end sends, and that grants what it can
pub record IsSending (side : EndId) (limits : Limits) (past : List Event) (frame : List ℕ) : Type 0 where
  pub sending : is_sending side limits past ≡ true
  pub is : frame_due side limits past ≡ frame
  pub read : IsRead frame (pieces_waiting side limits past)

sending_read : (side : EndId) (limits : Limits) (past : List Event) (frame : List ℕ) → IsLawful limits → IsLegal side limits past → Emits side limits past frame
    → is_sending side limits past ≡ true → frame_due side limits past ≡ frame → IsSending side limits past frame
sending_read side limits past frame lawful legal e sending is =
    let b = balanced side limits past lawful legal e.going.opened in
    let small : receives_grantable side past < 65536 = omega (arith, b.posted, b.taken, lawful.credits.1) in
    let agreed = (sending_parts side limits past e.going.closed sending).agreed in
    let read : IsRead (frame_due side limits past) (pieces_waiting side limits past) =
    read_due limits (credits_held side past) (receives_grantable side past) (pieces_waiting side limits past) lawful small (waiting_filled side limits past lawful legal agreed) in
    record { sending = sending; is = is; read = rw is at read }

-- each frame but the first is such a message
pub sends_data : (side : EndId) (limits : Limits) (past : List Event) (frame : List ℕ) → IsLawful limits → IsLegal side limits past → Emits side limits past frame
    → is_silent past ≡ false → IsSending side limits past frame
sends_data side limits past frame lawful legal e spoken =
    elim e.chosen.why as (λ _. IsSending side limits past frame) [
      | inl first ↦ (let silent = silent_opening side past first.0 in absurd (let b : ⊥ = cc in b))
      | inr later ↦ sending_read side limits past frame lawful legal e later.1 later.2
    ]
