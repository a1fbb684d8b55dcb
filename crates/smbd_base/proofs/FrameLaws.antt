-- What a written data transfer message reads as, what it grants, and how long it is.
use Rattle.std.proofs.Common.{◌≡◌, ℕ, ◌+◌, ◌/◌, ◌%◌, ◌<◌, ◌≤◌, ◌==◌, Bool, true, false, nat_lt, List, [], ◌∷◌, ◌++◌, length, take, drop, get_or, lit≤, lit<, Ok, refl, ◌∙◌, arith}
use Rattle.std.specs.Int.{w16, w32, to_le_bytes}
use Rattle.std.proofs.lemmas.Nat.{from_le_bytes-to_le_bytes_4}
use Rattle.std.proofs.lemmas.List.{get_or-append-add, length-append, take_all}
use Rattle.std.proofs.lemmas.Bool.Decides.{nat_tests}
use Rattle.smbd_base.specs.declared.end_id.EndId.{EndId}
use Rattle.smbd_base.specs.DataFrame.{data_frame_of, header_bytes, frame_bytes, flag_bits, data_length, data_offset, with_payload}
use Rattle.smbd_base.specs.Fields.{u16_at, u32_at}
use Rattle.smbd_base.specs.Grant.{credits_in}

-- ---- numbers in a list

-- what stands behind a front of this length
behind : (front rest : List ℕ) (place k i : ℕ) → length front ≡ place → i ≡ place + k → get_or (front ++ rest) i 0 ≡ get_or rest k 0
behind front rest place k i at is = rw (is, ← at) (get_or-append-add front rest k 0)

-- a 16-bit number that stands in a list is read at its place
pub u16_at-append : (front : List ℕ) (n : ℕ) (rest : List ℕ) (place : ℕ) → length front ≡ place → n < 65536
    → u16_at place (front ++ (to_le_bytes w16 n ++ rest)) ≡ n
u16_at-append front n rest place at fits =
    let low : get_or (front ++ (to_le_bytes w16 n ++ rest)) place 0 ≡ n % 256 = behind front (to_le_bytes w16 n ++ rest) place 0 place at (omega arith) in
    let high : get_or (front ++ (to_le_bytes w16 n ++ rest)) (place + 1) 0 ≡ n / 256 % 256 = behind front (to_le_bytes w16 n ++ rest) place 1 (place + 1) at refl in
    let long : length (front ++ (to_le_bytes w16 n ++ rest)) ≡ length front + (2 + length rest) = omega (arith, length-append front (to_le_bytes w16 n ++ rest)) in
    let within : nat_lt (length (front ++ (to_le_bytes w16 n ++ rest))) (place + 2) ≡ false = grind (arith, nat_tests) in
    rw (within, low, high) (omega arith)

-- a 32-bit number that stands in a list is read at its place
pub u32_at-append : (front : List ℕ) (n : ℕ) (rest : List ℕ) (place : ℕ) → length front ≡ place → n < 4294967296
    → u32_at place (front ++ (to_le_bytes w32 n ++ rest)) ≡ n
u32_at-append front n rest place at fits =
    let byte_0 : get_or (front ++ (to_le_bytes w32 n ++ rest)) place 0 ≡ n % 256 = behind front (to_le_bytes w32 n ++ rest) place 0 place at (omega arith) in
    let byte_1 : get_or (front ++ (to_le_bytes w32 n ++ rest)) (place + 1) 0 ≡ n / 256 % 256 = behind front (to_le_bytes w32 n ++ rest) place 1 (place + 1) at refl in
    let byte_2 : get_or (front ++ (to_le_bytes w32 n ++ rest)) (place + 2) 0 ≡ n / 65536 % 256 = behind front (to_le_bytes w32 n ++ rest) place 2 (place + 2) at refl in
    let byte_3 : get_or (front ++ (to_le_bytes w32 n ++ rest)) (place + 3) 0 ≡ n / 16777216 % 256 = behind front (to_le_bytes w32 n ++ rest) place 3 (place + 3) at refl in
    let long : length (front ++ (to_le_bytes w32 n ++ rest)) ≡ length front + (4 + length rest) = omega (arith, length-append front (to_le_bytes w32 n ++ rest)) in
    let within : nat_lt (length (front ++ (to_le_bytes w32 n ++ rest))) (place + 4) ≡ false = grind (arith, nat_tests) in
    rw (within, byte_0, byte_1, byte_2, byte_3) (omega (arith, from_le_bytes-to_le_bytes_4 n fits))

-- ---- the written bytes

-- the 24 bytes before a payload
abbrev pub filled_header : ℕ → ℕ → ℕ → ℕ → ℕ → List ℕ
filled_header requested granted flags remaining len =
    to_le_bytes w16 requested ++ to_le_bytes w16 granted ++ to_le_bytes w16 flags ++ 0 ∷ 0 ∷ []
    ++ to_le_bytes w32 remaining ++ to_le_bytes w32 24 ++ to_le_bytes w32 len ++ 0 ∷ 0 ∷ 0 ∷ 0 ∷ []

filled_test : (len : ℕ) → 0 < len → (len == 0) ≡ false
filled_test len some = grind (arith, nat_tests)

pub header_bytes-filled : (requested granted : ℕ) (flag : Bool) (remaining len : ℕ) → 0 < len
    → header_bytes requested granted flag remaining len ≡ filled_header requested granted (flag_bits flag) remaining len
unfolding header_bytes
header_bytes-filled requested granted flag remaining len some = rw (filled_test len some)

-- the 20 bytes of a message without a payload
abbrev pub empty_header : ℕ → ℕ → List ℕ
empty_header requested granted =
    to_le_bytes w16 requested ++ to_le_bytes w16 granted
    ++ 0 ∷ 0 ∷ 0 ∷ 0 ∷ 0 ∷ 0 ∷ 0 ∷ 0 ∷ 0 ∷ 0 ∷ 0 ∷ 0 ∷ 0 ∷ 0 ∷ 0 ∷ 0 ∷ []

pub header_bytes-empty : (requested granted : ℕ) (flag : Bool) (remaining : ℕ)
    → header_bytes requested granted flag remaining 0 ≡ empty_header requested granted
unfolding header_bytes
header_bytes-empty requested granted flag remaining = refl

pub length-header_bytes-filled : (requested granted : ℕ) (flag : Bool) (remaining len : ℕ) → 0 < len
    → length (header_bytes requested granted flag remaining len) ≡ 24
length-header_bytes-filled requested granted flag remaining len some = rw (header_bytes-filled requested granted flag remaining len some)

pub length-frame_bytes-empty : (requested granted : ℕ) (flag : Bool) (remaining : ℕ)
    → length (frame_bytes requested granted flag remaining []) ≡ 20
length-frame_bytes-empty requested granted flag remaining = rw (header_bytes-empty requested granted flag remaining)

pub length-frame_bytes-filled : (requested granted : ℕ) (flag : Bool) (remaining : ℕ) (payload : List ℕ) → 0 < length payload
    → length (frame_bytes requested granted flag remaining payload) ≡ 24 + length payload
length-frame_bytes-filled requested granted flag remaining payload some = rw (header_bytes-filled requested granted flag remaining (length payload) some) (omega arith)

-- ---- reading back

-- bytes that say that there is no payload
read_empty : (bytes : List ℕ) → 20 ≤ length bytes → data_length bytes ≡ 0 → data_frame_of bytes ≡ Ok (with_payload bytes 0 [])
unfolding data_frame_of
read_empty bytes long none =
    let not_short : nat_lt (length bytes) 20 ≡ false = grind (arith, nat_tests) in
    rw (none, not_short)

-- bytes whose payload stands at 24, and does not pass their end
read_filled : (bytes : List ℕ) (len : ℕ) → 0 < len → data_offset bytes ≡ 24 → data_length bytes ≡ len → 24 + len ≤ length bytes
    → data_frame_of bytes ≡ Ok (with_payload bytes (u32_at 8 bytes) (take len (drop 24 bytes)))
unfolding data_frame_of
read_filled bytes len some offset is_len long =
    let not_short : nat_lt (length bytes) 20 ≡ false = grind (arith, nat_tests) in
    let not_empty : (len == 0) ≡ false = filled_test len some in
    let within : nat_lt (length bytes) (24 + len) ≡ false = grind (arith, nat_tests) in
    rw (is_len, not_empty, offset, not_short, within)

-- a written message without a payload reads as its credits alone
pub data_frame_of-empty : (requested granted : ℕ) (flag : Bool) (remaining : ℕ) → requested < 65536 → granted < 65536
    → data_frame_of (frame_bytes requested granted flag remaining [])
    ≡ Ok (record { credits_requested = requested; credits_granted = granted; flags = 0; remaining = 0; payload = [] })
data_frame_of-empty requested granted flag remaining requested_fits granted_fits =
    let bytes : List ℕ = empty_header requested granted in
    let asked : u16_at 0 bytes ≡ requested = u16_at-append [] requested (drop 2 bytes) 0 refl requested_fits in
    let given : u16_at 2 bytes ≡ granted = u16_at-append (take 2 bytes) granted (drop 4 bytes) 2 refl granted_fits in
    rw (header_bytes-empty requested granted flag remaining)
    (read_empty bytes (lit≤ tt) refl ∙ (λ i. Ok (record { credits_requested = asked i; credits_granted = given i; flags = 0; remaining = 0; payload = [] })))

flag_bits-small : (flag : Bool) → flag_bits flag < 65536
flag_bits-small true = lit< tt
flag_bits-small false = lit< tt

-- a written message with a payload reads as all that was written
pub data_frame_of-filled : (requested granted : ℕ) (flag : Bool) (remaining : ℕ) (payload : List ℕ)
    → requested < 65536 → granted < 65536 → remaining < 4294967296 → 0 < length payload → length payload < 4294967296
    → data_frame_of (frame_bytes requested granted flag remaining payload)
    ≡ Ok (record { credits_requested = requested; credits_granted = granted; flags = flag_bits flag; remaining = remaining; payload = payload })
data_frame_of-filled requested granted flag remaining payload requested_fits granted_fits remaining_fits some payload_fits =
    let flags : ℕ = flag_bits flag in
    let bytes : List ℕ = filled_header requested granted flags remaining (length payload) ++ payload in
    let asked : u16_at 0 bytes ≡ requested = u16_at-append [] requested (drop 2 bytes) 0 refl requested_fits in
    let given : u16_at 2 bytes ≡ granted = u16_at-append (take 2 bytes) granted (drop 4 bytes) 2 refl granted_fits in
    let flagged : u16_at 4 bytes ≡ flags = u16_at-append (take 4 bytes) flags (drop 6 bytes) 4 refl (flag_bits-small flag) in
    let left : u32_at 8 bytes ≡ remaining = u32_at-append (take 8 bytes) remaining (drop 12 bytes) 8 refl remaining_fits in
    let offset : data_offset bytes ≡ 24 = u32_at-append (take 12 bytes) 24 (drop 16 bytes) 12 refl (lit< tt) in
    let is_len : data_length bytes ≡ length payload = u32_at-append (take 16 bytes) (length payload) (drop 20 bytes) 16 refl payload_fits in
    let whole : take (length payload) payload ≡ payload = take_all (length payload) payload (omega arith) in
    rw (header_bytes-filled requested granted flag remaining (length payload) some)
    (read_filled bytes (length payload) some offset is_len (omega arith)
    ∙ (λ i. Ok (record { credits_requested = asked i; credits_granted = given i; flags = flagged i; remaining = left i; payload = whole i })))

-- ---- the grant

-- a written message grants what was written
pub credits_in-frame_bytes : (side : EndId) (requested granted : ℕ) (flag : Bool) (remaining : ℕ) (payload : List ℕ) → granted < 65536
    → credits_in side false (frame_bytes requested granted flag remaining payload) ≡ granted
credits_in-frame_bytes side requested granted flag remaining [] fits =
    let bytes : List ℕ = empty_header requested granted in
    rw (header_bytes-empty requested granted flag remaining) (u16_at-append (take 2 bytes) granted (drop 4 bytes) 2 refl fits)
credits_in-frame_bytes side requested granted flag remaining (x ∷ xs) fits =
    let bytes : List ℕ = filled_header requested granted (flag_bits flag) remaining (length (x ∷ xs)) ++ x ∷ xs in
    rw (header_bytes-filled requested granted flag remaining (length (x ∷ xs)) (omega arith))
    (u16_at-append (take 2 bytes) granted (drop 4 bytes) 2 refl fits)
