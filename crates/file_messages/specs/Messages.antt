-- File requests and replies, laid out after SMB2 READ and WRITE (this project's own). Numbers are little-endian.
use Rattle.std.specs.Prelude.{◌≡◌, ℕ, zero, suc, ◌+◌, ◌*◌, ◌^◌, ◌==◌, nat_lt, nat_le, not, ◌||◌, ◌&&◌, Bool, true, false, Option, Some, None, Result, Ok, Err, List, [], ◌∷◌, ◌++◌, length, drop, if◌then◌else◌}
use Rattle.std.specs.Int.{w16, w32, w64, to_le_bytes}
use Rattle.std.specs.List.{flat_map}
use Rattle.file_messages.specs.declared.layout.TheConstants.{GROUP_SIZE}
use Rattle.smbd_base.specs.Fields.{u16_at, u32_at}
use Rattle.buffer_descriptor.specs.declared.descriptor.Descriptor.{Descriptor}
use Rattle.buffer_descriptor.specs.Descriptors.{place_after, fields_of, descriptor_bytes}
use Rattle.file_messages.specs.declared.fault.FileFault.{FileFault}
use Rattle.file_messages.specs.declared.fault.FileFault.TheVariants.{Short, Op, Channel, Count, Length, Overlap, Order, NoMemory}
use Rattle.file_messages.specs.declared.message.Request.{Request}
use Rattle.file_messages.specs.declared.message.Reply.{Reply}
use Rattle.file_messages.specs.declared.message.Asked.{Asked}

-- the value, or the fault that was found
abbrev pub value_or_fault : {A E : Type 0} → Option E → A → Result A E
value_or_fault None value = Ok value
value_or_fault (Some fault) value = Err fault

-- the 64-bit number at this place
abbrev pub u64_at : ℕ → List ℕ → ℕ
u64_at place bytes = u32_at place bytes + u32_at (place + 4) bytes * 4294967296

-- ---- descriptors in a request

-- so many descriptors, 16 bytes each
abbrev pub descriptors_in : ℕ → List ℕ → List Descriptor
descriptors_in zero bytes = []
descriptors_in (suc count) bytes = fields_of bytes ∷ descriptors_in count (drop 16 bytes)

-- a descriptor names at least one byte, and its interval ends below 2^64
abbrev pub is_sound : Descriptor → Bool
is_sound d = nat_lt 0 d.length && nat_lt (place_after d) (2 ^ 64)

abbrev pub are_sound : List Descriptor → Bool
are_sound [] = true
are_sound (d ∷ list) = is_sound d && are_sound list

abbrev pub sum_of_lengths : List Descriptor → ℕ
sum_of_lengths [] = 0
sum_of_lengths (d ∷ list) = d.length + sum_of_lengths list

-- two descriptors have a byte in common
abbrev pub share_a_byte : Descriptor → Descriptor → Bool
share_a_byte d e = nat_lt d.offset (place_after e) && nat_lt e.offset (place_after d)

abbrev pub shares_with : Descriptor → List Descriptor → Bool
shares_with d [] = false
shares_with d (e ∷ list) = share_a_byte d e || shares_with d list

-- two of the list have a byte in common
abbrev pub overlap : List Descriptor → Bool
overlap [] = false
overlap (d ∷ list) = shares_with d list || overlap list

-- ---- the request: op, channel, id, offset, length, the number of descriptors and two reserved bytes; then the
-- descriptors, or the bytes of a WRITE without registered pages

abbrev pub WRITE : ℕ
WRITE = 1

abbrev pub READ : ℕ
READ = 2

abbrev pub END : ℕ
END = 3

-- the header names so many descriptors that stand after it
abbrev pub lists_descriptors : List ℕ → Bool
lists_descriptors bytes = u16_at 2 bytes == 1 && not (u16_at 0 bytes == END)

abbrev pub request_fields : List ℕ → Request
request_fields bytes = record {
  op = u16_at 0 bytes;
  channel = u16_at 2 bytes;
  id = u32_at 4 bytes;
  offset = u64_at 8 bytes;
  length = u32_at 16 bytes;
  descriptors = if lists_descriptors bytes then descriptors_in (u16_at 20 bytes) (drop 24 bytes) else [];
  inline = if u16_at 0 bytes == WRITE && u16_at 2 bytes == 0 then drop 24 bytes else [];
}

abbrev pub is_op : ℕ → Bool
is_op op = op == WRITE || op == READ || op == END

abbrev pub is_count : ℕ → Bool
is_count count = nat_le 1 count && nat_le count 16

-- fewer bytes than the header, or than the descriptors that it counts
abbrev pub is_short : List ℕ → Bool
is_short bytes =
    nat_lt (length bytes) 24
    || (u16_at 2 bytes == 1 && (u16_at 0 bytes == WRITE || u16_at 0 bytes == READ) && is_count (u16_at 20 bytes)
    && nat_lt (length bytes) (24 + 16 * u16_at 20 bytes))

-- as many descriptors as the op and the channel ask for: from 1 to 16, or none
abbrev pub counts_well : List ℕ → Bool
counts_well bytes = if lists_descriptors bytes then is_count (u16_at 20 bytes) else u16_at 20 bytes == 0

-- the length is that of what is asked for, from 1 to 65,536 bytes; for END it is 0
abbrev pub has_length : List ℕ → Request → Bool
has_length bytes r =
    if r.op == END then r.length == 0
    else nat_le 1 r.length && nat_le r.length GROUP_SIZE
    && (if lists_descriptors bytes then are_sound r.descriptors && sum_of_lengths r.descriptors == r.length
    else not (r.op == WRITE) || length r.inline == r.length)

-- why bytes are no request, if they are none: the first fault that applies. Bytes after the last descriptor, after the
-- header of an END and after that of a READ without registered pages may hold anything.
unfoldable pub request_fault : List ℕ → Option FileFault
request_fault bytes =
    if is_short bytes then Some Short
    else if not (is_op (u16_at 0 bytes)) then Some Op
    else if nat_lt 1 (u16_at 2 bytes) then Some Channel
    else if not (counts_well bytes) then Some Count
    else if not (has_length bytes (request_fields bytes)) then Some Length
    else if overlap (request_fields bytes).descriptors then Some Overlap
    else None

-- what bytes say as a request, or the first fault that applies
abbrev pub request_of : List ℕ → Result Request FileFault
request_of bytes = value_or_fault (request_fault bytes) (request_fields bytes)

-- a refused request: its first fault, or want of memory where it has none
abbrev pub RefusesRequest : List ℕ → FileFault → Type 0
RefusesRequest bytes NoMemory = request_fault bytes ≡ None
RefusesRequest bytes fault = request_fault bytes ≡ Some fault

-- the one written form: the header, and what it carries_bytes
abbrev pub header_bytes : ℕ → ℕ → ℕ → ℕ → ℕ → ℕ → List ℕ
header_bytes op channel id offset len count =
    to_le_bytes w16 op ++ to_le_bytes w16 channel ++ to_le_bytes w32 id ++ to_le_bytes w64 offset
    ++ to_le_bytes w32 len ++ to_le_bytes w16 count ++ to_le_bytes w16 0

abbrev pub request_bytes : Request → List ℕ
request_bytes r =
    header_bytes r.op r.channel r.id r.offset r.length (length r.descriptors)
    ++ (flat_map descriptor_bytes r.descriptors ++ r.inline)

-- what its reply is to answer
abbrev pub asked_by : Request → Asked
asked_by r = record { op = r.op; channel = r.channel; id = r.id; length = r.length }

-- ---- the reply: op, status, id and count, and the bytes of a READ without registered pages

-- the reply carries_bytes its bytes
abbrev pub carries_bytes : Asked → List ℕ → Bool
carries_bytes asked bytes = asked.op == READ && asked.channel == 0 && u16_at 2 bytes == 0

abbrev pub reply_fields : Asked → List ℕ → Reply
reply_fields asked bytes = record {
  op = u16_at 0 bytes;
  status = u16_at 2 bytes;
  id = u32_at 4 bytes;
  count = u32_at 8 bytes;
  inline = if carries_bytes asked bytes then drop 12 bytes else [];
}

-- the count that fits: of a WRITE its length, of a READ at most its length, of END and of a refusal 0
abbrev pub has_count : Asked → Reply → Bool
has_count asked r =
    if not (r.status == 0) then r.count == 0
    else if asked.op == WRITE then r.count == asked.length
    else if asked.op == READ
    then nat_le r.count asked.length && (not (asked.channel == 0) || length r.inline == r.count)
    else r.count == 0

-- why bytes are no reply to what was asked, if they are none: the first fault that applies
unfoldable pub fault_in_reply : Asked → List ℕ → Option FileFault
fault_in_reply asked bytes =
    if nat_lt (length bytes) 12 then Some Short
    else if not (u16_at 0 bytes == asked.op + 32768) then Some Op
    else if not (has_count asked (reply_fields asked bytes)) then Some Length
    else if not (u32_at 4 bytes == asked.id) then Some Order
    else None

abbrev pub reply_of : Asked → List ℕ → Result Reply FileFault
reply_of asked bytes = value_or_fault (fault_in_reply asked bytes) (reply_fields asked bytes)

-- a refused reply: its first fault, or want of memory where it has none
abbrev pub RefusesReply : Asked → List ℕ → FileFault → Type 0
RefusesReply asked bytes NoMemory = fault_in_reply asked bytes ≡ None
RefusesReply asked bytes fault = fault_in_reply asked bytes ≡ Some fault

-- the one written form: the header, and what it carries_bytes
abbrev pub reply_header : Reply → List ℕ
reply_header r = to_le_bytes w16 r.op ++ to_le_bytes w16 r.status ++ to_le_bytes w32 r.id ++ to_le_bytes w32 r.count

abbrev pub reply_bytes : Reply → List ℕ
reply_bytes r = reply_header r ++ r.inline

-- the reply of success to a request, with this count, and these bytes where it carries_bytes any
abbrev pub success : Request → ℕ → List ℕ → Reply
success r count bytes = record { op = r.op + 32768; status = 0; id = r.id; count = count; inline = bytes }

-- the reply that refuses it with this status
abbrev pub refusal : Request → ℕ → Reply
refusal r status = record { op = r.op + 32768; status = status; id = r.id; count = 0; inline = [] }
