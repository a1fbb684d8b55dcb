-- Which requests and replies are written so that they are read back (this project's own).
use Rattle.std.specs.Prelude.{◌≡◌, ℕ, ◌+◌, ◌^◌, ◌==◌, ◌<◌, ◌≤◌, ◌&&◌, Bool, true, false, Ok, List, [], ◌∷◌, length, ◌⊎◌}
use Rattle.file_messages.specs.declared.layout.TheConstants.{GROUP_SIZE}
use Rattle.buffer_descriptor.specs.declared.descriptor.Descriptor.{Descriptor}
use Rattle.file_messages.specs.declared.message.Request.{Request}
use Rattle.file_messages.specs.declared.message.Reply.{Reply}
use Rattle.file_messages.specs.declared.message.Asked.{Asked}
use Rattle.file_messages.specs.Messages.{WRITE, READ, are_sound, sum_of_lengths, overlap, request_of, request_bytes, has_count, reply_of, reply_bytes}
use Rattle.file_messages.specs.declared.kind.Channel.{Channel}
use Rattle.file_messages.specs.Runs.{inline_write, end_request, put_requests, get_requests}

-- id and offset fit their fields
pub record HasPlace (id offset : ℕ) : Type 0 where
  pub id_fits : id < 2 ^ 32
  pub offset_fits : offset < 2 ^ 64

-- so many bytes as a request may carry or ask for
pub record IsLength (len : ℕ) : Type 0 where
  pub some : 1 ≤ len
  pub few : len ≤ GROUP_SIZE

abbrev pub TokensFit : List Descriptor → Type 0
TokensFit [] = Unit {0}
TokensFit (d ∷ list) = (d.token < 2 ^ 32) × TokensFit list

-- descriptors that a request may name: from 1 to 16, each sound, without a byte in common, of so many bytes as it may ask for
pub record MayBeNamed (list : List Descriptor) : Type 0 where
  pub some : 1 ≤ length list
  pub few : length list ≤ 16
  pub tokens : TokensFit list
  pub sound : are_sound list ≡ true
  pub apart : overlap list ≡ false
  pub bytes : IsLength (sum_of_lengths list)

-- a WRITE or a READ over registered pages
abbrev pub registered : ℕ → ℕ → ℕ → List Descriptor → Request
registered op id offset list = record {
  op = op;
  channel = 1;
  id = id;
  offset = offset;
  length = sum_of_lengths list;
  descriptors = list;
  inline = [];
}

-- a READ without registered pages
abbrev pub inline_read : ℕ → ℕ → ℕ → Request
inline_read id offset len = record { op = READ; channel = 0; id = id; offset = offset; length = len; descriptors = []; inline = [] }

abbrev pub IsReadBack : Request → Type 0
IsReadBack r = request_of (request_bytes r) ≡ Ok r

abbrev pub InlineWritesAreRead : Type 0
InlineWritesAreRead = (id offset : ℕ) (bytes : List ℕ) → HasPlace id offset → IsLength (length bytes) → IsReadBack (inline_write id offset bytes)

abbrev pub InlineReadsAreRead : Type 0
InlineReadsAreRead = (id offset len : ℕ) → HasPlace id offset → IsLength len → IsReadBack (inline_read id offset len)

abbrev pub RegisteredAreRead : Type 0
RegisteredAreRead = (op id offset : ℕ) (list : List Descriptor) → (op ≡ WRITE) ⊎ (op ≡ READ) → HasPlace id offset → MayBeNamed list
    → IsReadBack (registered op id offset list)

abbrev pub EndsAreRead : Type 0
EndsAreRead = (id offset : ℕ) → HasPlace id offset → IsReadBack (end_request id offset)

-- a reply that answers what was asked: its numbers fit their fields, its count what was asked, and it carries bytes only where
-- it says READ, success and no channel
pub record Replies (asked : Asked) (r : Reply) : Type 0 where
  pub asked_op : asked.op < 32768
  pub op : r.op ≡ asked.op + 32768
  pub status : r.status < 2 ^ 16
  pub id : r.id ≡ asked.id
  pub id_fits : r.id < 2 ^ 32
  pub count_fits : r.count < 2 ^ 32
  pub count : has_count asked r ≡ true
  pub inline : (asked.op == READ && asked.channel == 0 && r.status == 0) ≡ false → r.inline ≡ []

abbrev pub RepliesAreRead : Type 0
RepliesAreRead = (asked : Asked) (r : Reply) → Replies asked r → reply_of asked (reply_bytes r) ≡ Ok r

-- ---- the requests of a copy

abbrev pub AllReadBack : List Request → Type 0
AllReadBack [] = Unit {0}
AllReadBack (r ∷ later) = IsReadBack r × AllReadBack later

-- so few bytes that the ids of their requests and the generations of their pages fit their fields
abbrev pub IsCopyable : List ℕ → Type 0
IsCopyable bytes = length bytes < 2 ^ 39

-- so many pages as a pool may have: a window at least, and no page past the 256th
pub record IsPool (pages : ℕ) : Type 0 where
  pub least : 16 ≤ pages
  pub most : pages ≤ 256

abbrev pub PutsAreRead : Type 0
PutsAreRead = (channel : Channel) (pages : ℕ) (ended : Bool) (bytes : List ℕ) → IsPool pages → IsCopyable bytes → AllReadBack (put_requests channel pages ended bytes)

abbrev pub GetsAreRead : Type 0
GetsAreRead = (channel : Channel) (bytes : List ℕ) → IsCopyable bytes → AllReadBack (get_requests channel bytes)
