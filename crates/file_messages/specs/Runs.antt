-- The requests of a put and of a get of some bytes, and the replies to them (this project's own).
use Rattle.std.specs.Prelude.{ℕ, zero, suc, ◌+◌, ◌-◌, ◌*◌, ◌/◌, ◌%◌, ◌==◌, Bool, true, false, List, [], ◌∷◌, ◌++◌, length, take, drop, map, if◌then◌else◌}
use Rattle.smbd_base.specs.declared.token.TheConstants.{PAGE_SIZE}
use Rattle.file_messages.specs.declared.layout.TheConstants.{GROUP_SIZE}
use Rattle.smbd_base.specs.Tokens.{number_of}
use Rattle.buffer_descriptor.specs.declared.descriptor.Descriptor.{Descriptor}
use Rattle.file_messages.specs.declared.kind.Channel.{Channel}
use Rattle.file_messages.specs.declared.kind.Channel.TheVariants as channels
use Rattle.file_messages.specs.declared.message.Request.{Request}
use Rattle.file_messages.specs.declared.message.Reply.{Reply}
use Rattle.file_messages.specs.Messages.{WRITE, READ, END, success}

-- ---- parts of bytes

-- so many parts of this size from the front
abbrev pub parts_from : ℕ → ℕ → List ℕ → List (List ℕ)
parts_from zero size bytes = []
parts_from (suc count) size bytes = take size bytes ∷ parts_from count size (drop size bytes)

-- the parts of the bytes: consecutive, each of this size, the last one shorter or equal
abbrev pub parts_of_size : ℕ → List ℕ → List (List ℕ)
parts_of_size size bytes = parts_from ((length bytes + (size - 1)) / size) size bytes

-- what one request carries, and what one page holds
abbrev pub groups_of : List ℕ → List (List ℕ)
groups_of bytes = parts_of_size GROUP_SIZE bytes

abbrev pub pages_of : List ℕ → List (List ℕ)
pages_of group = parts_of_size PAGE_SIZE group

-- ---- pages. A pool of so many pages has w windows of 16 pages, and the k-th request, from 1, uses one of them.

-- how many groups can be under way with so many pages
abbrev pub windows : ℕ → ℕ
windows pages = pages / 16

-- the page of the i-th part of the k-th group
abbrev pub page_of : ℕ → ℕ → ℕ → ℕ
page_of w k i = (k - 1) % w * 16 + i

-- how many groups before the k-th used its pages
abbrev pub turn_of : ℕ → ℕ → ℕ
turn_of w k = (k - 1) / w

-- the descriptor of a page loaded with so many bytes for the time after so many loads
abbrev pub descriptor_of_load : ℕ → ℕ → ℕ → Descriptor
descriptor_of_load page before len = record {
  offset = page * PAGE_SIZE;
  token = number_of (record { page = page; generation = before + 1 });
  length = len;
}

-- ---- a put

abbrev pub channel_number : Channel → ℕ
channel_number channels.None = 0
channel_number channels.V1 = 1

-- the k-th request: a WRITE of this group, before which so many bytes of the copy stand
abbrev pub inline_write : ℕ → ℕ → List ℕ → Request
inline_write k offset group = record {
  op = WRITE;
  channel = 0;
  id = k;
  offset = offset;
  length = length group;
  descriptors = [];
  inline = group;
}

abbrev pub registered_write : ℕ → ℕ → List ℕ → List Descriptor → Request
registered_write k offset group descriptors = record {
  op = WRITE;
  channel = 1;
  id = k;
  offset = offset;
  length = length group;
  descriptors = descriptors;
  inline = [];
}

-- END, after so many bytes
abbrev pub end_request : ℕ → ℕ → Request
end_request k offset = record { op = END; channel = 0; id = k; offset = offset; length = 0; descriptors = []; inline = [] }

-- the descriptors of the parts of the k-th group, from the i-th part on
abbrev pub descriptors_from : ℕ → ℕ → ℕ → List (List ℕ) → List Descriptor
descriptors_from w k i [] = []
descriptors_from w k i (part ∷ parts) =
    descriptor_of_load (page_of w k i) (turn_of w k) (length part) ∷ descriptors_from w k (i + 1) parts

abbrev pub write_of : Channel → ℕ → ℕ → ℕ → List ℕ → Request
write_of channels.None w k offset group = inline_write k offset group
write_of channels.V1 w k offset group = registered_write k offset group (descriptors_from w k 0 (pages_of group))

-- the WRITEs of these groups, the first with number k and so many bytes before it
abbrev pub writes_from : Channel → ℕ → ℕ → ℕ → List (List ℕ) → List Request
writes_from channel w k offset [] = []
writes_from channel w k offset (group ∷ groups) =
    write_of channel w k offset group ∷ writes_from channel w (k + 1) (offset + length group) groups

abbrev pub end_if : Bool → Request → List Request
end_if true request = request ∷ []
end_if false request = []

-- the requests of a put of these bytes over so many pages: a WRITE for each group, and END where their end was seen
abbrev pub put_requests : Channel → ℕ → Bool → List ℕ → List Request
put_requests channel pages ended bytes =
    writes_from channel (windows pages) 1 0 (groups_of bytes)
    ++ end_if ended (end_request (length (groups_of bytes) + 1) (length bytes))

-- ---- a get: each READ asks for 65,536 bytes, and the last one gets fewer, perhaps none

abbrev pub read_descriptors : ℕ → ℕ → ℕ → List Descriptor
read_descriptors zero i k = []
read_descriptors (suc count) i k = descriptor_of_load i (k - 1) PAGE_SIZE ∷ read_descriptors count (i + 1) k

abbrev pub read_of : Channel → ℕ → Request
read_of channels.None k = record {
  op = READ;
  channel = 0;
  id = k;
  offset = GROUP_SIZE * (k - 1);
  length = GROUP_SIZE;
  descriptors = [];
  inline = [];
}
read_of channels.V1 k = record {
  op = READ;
  channel = 1;
  id = k;
  offset = GROUP_SIZE * (k - 1);
  length = GROUP_SIZE;
  descriptors = read_descriptors 16 0 k;
  inline = [];
}

-- so many READs, the first with number k
abbrev pub reads_from : Channel → ℕ → ℕ → List Request
reads_from channel zero k = []
reads_from channel (suc count) k = read_of channel k ∷ reads_from channel count (k + 1)

abbrev pub reads_count : List ℕ → ℕ
reads_count bytes = length bytes / GROUP_SIZE + 1

abbrev pub get_requests : Channel → List ℕ → List Request
get_requests channel bytes =
    reads_from channel (reads_count bytes) 1 ++ end_request (reads_count bytes + 1) (length bytes) ∷ []

-- ---- replies

-- what a READ from this place on gets
abbrev pub bytes_read : List ℕ → Request → List ℕ
bytes_read bytes r = take r.length (drop r.offset bytes)

abbrev pub reply_to_read : List ℕ → Request → Reply
reply_to_read bytes r = success r (length (bytes_read bytes r)) (if r.channel == 0 then bytes_read bytes r else [])

-- the reply of success to a request of a copy of these bytes
abbrev pub reply_to : List ℕ → Request → Reply
reply_to bytes r =
    if r.op == WRITE then success r r.length []
    else if r.op == READ then reply_to_read bytes r
    else success r 0 []

abbrev pub replies_to : List ℕ → List Request → List Reply
replies_to bytes requests = map (reply_to bytes) requests
