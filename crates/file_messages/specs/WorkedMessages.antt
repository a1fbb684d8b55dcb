-- Worked messages: what the definitions say of small copies, found by computation.
use Rattle.std.specs.Prelude.{◌≡◌, ℕ, ◌+◌, ◌*◌, true, false, Some, None, Ok, List, [], ◌∷◌, ◌++◌, replicate, take, drop, map}
use Rattle.std.specs.Int.{w16, w32, to_le_bytes}
use Rattle.buffer_descriptor.specs.declared.descriptor.Descriptor.{Descriptor}
use Rattle.file_messages.specs.declared.fault.FileFault.TheVariants.{Short, Op, Channel, Count, Length, Overlap, Order}
use Rattle.file_messages.specs.declared.kind.Channel.TheVariants as channels
use Rattle.file_messages.specs.declared.message.Request.{Request}
use Rattle.file_messages.specs.declared.message.Asked.{Asked}
use Rattle.file_messages.specs.Messages.{request_of, request_bytes, request_fault, fault_in_reply, reply_of, reply_bytes, asked_by, success, refusal}
use Rattle.file_messages.specs.Runs.{put_requests, get_requests, replies_to, registered_write, inline_write, end_request, read_of, descriptor_of_load}

abbrev pub abc : List ℕ
abc = 97 ∷ 98 ∷ 99 ∷ []

-- the WRITE of `abc` without registered pages
abbrev pub inline_abc : List ℕ
inline_abc =
    1 ∷ 0 ∷ 0 ∷ 0 ∷ 1 ∷ 0 ∷ 0 ∷ 0 ∷ 0 ∷ 0 ∷ 0 ∷ 0 ∷ 0 ∷ 0 ∷ 0 ∷ 0 ∷ 3 ∷ 0 ∷ 0 ∷ 0 ∷ 0 ∷ 0 ∷ 0 ∷ 0 ∷ abc

-- and over page 0, which is loaded under token 256
abbrev pub registered_abc : List ℕ
registered_abc =
    1 ∷ 0 ∷ 1 ∷ 0 ∷ 1 ∷ 0 ∷ 0 ∷ 0 ∷ 0 ∷ 0 ∷ 0 ∷ 0 ∷ 0 ∷ 0 ∷ 0 ∷ 0 ∷ 3 ∷ 0 ∷ 0 ∷ 0 ∷ 1 ∷ 0 ∷ 0 ∷ 0
    ∷ 0 ∷ 0 ∷ 0 ∷ 0 ∷ 0 ∷ 0 ∷ 0 ∷ 0 ∷ 0 ∷ 1 ∷ 0 ∷ 0 ∷ 3 ∷ 0 ∷ 0 ∷ 0 ∷ []

-- END after it, and END of a copy of nothing
abbrev pub end_abc : List ℕ
end_abc = 3 ∷ 0 ∷ 0 ∷ 0 ∷ 2 ∷ 0 ∷ 0 ∷ 0 ∷ 3 ∷ 0 ∷ 0 ∷ 0 ∷ 0 ∷ 0 ∷ 0 ∷ 0 ∷ replicate 8 0

abbrev pub end_nothing : List ℕ
end_nothing = 3 ∷ 0 ∷ 0 ∷ 0 ∷ 1 ∷ 0 ∷ 0 ∷ 0 ∷ replicate 16 0

abbrev pub write_reply_abc : List ℕ
write_reply_abc = 1 ∷ 128 ∷ 0 ∷ 0 ∷ 1 ∷ 0 ∷ 0 ∷ 0 ∷ 3 ∷ 0 ∷ 0 ∷ 0 ∷ []

abbrev pub end_reply_abc : List ℕ
end_reply_abc = 3 ∷ 128 ∷ 0 ∷ 0 ∷ 2 ∷ 0 ∷ 0 ∷ 0 ∷ 0 ∷ 0 ∷ 0 ∷ 0 ∷ []

abbrev pub replies_abc : List (List ℕ)
replies_abc = write_reply_abc ∷ end_reply_abc ∷ []

-- the reply to the READ of a get of `abc`
abbrev pub read_reply_abc : List ℕ
read_reply_abc = 2 ∷ 128 ∷ 0 ∷ 0 ∷ 1 ∷ 0 ∷ 0 ∷ 0 ∷ 3 ∷ 0 ∷ 0 ∷ 0 ∷ abc

-- bytes with this number in the place of their own
abbrev pub with_u16 : ℕ → ℕ → List ℕ → List ℕ
with_u16 place n bytes = take place bytes ++ to_le_bytes w16 n ++ drop (place + 2) bytes

abbrev pub with_u32 : ℕ → ℕ → List ℕ → List ℕ
with_u32 place n bytes = take place bytes ++ to_le_bytes w32 n ++ drop (place + 4) bytes

-- a WRITE of six bytes that names the three of page 0 twice
abbrev pub twice_abc : Request
twice_abc = registered_write 1 0 (abc ++ abc) (descriptor_of_load 0 0 3 ∷ descriptor_of_load 0 0 3 ∷ [])

-- a WRITE that names pages 0 to count - 1, three bytes of each
abbrev pub of_pages : ℕ → List Descriptor → Request
of_pages count list = registered_write 1 0 (replicate (3 * count) 0) list

abbrev pub threes : List ℕ → List Descriptor
threes pages = map (λ (page : ℕ). descriptor_of_load page 0 3) pages

abbrev pub sixteen : List ℕ
sixteen = 0 ∷ 1 ∷ 2 ∷ 3 ∷ 4 ∷ 5 ∷ 6 ∷ 7 ∷ 8 ∷ 9 ∷ 10 ∷ 11 ∷ 12 ∷ 13 ∷ 14 ∷ 15 ∷ []

abbrev pub at_offset : ℕ → Descriptor → Descriptor
at_offset offset d = record d { offset = offset }

pub record WritesSo : Type 0 where
  pub inline : map request_bytes (put_requests channels.None 64 true abc) ≡ inline_abc ∷ end_abc ∷ []
  pub registered : map request_bytes (put_requests channels.V1 64 true abc) ≡ registered_abc ∷ end_abc ∷ []
  pub not_ended : map request_bytes (put_requests channels.V1 64 false abc) ≡ registered_abc ∷ []
  pub nothing : map request_bytes (put_requests channels.None 64 true []) ≡ end_nothing ∷ []
  pub nothing_registered : map request_bytes (put_requests channels.V1 64 true []) ≡ end_nothing ∷ []
  pub replies : map reply_bytes (replies_to abc (put_requests channels.None 64 true abc)) ≡ replies_abc
  pub registered_replies : map reply_bytes (replies_to abc (put_requests channels.V1 64 true abc)) ≡ replies_abc
  pub get_replies : map reply_bytes (replies_to abc (get_requests channels.None abc)) ≡ read_reply_abc ∷ end_reply_abc ∷ []
  pub inline_read : request_of inline_abc ≡ Ok (inline_write 1 0 abc)
  pub registered_read : request_of registered_abc ≡ Ok (registered_write 1 0 abc (descriptor_of_load 0 0 3 ∷ []))
  pub end_read : request_of end_abc ≡ Ok (end_request 2 3)
  pub get_read : request_of (request_bytes (read_of channels.V1 2)) ≡ Ok (read_of channels.V1 2)

pub record RefusesSo : Type 0 where
  -- a fault that comes earlier hides the later ones
  pub short : request_fault (take 23 inline_abc) ≡ Some Short
  pub short_list : request_fault (take 39 registered_abc) ≡ Some Short
  pub op : request_fault (with_u16 0 4 inline_abc) ≡ Some Op
  pub no_op : request_fault (with_u16 0 0 inline_abc) ≡ Some Op
  pub channel : request_fault (with_u16 2 2 inline_abc) ≡ Some Channel
  pub none_listed : request_fault (with_u16 20 0 registered_abc) ≡ Some Count
  pub many_listed : request_fault (with_u16 20 17 registered_abc) ≡ Some Count
  pub inline_listed : request_fault (with_u16 20 1 inline_abc) ≡ Some Count
  pub end_listed : request_fault (with_u16 20 1 end_abc) ≡ Some Count
  pub longer : request_fault (with_u16 16 4 registered_abc) ≡ Some Length
  pub inline_longer : request_fault (with_u16 16 4 inline_abc) ≡ Some Length
  pub inline_more : request_fault (inline_abc ++ abc) ≡ Some Length
  pub end_long : request_fault (with_u16 16 1 end_abc) ≡ Some Length
  pub no_length : request_fault (with_u16 16 0 (take 24 inline_abc)) ≡ Some Length
  pub empty_descriptor : request_fault (with_u32 36 0 registered_abc) ≡ Some Length
  pub wraps : request_fault (request_bytes (registered_write 1 0 abc (at_offset 18446744073709551613 (descriptor_of_load 0 0 3) ∷ []))) ≡ Some Length
  pub just_within : request_fault (request_bytes (registered_write 1 0 abc (at_offset 18446744073709551612 (descriptor_of_load 0 0 3) ∷ []))) ≡ None
  pub overlap : request_fault (request_bytes twice_abc) ≡ Some Overlap
  pub by_one : request_fault (request_bytes (of_pages 2 (descriptor_of_load 0 0 3 ∷ at_offset 2 (descriptor_of_load 1 0 3) ∷ []))) ≡ Some Overlap
  pub side_by_side : request_fault (request_bytes (of_pages 2 (descriptor_of_load 0 0 3 ∷ at_offset 3 (descriptor_of_load 1 0 3) ∷ []))) ≡ None
  pub as_many_as_may : request_fault (request_bytes (of_pages 16 (threes sixteen))) ≡ None
  pub one_more : request_fault (request_bytes (of_pages 17 (threes (16 ∷ sixteen)))) ≡ Some Count
  -- what is not looked at
  pub later : request_fault (registered_abc ++ abc) ≡ None
  pub after_end : request_fault (end_abc ++ abc) ≡ None
  pub reserved : request_fault (with_u16 22 7 inline_abc) ≡ None

-- a READ of so many bytes
abbrev pub reads : ℕ → ℕ → Asked
reads channel len = record { op = 2; channel = channel; id = 1; length = len }

pub record RepliesSo : Type 0 where
  pub taken : reply_of (asked_by (inline_write 1 0 abc)) write_reply_abc ≡ Ok (success (inline_write 1 0 abc) 3 [])
  pub read : reply_of (reads 0 3) read_reply_abc ≡ Ok (success (read_of channels.None 1) 3 abc)
  pub fewer : fault_in_reply (reads 0 65536) read_reply_abc ≡ None
  pub refused : reply_bytes (refusal twice_abc 2) ≡ 1 ∷ 128 ∷ 2 ∷ 0 ∷ 1 ∷ 0 ∷ 0 ∷ 0 ∷ 0 ∷ 0 ∷ 0 ∷ 0 ∷ []
  pub refused_next : reply_bytes (refusal (inline_write 2 3 abc) 2) ≡ 1 ∷ 128 ∷ 2 ∷ 0 ∷ 2 ∷ 0 ∷ 0 ∷ 0 ∷ 0 ∷ 0 ∷ 0 ∷ 0 ∷ []
  pub refusal_is_read : reply_of (asked_by (inline_write 1 0 abc)) (reply_bytes (refusal twice_abc 2)) ≡ Ok (refusal twice_abc 2)
  pub short : fault_in_reply (reads 0 3) (take 11 read_reply_abc) ≡ Some Short
  pub op : fault_in_reply (reads 0 3) (with_u16 0 2 read_reply_abc) ≡ Some Op
  pub other_op : fault_in_reply (reads 0 3) write_reply_abc ≡ Some Op
  pub more : fault_in_reply (reads 0 2) read_reply_abc ≡ Some Length
  pub more_placed : fault_in_reply (reads 1 2) read_reply_abc ≡ Some Length
  pub missing : fault_in_reply (reads 0 3) (take 14 read_reply_abc) ≡ Some Length
  pub other_count : fault_in_reply (asked_by (inline_write 1 0 abc)) (with_u32 8 2 write_reply_abc) ≡ Some Length
  pub refused_count : fault_in_reply (asked_by (inline_write 1 0 abc)) (with_u16 2 1 write_reply_abc) ≡ Some Length
  pub end_count : fault_in_reply (asked_by (end_request 2 3)) (with_u32 8 1 end_reply_abc) ≡ Some Length
  pub order : fault_in_reply (reads 0 3) (with_u32 4 2 read_reply_abc) ≡ Some Order
  pub length_before_order : fault_in_reply (reads 0 2) (with_u32 4 2 read_reply_abc) ≡ Some Length
  -- what is not looked at
  pub later : fault_in_reply (reads 1 3) read_reply_abc ≡ None
