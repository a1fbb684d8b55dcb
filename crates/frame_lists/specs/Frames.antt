-- Lists of frames: which bytes are a line, which frames a text lists, and what each of them says (this project's own).
use Rattle.std.specs.Prelude.{◌≡◌, ◌≢◌, ◌<◌, ℕ, ◌+◌, ◌%◌, ◌==◌, nat_le, Bool, true, false, ◌&&◌, List, [], ◌∷◌, ◌++◌, length, codes, decimal, Option, Some, None, option_map, is_some, Result, Ok, Err, if◌then◌else◌}
use Rattle.std.specs.List.{list_all, filter_map}
use denote.Ref.{Bor}
use Rattle.hex.specs.Hex.{is_hex_digit, decode_of}
use Rattle.hex.specs.declared.error.FromHexError.{FromHexError}
use Rattle.smbd_base.specs.declared.end_id.EndId.{EndId}
use Rattle.smbd_base.specs.declared.end_id.EndId.TheVariants.{Client, Server}
use Rattle.smbd_base.specs.declared.faults.NegotiateFault.{NegotiateFault}
use Rattle.smbd_base.specs.declared.faults.NegotiateFault.TheVariants as negotiation
use Rattle.smbd_base.specs.declared.faults.FrameFault.{FrameFault}
use Rattle.smbd_base.specs.declared.faults.FrameFault.TheVariants as frames
use Rattle.smbd_base.specs.Limits.{usual_limits}
use Rattle.smbd_base.specs.DataFrame.{DataFrame, data_frame_of}
use Rattle.smbd_base.specs.NegotiateMessages.{Request, Response, read_request_of, read_response_of}
use Rattle.event_log.specs.Lines.{lines_text}
use Rattle.event_log.specs.Reading.{parts_of, ◌>>=◌}
use Rattle.sim_script.specs.Scripts.{end_text, next_end, lines_in}
use Rattle.frame_lists.specs.declared.awaited.Awaited.{Awaited}
use Rattle.frame_lists.specs.declared.awaited.Kind.{Kind}
use Rattle.frame_lists.specs.declared.awaited.Kind.TheVariants as kinds
use Rattle.frame_lists.specs.declared.fault.FrameListFault.{FrameListFault}
use Rattle.frame_lists.specs.declared.fault.FrameListFault.TheVariants as faults

-- ---- bytes that are a line

-- the digits of a frame: two a byte, in either case, and 1 to 8,192 bytes
unfoldable pub is_frame_text : List ℕ → Bool
is_frame_text digits =
    nat_le 2 (length digits) && nat_le (length digits) 16384 && (length digits % 2 == 0) && list_all is_hex_digit digits

-- the part that is left, where it is one
abbrev pub last_part : List (List ℕ) → Option (List ℕ)
last_part [] = None
last_part (part ∷ []) = Some part
last_part (part ∷ next ∷ parts) = None

-- the end and the digits, where these are the digits of a frame
abbrev pub with_digits : EndId → List ℕ → Option (EndId × List ℕ)
with_digits end digits = if is_frame_text digits then Some (end, digits) else None

-- the end that sent the frame of a line, and the digits of the frame, if the bytes are a line
unfoldable pub frame_line : List ℕ → Option (EndId × List ℕ)
frame_line bytes = next_end (parts_of bytes) >>= (λ named. last_part named.1 >>= (λ digits. with_digits named.0 digits))

-- ---- the frames of a text

-- the number of the first of these lines that is none, where they are counted from this number on
abbrev pub bad_line_from : ℕ → List (List ℕ) → Option ℕ
bad_line_from number [] = None
bad_line_from number (line ∷ lines) = if is_some (frame_line line) then bad_line_from (number + 1) lines else Some number

-- the number of the first line of a text that is none of a list of frames; the first line has the number 1
abbrev pub first_bad_frame_line : List ℕ → Option ℕ
first_bad_frame_line text = bad_line_from 1 (lines_in text)

-- the bytes of hex
abbrev pub decoded : Result (List ℕ) FromHexError → List ℕ
decoded (Ok bytes) = bytes
decoded (Err fault) = []

abbrev pub bytes_of_digits : List ℕ → List ℕ
bytes_of_digits digits = decoded (decode_of digits)

-- the frame of a line, and the end that sent it
abbrev pub frame_of : EndId × List ℕ → EndId × List ℕ
frame_of line = (line.0, bytes_of_digits line.1)

-- the frames of lines, in order, of those that are lines
abbrev pub frames_in : List (List ℕ) → List (EndId × List ℕ)
frames_in lines = filter_map (λ (line : List ℕ). option_map frame_of (frame_line line)) lines

-- the frames of a text
abbrev pub frames_of : List ℕ → List (EndId × List ℕ)
frames_of text = frames_in (lines_in text)

-- ---- what a frame says

-- a field's name and its number, with a space before each
unfoldable pub field : List ℕ → ℕ → List ℕ
field name number = 32 ∷ name ++ 32 ∷ decimal number

abbrev pub negotiate_fault_name : NegotiateFault → List ℕ
negotiate_fault_name negotiation.Short = codes "Short"
negotiate_fault_name negotiation.Version = codes "Version"
negotiate_fault_name negotiation.Credits = codes "Credits"
negotiate_fault_name negotiation.Granted = codes "Granted"
negotiate_fault_name negotiation.SendSize = codes "SendSize"
negotiate_fault_name negotiation.ReceiveSize = codes "ReceiveSize"
negotiate_fault_name negotiation.FragmentedSize = codes "FragmentedSize"
negotiate_fault_name negotiation.Status = codes "Status"

abbrev pub frame_fault_name : FrameFault → List ℕ
frame_fault_name frames.Short = codes "Short"
frame_fault_name frames.Offset = codes "Offset"
frame_fault_name frames.Length = codes "Length"

-- why a frame is not what it is read as
abbrev pub fault_text : List ℕ → List ℕ
fault_text name = codes "fault " ++ name

-- what a negotiate request says
abbrev pub request_text : Result Request NegotiateFault → List ℕ
request_text (Err fault) = fault_text (negotiate_fault_name fault)
request_text (Ok r) =
    codes "request" ++ field (codes "asked") r.credits_requested ++ field (codes "send") r.preferred_send_size
    ++ field (codes "receive") r.max_receive_size ++ field (codes "fragmented") r.max_fragmented_size

-- what a negotiate response says
abbrev pub response_text : Result Response NegotiateFault → List ℕ
response_text (Err fault) = fault_text (negotiate_fault_name fault)
response_text (Ok r) =
    codes "response" ++ field (codes "asked") r.credits_requested ++ field (codes "granted") r.credits_granted
    ++ field (codes "readwrite") r.max_read_write_size ++ field (codes "send") r.preferred_send_size
    ++ field (codes "receive") r.max_receive_size ++ field (codes "fragmented") r.max_fragmented_size

-- what a data transfer message says
abbrev pub data_text : Result DataFrame FrameFault → List ℕ
data_text (Err fault) = fault_text (frame_fault_name fault)
data_text (Ok d) =
    codes "data" ++ field (codes "asked") d.credits_requested ++ field (codes "granted") d.credits_granted
    ++ field (codes "flags") d.flags ++ field (codes "remaining") d.remaining ++ field (codes "payload") (length d.payload)

-- what a frame says, read as this
abbrev pub message_text : Kind → List ℕ → List ℕ
message_text kinds.Request frame = request_text (read_request_of frame)
message_text kinds.Response frame = response_text (read_response_of usual_limits frame)
message_text kinds.Data frame = data_text (data_frame_of frame)

-- ---- the description of a list

-- what a frame of this end is read as: the negotiation message of its end, while that is still to come
abbrev pub kind_of : Awaited → EndId → Kind
kind_of awaited Client = if awaited.request then kinds.Request else kinds.Data
kind_of awaited Server = if awaited.response then kinds.Response else kinds.Data

-- what is awaited after a frame of this end
abbrev pub awaited_after : Awaited → EndId → Awaited
awaited_after awaited Client = record awaited { request = false }
awaited_after awaited Server = record awaited { response = false }

-- both negotiation messages are still to come
abbrev pub both_awaited : Awaited
both_awaited = record { request = true; response = true }

-- the line of a frame, without its line feed
unfoldable pub described : Kind → EndId × List ℕ → List ℕ
described kind frame = end_text frame.0 ++ 32 ∷ message_text kind frame.1

-- a line for each frame, in order
abbrev pub lines_after : Awaited → List (EndId × List ℕ) → List (List ℕ)
lines_after awaited [] = []
lines_after awaited (frame ∷ frames) =
    described (kind_of awaited frame.0) frame ∷ lines_after (awaited_after awaited frame.0) frames

-- the description of frames
abbrev pub description : Awaited → List (EndId × List ℕ) → List ℕ
description awaited frames = lines_text (lines_after awaited frames)

-- the description of a text: a line for each of its frames
abbrev pub description_of : List ℕ → List ℕ
description_of text = description both_awaited (frames_of text)

-- Why a text was not described: its first bad line. Want of memory is no fault of the text; it comes only past a first line
-- that is good.
abbrev pub IsFrameListFault : FrameListFault → List ℕ → Type 0
IsFrameListFault (faults.Line number) text = first_bad_frame_line text ≡ Some number
IsFrameListFault faults.NoMemory text = (0 < length text) × (first_bad_frame_line text ≢ Some 1)

-- ---- what functions answer

-- the digits that were found
abbrev pub digits_shown : Option (Bor (List ℕ)) → Option (List ℕ)
digits_shown None = None
digits_shown (Some digits) = Some digits.now

-- an end, and the digits that were found
abbrev pub end_and_digits : Option (EndId × Bor (List ℕ)) → Option (EndId × List ℕ)
end_and_digits None = None
end_and_digits (Some read) = Some (read.0, read.1.now)
