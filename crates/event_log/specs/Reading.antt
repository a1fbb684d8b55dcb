-- What bytes say as a line of a log, or the first thing that is wrong (this project's own).
use Rattle.std.specs.Prelude.{◌≡◌, ℕ, ◌-◌, ◌/◌, ◌%◌, ◌^◌, ◌==◌, nat_le, nat_lt, Bool, ◌&&◌, ◌||◌, List, [], ◌∷◌, length, codes, decimal, bytes_eq, Option, Some, None, option_and_then, Result, Ok, Err, if◌then◌else◌}
use Rattle.std.specs.List.{slice_split, list_all}
use Rattle.std.specs.Str.Parse.{digits_value}
use denote.Ref.{Bor}
use Rattle.hex.specs.Hex.{decode_of}
use Rattle.hex.specs.declared.error.FromHexError.{FromHexError}
use Rattle.smbd_base.specs.declared.limits.TheConstants.{MOST_CREDITS, MOST_FRAME_SIZE}
use Rattle.smbd_base.specs.declared.token.TheConstants.{PAGE_SIZE}
use Rattle.smbd_base.specs.Tokens.{PageToken}
use Rattle.smbd_base.specs.declared.right.Right.{Right}
use Rattle.smbd_base.specs.declared.right.Right.TheVariants as rights
use Rattle.event_log.specs.declared.side.Side.{Side}
use Rattle.event_log.specs.declared.side.Side.TheVariants.{C, S, Cw, Sw}
use Rattle.event_log.specs.declared.log_line.LogLine.{LogLine}
use Rattle.event_log.specs.declared.log_line.LogLine.TheVariants.{Post, Submit, Emit, Take, Cut, Load, Fetch, Place, Unload}
use Rattle.event_log.specs.declared.word.Word.{Word}
use Rattle.event_log.specs.declared.word.Word.TheVariants as words
use Rattle.event_log.specs.declared.fault.LineFault.{LineFault}
use Rattle.event_log.specs.declared.fault.LineFault.TheVariants as faults

-- the parts of bytes: what stands before, between and after their spaces
abbrev pub parts_of : List ℕ → List (List ℕ)
parts_of bytes = slice_split (λ (b : ℕ). b == 32) bytes

-- the second step, where the first gave a value
infixl 10 ◌>>=◌
abbrev pub ◌>>=◌ : {A B : Type 0} → Option A → (A → Option B) → Option B
found >>= step = option_and_then step found

-- the end of this letter, and its worker of this number
abbrev pub end_named : ℕ → Option Side
end_named letter = if letter == 67 then Some C else if letter == 83 then Some S else None

abbrev pub worker_named : ℕ → ℕ → Option Side
worker_named letter worker = if letter == 67 then Some (Cw worker) else if letter == 83 then Some (Sw worker) else None

-- the side of this name: `C` or `S`, or one of them and a digit from 1 to 8
unfoldable pub side_named : List ℕ → Option Side
side_named (letter ∷ []) = end_named letter
side_named (letter ∷ digit ∷ []) =
    if nat_le 49 digit && nat_le digit 56 then worker_named letter (digit - 48) else None
side_named name = None

-- the word of this name that a line of an end can have, and one of a worker
unfoldable pub end_word : List ℕ → Option Word
end_word name =
    if bytes_eq name (codes "post") then Some words.Post
    else if bytes_eq name (codes "submit") then Some words.Submit
    else if bytes_eq name (codes "emit") then Some words.Emit
    else if bytes_eq name (codes "take") then Some words.Take
    else if bytes_eq name (codes "cut") then Some words.Cut
    else None

unfoldable pub page_word : List ℕ → Option Word
page_word name =
    if bytes_eq name (codes "load") then Some words.Load
    else if bytes_eq name (codes "fetch") then Some words.Fetch
    else if bytes_eq name (codes "place") then Some words.Place
    else if bytes_eq name (codes "unload") then Some words.Unload
    else None

abbrev pub word_named : Side → List ℕ → Option Word
word_named C name = end_word name
word_named S name = end_word name
word_named (Cw worker) name = page_word name
word_named (Sw worker) name = page_word name

-- The number that a text spells, where it lies in this range. A text spells a number where it is the number's decimal
-- digits, so with no sign and no leading zero.
unfoldable pub number_in : ℕ → ℕ → List ℕ → Option ℕ
number_in least most text =
    if nat_le least (digits_value 10 text) && nat_le (digits_value 10 text) most && bytes_eq text (decimal (digits_value 10 text))
    then Some (digits_value 10 text) else None

-- the right of this name
unfoldable pub right_named : List ℕ → Option Right
right_named name =
    if bytes_eq name (codes "fetch") then Some rights.Fetch
    else if bytes_eq name (codes "place") then Some rights.Place
    else None

-- what the next part says, and the parts after it: a number of this range, or a right
abbrev pub next_number : ℕ → ℕ → List (List ℕ) → Option (ℕ × List (List ℕ))
next_number least most [] = None
next_number least most (part ∷ parts) = number_in least most part >>= (λ n. Some (n, parts))

abbrev pub next_right : List (List ℕ) → Option (Right × List (List ℕ))
next_right [] = None
next_right (part ∷ parts) = right_named part >>= (λ right. Some (right, parts))

-- the token of a number
abbrev pub token_numbered : ℕ → PageToken
token_numbered number = record { page = number % 256; generation = number / 256 }

-- the line, where no part is left
abbrev pub line_at_end : LogLine → List (List ℕ) → Option LogLine
line_at_end line [] = Some line
line_at_end line (part ∷ parts) = None

-- a digit of hex in lower case
abbrev pub is_lower_digit : ℕ → Bool
is_lower_digit b = (nat_le 48 b && nat_le b 57) || (nat_le 97 b && nat_le b 102)

-- the hex of a frame: two digits a byte, and 1 to 8,192 bytes
abbrev pub is_frame_text : List ℕ → Bool
is_frame_text digits =
    nat_le 1 (length digits) && nat_le (length digits) 16384 && (length digits % 2 == 0) && list_all is_lower_digit digits

abbrev pub emit_line : Result (List ℕ) FromHexError → Result LogLine LineFault
emit_line (Ok frame) = Ok (Emit frame)
emit_line (Err fault) = Err faults.Hex

-- the line of a frame, by its hex, and by the parts after the word
abbrev pub frame_line : List ℕ → Result LogLine LineFault
frame_line digits = if is_frame_text digits then emit_line (decode_of digits) else Err faults.Hex

unfoldable pub emit_of : List (List ℕ) → Result LogLine LineFault
emit_of (digits ∷ []) = frame_line digits
emit_of parts = Err faults.Number

-- each other line, by the parts after its word
unfoldable pub post_of : List (List ℕ) → Option LogLine
post_of parts = next_number 1 MOST_CREDITS parts >>= (λ count. line_at_end (Post count.0) count.1)

unfoldable pub submit_of : List (List ℕ) → Option LogLine
submit_of parts = next_number 1 4294967295 parts >>= (λ len. line_at_end (Submit len.0) len.1)

unfoldable pub take_of : List (List ℕ) → Option LogLine
take_of parts =
    next_number 1 (2 ^ 62 - 1) parts >>= (λ number. next_number 1 MOST_FRAME_SIZE number.1
    >>= (λ len. line_at_end (Take number.0 len.0) len.1))

unfoldable pub load_of : List (List ℕ) → Option LogLine
load_of parts =
    next_number 256 4294967295 parts >>= (λ token. next_right token.1 >>= (λ right. next_number 1 PAGE_SIZE right.1
    >>= (λ len. line_at_end (Load (token_numbered token.0) right.0 len.0) len.1)))

unfoldable pub fetch_of : List (List ℕ) → Option LogLine
fetch_of parts =
    next_number 256 4294967295 parts >>= (λ token. next_number 0 (PAGE_SIZE - 1) token.1 >>= (λ at. next_number 1 (PAGE_SIZE - at.0) at.1
    >>= (λ len. line_at_end (Fetch (token_numbered token.0) at.0 len.0) len.1)))

unfoldable pub place_of : List (List ℕ) → Option LogLine
place_of parts =
    next_number 256 4294967295 parts >>= (λ token. next_number 0 65534 token.1 >>= (λ order. next_number 0 (PAGE_SIZE - 1) order.1
    >>= (λ at. next_number 1 (PAGE_SIZE - at.0) at.1
    >>= (λ len. line_at_end (Place (token_numbered token.0) order.0 at.0 len.0) len.1))))

unfoldable pub unload_of : List (List ℕ) → Option LogLine
unload_of parts = next_number 256 4294967295 parts >>= (λ token. line_at_end (Unload (token_numbered token.0)) token.1)

-- a line, or that its parts are not those of one
abbrev pub or_number : Option LogLine → Result LogLine LineFault
or_number (Some line) = Ok line
or_number None = Err faults.Number

abbrev pub line_of_word : Word → List (List ℕ) → Result LogLine LineFault
line_of_word words.Post parts = or_number (post_of parts)
line_of_word words.Submit parts = or_number (submit_of parts)
line_of_word words.Emit parts = emit_of parts
line_of_word words.Take parts = or_number (take_of parts)
line_of_word words.Cut parts = or_number (line_at_end Cut parts)
line_of_word words.Load parts = or_number (load_of parts)
line_of_word words.Fetch parts = or_number (fetch_of parts)
line_of_word words.Place parts = or_number (place_of parts)
line_of_word words.Unload parts = or_number (unload_of parts)

-- a line and its side
abbrev pub with_side : Side → Result LogLine LineFault → Result (Side × LogLine) LineFault
with_side side (Ok line) = Ok (side, line)
with_side side (Err fault) = Err fault

-- the line of a side and a word, by the parts after the word
abbrev pub after_word : Side → Option Word → List (List ℕ) → Result (Side × LogLine) LineFault
after_word side None parts = Err faults.Word
after_word side (Some word) parts = with_side side (line_of_word word parts)

-- the line of a side, by the parts after its name
abbrev pub after_side : Option Side → List (List ℕ) → Result (Side × LogLine) LineFault
after_side None parts = Err faults.Side
after_side (Some side) [] = Err faults.Word
after_side (Some side) (name ∷ parts) = after_word side (word_named side name) parts

-- the line of these parts, of which there is at least one
abbrev pub line_of_parts : List (List ℕ) → Result (Side × LogLine) LineFault
line_of_parts [] = Err faults.Side
line_of_parts (name ∷ parts) = after_side (side_named name) parts

-- what bytes say as a line, or the first fault
unfoldable pub reading_of : List ℕ → Result (Side × LogLine) LineFault
reading_of bytes = if nat_lt 16400 (length bytes) then Err faults.Long else line_of_parts (parts_of bytes)

-- the parts that are left to be read
abbrev pub parts_left : Option (Bor (List ℕ)) → List (List ℕ)
parts_left None = []
parts_left (Some rest) = parts_of rest.now

-- a value that was read, and the parts that are left
abbrev pub value_and_parts : {A : Type 0} → Option (A × Option (Bor (List ℕ))) → Option (A × List (List ℕ))
value_and_parts None = None
value_and_parts (Some read) = Some (read.0, parts_left read.1)

-- Why a fault was answered: the reading has it, and want of memory came only where there was something to keep.
abbrev pub IsCause : {A : Type 0} → Type 0 → LineFault → Result A LineFault → Type 0
IsCause kept faults.NoMemory reading = kept
IsCause kept faults.Long reading = reading ≡ Err faults.Long
IsCause kept faults.Side reading = reading ≡ Err faults.Side
IsCause kept faults.Word reading = reading ≡ Err faults.Word
IsCause kept faults.Number reading = reading ≡ Err faults.Number
IsCause kept faults.Hex reading = reading ≡ Err faults.Hex

-- the line has a frame
abbrev pub IsEmit : Result LogLine LineFault → Type 0
IsEmit reading = (frame : List ℕ) × (reading ≡ Ok (Emit frame))

abbrev pub IsEmitLine : Result (Side × LogLine) LineFault → Type 0
IsEmitLine reading = (side : Side) × (frame : List ℕ) × (reading ≡ Ok (side, Emit frame))

-- The bytes have this fault and none before it. Want of memory is no fault of theirs: they are the line of a frame.
abbrev pub IsLineFault : LineFault → List ℕ → Type 0
IsLineFault fault bytes = IsCause (IsEmitLine (reading_of bytes)) fault (reading_of bytes)
