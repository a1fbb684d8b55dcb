-- The lines of a log (this project's own).
use Rattle.std.specs.Prelude.{ℕ, ◌+◌, ◌-◌, ◌^◌, ◌≤◌, List, [], ◌∷◌, ◌++◌, length, codes, decimal}
use Rattle.std.specs.List.{join_with_byte, flat_map}
use Rattle.hex.specs.Hex.{encode_lower, IsBytes}
use Rattle.smbd_base.specs.declared.limits.TheConstants.{MOST_CREDITS, MOST_FRAME_SIZE}
use Rattle.smbd_base.specs.declared.token.TheConstants.{PAGE_SIZE}
use Rattle.smbd_base.specs.Tokens.{number_of, IsToken}
use Rattle.smbd_base.specs.declared.event.Event.{Event}
use Rattle.smbd_base.specs.declared.event.Event.TheVariants as events
use Rattle.smbd_base.specs.declared.page_event.PageEvent.{PageEvent}
use Rattle.smbd_base.specs.declared.page_event.PageEvent.TheVariants as pages
use Rattle.smbd_base.specs.declared.right.Right.{Right}
use Rattle.smbd_base.specs.declared.right.Right.TheVariants as rights
use Rattle.event_log.specs.declared.side.Side.{Side}
use Rattle.event_log.specs.declared.side.Side.TheVariants.{C, S, Cw, Sw}
use Rattle.event_log.specs.declared.log_line.LogLine.{LogLine}
use Rattle.event_log.specs.declared.log_line.LogLine.TheVariants.{Post, Submit, Emit, Take, Cut, Load, Fetch, Place, Unload}

-- the name of a side: an end's letter, and a worker's number after it
abbrev pub side_text : Side → List ℕ
side_text C = codes "C"
side_text S = codes "S"
side_text (Cw worker) = codes "C" ++ decimal worker
side_text (Sw worker) = codes "S" ++ decimal worker

-- the name of a right
abbrev pub right_text : Right → List ℕ
right_text rights.Fetch = codes "fetch"
right_text rights.Place = codes "place"

-- the parts of a line after its side
abbrev pub words_of : LogLine → List (List ℕ)
words_of (Post count) = codes "post" ∷ decimal count ∷ []
words_of (Submit len) = codes "submit" ∷ decimal len ∷ []
words_of (Emit frame) = codes "emit" ∷ encode_lower frame ∷ []
words_of (Take number len) = codes "take" ∷ decimal number ∷ decimal len ∷ []
words_of Cut = codes "cut" ∷ []
words_of (Load token right len) = codes "load" ∷ decimal (number_of token) ∷ right_text right ∷ decimal len ∷ []
words_of (Fetch token at len) = codes "fetch" ∷ decimal (number_of token) ∷ decimal at ∷ decimal len ∷ []
words_of (Place token order at len) =
    codes "place" ∷ decimal (number_of token) ∷ decimal order ∷ decimal at ∷ decimal len ∷ []
words_of (Unload token) = codes "unload" ∷ decimal (number_of token) ∷ []

-- the one written form of a line, without its line feed: its parts with one space between each two
abbrev pub line_text : Side → LogLine → List ℕ
line_text side line = join_with_byte 32 (side_text side ∷ words_of line)

-- the bytes of lines, each with its line feed
abbrev pub lines_text : List (List ℕ) → List ℕ
lines_text lines = flat_map (λ (line : List ℕ). line ++ codes "\n") lines

-- a number lies in a range
pub record IsBetween (least most n : ℕ) : Type 0 where
  pub low : least ≤ n
  pub high : n ≤ most

-- the side is an end
abbrev pub IsEnd : Side → Type 0
IsEnd C = Unit {0}
IsEnd S = Unit {0}
IsEnd (Cw worker) = ⊥
IsEnd (Sw worker) = ⊥

-- the side is a worker, from 1 to 8
abbrev pub IsWorker : Side → Type 0
IsWorker C = ⊥
IsWorker S = ⊥
IsWorker (Cw worker) = IsBetween 1 8 worker
IsWorker (Sw worker) = IsBetween 1 8 worker

-- bytes of one page: at least one, and none past the page's end
pub record FitsPage (at len : ℕ) : Type 0 where
  pub some : 1 ≤ len
  pub within : at + len ≤ PAGE_SIZE

-- the numbers that a line can have, and the sides under which it can stand: an end's events under the end, and a
-- page's under the worker
abbrev pub HasLawfulNumbers : Side → LogLine → Type 0
HasLawfulNumbers side (Post count) = IsEnd side × IsBetween 1 MOST_CREDITS count
HasLawfulNumbers side (Submit len) = IsEnd side × IsBetween 1 4294967295 len
HasLawfulNumbers side (Emit frame) = IsEnd side × IsBetween 1 MOST_FRAME_SIZE (length frame)
HasLawfulNumbers side (Take number len) = IsEnd side × IsBetween 1 (2 ^ 62 - 1) number × IsBetween 1 MOST_FRAME_SIZE len
HasLawfulNumbers side Cut = IsEnd side
HasLawfulNumbers side (Load token right len) = IsWorker side × IsToken token × IsBetween 1 PAGE_SIZE len
HasLawfulNumbers side (Fetch token at len) = IsWorker side × IsToken token × FitsPage at len
HasLawfulNumbers side (Place token order at len) =
    IsWorker side × IsToken token × IsBetween 0 65534 order × FitsPage at len
HasLawfulNumbers side (Unload token) = IsWorker side × IsToken token

-- the frame of a line, and nothing where it has none
abbrev pub frame_in : LogLine → List ℕ
frame_in (Post count) = []
frame_in (Submit len) = []
frame_in (Emit frame) = frame
frame_in (Take number len) = []
frame_in Cut = []
frame_in (Load token right len) = []
frame_in (Fetch token at len) = []
frame_in (Place token order at len) = []
frame_in (Unload token) = []

-- a line that can be written and read: its numbers lie in their ranges, and its frame is bytes
abbrev pub IsLawfulLine : Side → LogLine → Type 0
IsLawfulLine side line = HasLawfulNumbers side line × IsBytes (frame_in line)

-- The line of an event. A frame that is sent stands in it whole; a frame that is taken goes by its number, from 1, and
-- its length.
abbrev pub logged : ℕ → Event → LogLine
logged number (events.Post count) = Post count
logged number (events.Submit message) = Submit (length message)
logged number (events.Emit frame) = Emit frame
logged number (events.Take frame) = Take number (length frame)
logged number events.Cut = Cut

-- The line of an event of a page. Bytes go by their number.
abbrev pub logged_page : PageEvent → LogLine
logged_page (pages.Load token right bytes) = Load token right (length bytes)
logged_page (pages.Fetch token at bytes) = Fetch token at (length bytes)
logged_page (pages.Place token order at bytes) = Place token order at (length bytes)
logged_page (pages.Unload token bytes) = Unload token

-- what the line tells of the length of the bytes is no more than a page
abbrev pub IsShort : PageEvent → Type 0
IsShort (pages.Load token right bytes) = length bytes ≤ PAGE_SIZE
IsShort (pages.Fetch token at bytes) = length bytes ≤ PAGE_SIZE
IsShort (pages.Place token order at bytes) = length bytes ≤ PAGE_SIZE
IsShort (pages.Unload token bytes) = Unit {0}
