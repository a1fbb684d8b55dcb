-- The lines of the log of a run, in the order of its events (this project's own). A past is a list of events, the newest
-- one first.
use Rattle.std.specs.Prelude.{ℕ, ◌+◌, ◌==◌, Bool, true, false, Option, Some, None, List, [], ◌∷◌, ◌++◌, length, slice_index}
use Rattle.smbd_base.specs.declared.end_id.EndId.{EndId}
use Rattle.smbd_base.specs.declared.end_id.EndId.TheVariants.{Client, Server}
use Rattle.smbd_base.specs.declared.event.Event.{Event}
use Rattle.smbd_base.specs.declared.event.Event.TheVariants.{Post, Submit, Emit, Take, Cut}
use Rattle.smbd_base.specs.Joint.{taken_frames}
use Rattle.event_log.specs.declared.side.Side.{Side}
use Rattle.event_log.specs.declared.side.Side.TheVariants.{C, S}
use Rattle.event_log.specs.Lines.{logged, line_text, HasLawfulNumbers}
use Rattle.world_core.specs.Run.{State}

-- the name of an end in a log
abbrev pub side_of : EndId → Side
side_of Client = C
side_of Server = S

-- the number of the next frame that is taken, from 1
abbrev pub next_frame_number : List Event → ℕ
next_frame_number past = length (taken_frames past) + 1

-- the line of an event; a frame that is taken has this number
abbrev pub event_line : EndId → ℕ → Event → List ℕ
event_line end number event = line_text (side_of end) (logged number event)

-- the line of the newest event of a past, where there is one
abbrev pub newest_line : EndId → List Event → List (List ℕ)
newest_line end [] = []
newest_line end (event ∷ past) = event_line end (next_frame_number past) event ∷ []

-- the events before the newest one
abbrev pub before_newest : List Event → List Event
before_newest [] = []
before_newest (event ∷ past) = past

-- The lines of two pasts, the oldest one first. The order says whose event each one was, the newest one first.
abbrev pub lines_in_order : List EndId → List Event → List Event → List (List ℕ)
lines_in_order [] client server = []
lines_in_order (Client ∷ order) client server = lines_in_order order (before_newest client) server ++ newest_line Client client
lines_in_order (Server ∷ order) client server = lines_in_order order client (before_newest server) ++ newest_line Server server

-- the lines of a run, each without its line feed
abbrev pub run_lines : State → List (List ℕ)
run_lines state = lines_in_order state.order state.client state.server

-- the line that an event adds, where there is one, after the past of its end
abbrev pub line_added : EndId → List Event → Option Event → List (List ℕ)
line_added end past None = []
line_added end past (Some event) = newest_line end (event ∷ past)

-- ---- the lines of one end

-- the lines of a past, the oldest one first
abbrev pub history_lines : EndId → List Event → List (List ℕ)
history_lines end [] = []
history_lines end (event ∷ past) = history_lines end past ++ newest_line end (event ∷ past)

-- the letter with which the lines of an end begin
abbrev pub letter_of : EndId → ℕ
letter_of Client = 67
letter_of Server = 83

-- it is a line of this end
abbrev pub is_line_of : EndId → List ℕ → Bool
is_line_of end line = slice_index line 0 == letter_of end

-- the event was this end's
abbrev pub is_of : EndId → EndId → Bool
is_of Client Client = true
is_of Client Server = false
is_of Server Client = false
is_of Server Server = true

-- ---- what can be told

-- the line of each event can be written and read
abbrev pub AreTellable : EndId → List Event → Type 0
AreTellable end [] = Unit {0}
AreTellable end (event ∷ past) = HasLawfulNumbers (side_of end) (logged (next_frame_number past) event) × AreTellable end past

-- the number of the next frame that is taken, after one more event
abbrev pub number_after : ℕ → Event → ℕ
number_after number (Post n) = number
number_after number (Submit m) = number
number_after number (Emit f) = number
number_after number (Take f) = number + 1
number_after number Cut = number
