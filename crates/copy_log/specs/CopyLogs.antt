-- The log of a copy as a text (this project's own).
use Rattle.std.specs.Prelude.{◌≡◌, ℕ, zero, suc, ◌==◌, Bool, true, false, Option, Some, None, List, [], ◌∷◌, ◌++◌, codes, map, reverse, slice_get, if◌then◌else◌}
use mathlib.Core.List.{IsPrefix}
use Rattle.smbd_base.specs.declared.end_id.EndId.TheVariants.{Client, Server}
use Rattle.smbd_base.specs.declared.event.Event.{Event}
use Rattle.smbd_base.specs.declared.page_event.PageEvent.{PageEvent}
use Rattle.event_log.specs.declared.side.Side.{Side}
use Rattle.event_log.specs.declared.side.Side.TheVariants.{C, S, Cw, Sw}
use Rattle.event_log.specs.Lines.{line_text, logged_page}
use Rattle.run_log.specs.RunLines.{history_lines}

-- What happened in a copy: the pasts of both ends, and the lists of the page events of the workers of each, the first worker's first.
-- In each the newest event comes first.
pub record Deeds : Type 0 where
  pub client : List Event
  pub server : List Event
  pub clients : List (List PageEvent)
  pub servers : List (List PageEvent)

-- ---- the lines of a side, the oldest first

abbrev pub list_or_none : Option (List PageEvent) → List PageEvent
list_or_none None = []
list_or_none (Some list) = list

-- the events of the worker of this number, from 1
abbrev pub events_of : ℕ → List (List PageEvent) → List PageEvent
events_of zero lists = []
events_of (suc place) lists = list_or_none (slice_get lists place)

-- the lines of a worker's events
abbrev pub page_lines : Side → List PageEvent → List (List ℕ)
page_lines side list = map (λ (e : PageEvent). line_text side (logged_page e)) (reverse list)

abbrev pub side_lines : Deeds → Side → List (List ℕ)
side_lines d C = history_lines Client d.client
side_lines d S = history_lines Server d.server
side_lines d (Cw worker) = page_lines (Cw worker) (events_of worker d.clients)
side_lines d (Sw worker) = page_lines (Sw worker) (events_of worker d.servers)

-- ---- a text of lines

-- a line of a log, without its line feed, and the side whose line it is
pub record LogEntry : Type 0 where
  pub side : Side
  pub line : List ℕ

-- the bytes of a log, a line feed after each line
abbrev pub entries_text : List LogEntry → List ℕ
entries_text [] = []
entries_text (e ∷ entries) = (e.line ++ codes "\n") ++ entries_text entries

abbrev pub is_side : Side → Side → Bool
is_side C C = true
is_side S S = true
is_side (Cw a) (Cw b) = a == b
is_side (Sw a) (Sw b) = a == b
is_side C S = false
is_side C (Cw b) = false
is_side C (Sw b) = false
is_side S C = false
is_side S (Cw b) = false
is_side S (Sw b) = false
is_side (Cw a) C = false
is_side (Cw a) S = false
is_side (Cw a) (Sw b) = false
is_side (Sw a) C = false
is_side (Sw a) S = false
is_side (Sw a) (Cw b) = false

-- the lines of one side, in their order
abbrev pub lines_at : Side → List LogEntry → List (List ℕ)
lines_at side [] = []
lines_at side (e ∷ entries) = if is_side side e.side then e.line ∷ lines_at side entries else lines_at side entries

-- The text is a log of what happened: a list of lines, of which each side's, in order, are the lines of its history or list, and
-- none is another's. The first line is the client's, its opening post, and the second the server's.
pub record IsLog (d : Deeds) (text : List ℕ) : Type 0 where
  pub entries : List LogEntry
  pub all : text ≡ entries_text entries
  pub each : (side : Side) → lines_at side entries ≡ side_lines d side
  pub first : List ℕ
  pub second : List ℕ
  pub later : List LogEntry
  pub opening : entries ≡ (record { side = C; line = first }) ∷ (record { side = S; line = second }) ∷ later

-- the text begins such a log, its last line perhaps cut short
pub record BeginsLog (d : Deeds) (text : List ℕ) : Type 0 where
  pub whole : List ℕ
  pub log : IsLog d whole
  pub begins : IsPrefix text whole
