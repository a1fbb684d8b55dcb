-- What a log gains as more events of one end are told (this project's own).
use Rattle.std.specs.Prelude.{ℕ, ◌+◌, ◌≤◌, List, [], ◌∷◌, length, drop}
use Rattle.smbd_base.specs.declared.end_id.EndId.{EndId}
use Rattle.smbd_base.specs.declared.event.Event.{Event}
use Rattle.event_log.specs.Lines.{lines_text}
use Rattle.run_log.specs.declared.telling.Told.{Told}
use Rattle.run_log.specs.RunLines.{event_line, next_frame_number, number_after}

-- the lines of events in the order of time, the first frame that is taken having this number
abbrev pub lines_from : EndId → ℕ → List Event → List (List ℕ)
lines_from end number [] = []
lines_from end number (event ∷ events) = event_line end number event ∷ lines_from end (number_after number event) events

-- the number of the next frame that is taken after these events
abbrev pub number_after_all : ℕ → List Event → ℕ
number_after_all number [] = number
number_after_all number (event ∷ events) = number_after_all (number_after number event) events

-- no more was told than there is, and the frames can be numbered
pub record CanTell (told : Told) (history : List Event) : Type 0 where
  pub within : told.events ≤ length history
  pub small : told.next ≤ told.events + 1

-- the text of the lines of the events that were not told, which stand in the order of time
abbrev pub new_lines : EndId → Told → List Event → List ℕ
new_lines end told history = lines_text (lines_from end told.next (drop told.events history))

-- what is told with them
abbrev pub told_after : Told → List Event → Told
told_after told history = record { events = length history; next = number_after_all told.next (drop told.events history) }

-- what is told of a past, the newest event first, where all of it is told
abbrev pub told_of : List Event → Told
told_of past = record { events = length past; next = next_frame_number past }
