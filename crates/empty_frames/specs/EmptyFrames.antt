-- Data transfer messages without payload, and the responses that are asked for (MS-SMBD 2.2.3, 3.1.5.1 and 3.1.5.9; when a
-- frame goes out is this project's own). The first frame that an end sends or takes is a negotiation message, each later one a
-- data transfer message. A past is a list of events, the newest one first.
use Rattle.std.specs.Prelude.{ℕ, ◌+◌, ◌-◌, ◌*◌, ◌≤◌, ◌==◌, not, ◌&&◌, Bool, false, Result, Ok, Err, List, [], ◌∷◌, length, if◌then◌else◌}
use Rattle.smbd_base.specs.declared.event.Event.{Event}
use Rattle.smbd_base.specs.declared.event.Event.TheVariants.{Post, Submit, Emit, Take, Cut}
use Rattle.smbd_base.specs.declared.faults.FrameFault.{FrameFault}
use Rattle.smbd_base.specs.Limits.{Limits}
use Rattle.smbd_base.specs.Counts.{is_silent, is_unheard}
use Rattle.smbd_base.specs.DataFrame.{DataFrame, data_frame_of}
use Rattle.smbd_base.specs.History.{asks, is_response_owed, pieces_sent}

-- ---- without payload

-- the message has no payload
abbrev pub is_empty_message : Result DataFrame FrameFault → Bool
is_empty_message (Err fault) = false
is_empty_message (Ok d) = length d.payload == 0

-- after this past the frame goes out as a data transfer message without payload
abbrev pub is_sent_empty : List Event → List ℕ → Bool
is_sent_empty past frame = not (is_silent past) && is_empty_message (data_frame_of frame)

-- the data transfer messages without payload that were sent
abbrev pub empty_frames_sent : List Event → ℕ
empty_frames_sent [] = 0
empty_frames_sent (Post n ∷ past) = empty_frames_sent past
empty_frames_sent (Submit m ∷ past) = empty_frames_sent past
empty_frames_sent (Emit f ∷ past) = if is_sent_empty past f then empty_frames_sent past + 1 else empty_frames_sent past
empty_frames_sent (Take f ∷ past) = empty_frames_sent past
empty_frames_sent (Cut ∷ past) = empty_frames_sent past

-- those that were sent while a response was owed
abbrev pub empty_answers_sent : List Event → ℕ
empty_answers_sent [] = 0
empty_answers_sent (Post n ∷ past) = empty_answers_sent past
empty_answers_sent (Submit m ∷ past) = empty_answers_sent past
empty_answers_sent (Emit f ∷ past) =
    if is_sent_empty past f && is_response_owed past then empty_answers_sent past + 1 else empty_answers_sent past
empty_answers_sent (Take f ∷ past) = empty_answers_sent past
empty_answers_sent (Cut ∷ past) = empty_answers_sent past

-- the others: they went out for the credits that they grant
abbrev pub empty_grants_sent : List Event → ℕ
empty_grants_sent [] = 0
empty_grants_sent (Post n ∷ past) = empty_grants_sent past
empty_grants_sent (Submit m ∷ past) = empty_grants_sent past
empty_grants_sent (Emit f ∷ past) =
    if is_sent_empty past f && not (is_response_owed past) then empty_grants_sent past + 1 else empty_grants_sent past
empty_grants_sent (Take f ∷ past) = empty_grants_sent past
empty_grants_sent (Cut ∷ past) = empty_grants_sent past

-- ---- that ask for a response

-- the data transfer messages that were sent and ask for a response
abbrev pub asking_frames_sent : List Event → ℕ
asking_frames_sent [] = 0
asking_frames_sent (Post n ∷ past) = asking_frames_sent past
asking_frames_sent (Submit m ∷ past) = asking_frames_sent past
asking_frames_sent (Emit f ∷ past) =
    if not (is_silent past) && asks (data_frame_of f) then asking_frames_sent past + 1 else asking_frames_sent past
asking_frames_sent (Take f ∷ past) = asking_frames_sent past
asking_frames_sent (Cut ∷ past) = asking_frames_sent past

-- those that were taken
abbrev pub asking_frames_taken : List Event → ℕ
asking_frames_taken [] = 0
asking_frames_taken (Post n ∷ past) = asking_frames_taken past
asking_frames_taken (Submit m ∷ past) = asking_frames_taken past
asking_frames_taken (Emit f ∷ past) = asking_frames_taken past
asking_frames_taken (Take f ∷ past) =
    if not (is_unheard past) && asks (data_frame_of f) then asking_frames_taken past + 1 else asking_frames_taken past
asking_frames_taken (Cut ∷ past) = asking_frames_taken past

-- ---- of two ends

-- the data transfer messages without payload that either end sent
abbrev pub empty_frames_of_both : List Event → List Event → ℕ
empty_frames_of_both client server = empty_frames_sent client + empty_frames_sent server

-- the data transfer messages with payload that either end sent
abbrev pub filled_frames_of_both : List Event → List Event → ℕ
filled_frames_of_both client server = pieces_sent client + pieces_sent server

-- the two ends flood each other with no messages without payload: beside those with payload there are few
pub record SendFewEmpty (client_limits server_limits : Limits) (client server : List Event) : Type 0 where
  -- where each end has at least `least` credits
  pub any : (least : ℕ) → least ≤ client_limits.credits → least ≤ server_limits.credits
      → (least - 2) * empty_frames_of_both client server ≤ least * filled_frames_of_both client server + 2 * least
  -- with any lawful limits
  pub lawful : empty_frames_of_both client server ≤ 3 * filled_frames_of_both client server + 6
