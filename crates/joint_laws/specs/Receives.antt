-- Which receives stand when a frame is sent. A past is a list of events, the newest one first.
use Rattle.std.specs.Prelude.{◌≡◌, ℕ, ◌+◌, ◌≤◌, ◌==◌, List, [], ◌∷◌, ◌++◌, if◌then◌else◌}
use Rattle.smbd_base.specs.declared.event.Event.{Event}
use Rattle.smbd_base.specs.declared.event.Event.TheVariants.{Post, Submit, Emit, Take, Cut}
use Rattle.smbd_base.specs.Limits.{Limits}
use Rattle.smbd_base.specs.Counts.{receives_posted, frames_sent}
use Rattle.smbd_base.specs.Joint.{taken_before_sending}

-- the receives that were posted before the frame of this number, from 1, was sent
abbrev pub posted_before_sending : ℕ → List Event → ℕ
posted_before_sending number [] = 0
posted_before_sending number (Post n ∷ past) = posted_before_sending number past
posted_before_sending number (Submit m ∷ past) = posted_before_sending number past
posted_before_sending number (Emit f ∷ past) =
    if frames_sent past + 1 == number then receives_posted past else posted_before_sending number past
posted_before_sending number (Take f ∷ past) = posted_before_sending number past
posted_before_sending number (Cut ∷ past) = posted_before_sending number past

-- the first of all events posted the receives of the limits
pub record IsOpened (limits : Limits) (past : List Event) : Type 0 where
  pub later : List Event
  pub events : past ≡ later ++ Post limits.credits ∷ []

-- The frames of `peer` meet receives of `own`. For the first frame those of the opening stand. Each later one was sent after
-- `peer` had taken a frame of `own`, and as that was sent, as many receives were posted as the number of the later one says.
pub record MeetReceives (limits : Limits) (own peer : List Event) : Type 0 where
  pub opened : IsOpened limits own
  pub heard : (number : ℕ) → 2 ≤ number → number ≤ frames_sent peer → 1 ≤ taken_before_sending number peer
  pub posted : (number : ℕ) → 2 ≤ number → number ≤ frames_sent peer → number ≤ posted_before_sending (taken_before_sending number peer) own
