-- The run of one end against a peer that may send any frames (this project's own). A past is a list of events, the newest one first.
use Rattle.std.specs.Prelude.{◌≡◌, ℕ, ◌+◌, ◌-◌, ◌*◌, ◌<◌, ◌≤◌, nat_lt, true, false, is_some, Option, Some, None, MatchOption, List, [], ◌∷◌, ◌++◌, length, take, drop, if◌then◌else◌}
use Rattle.connection_core.specs.Shown.{Shown}
use Rattle.sim_adapter.specs.Raw.{Adapter}
use Rattle.smbd_base.specs.declared.end_id.EndId.{EndId}
use Rattle.smbd_base.specs.declared.event.Event.{Event}
use Rattle.smbd_base.specs.declared.event.Event.TheVariants.{Post, Take}
use Rattle.smbd_base.specs.declared.faults.TakeFault.{TakeFault}
use Rattle.smbd_base.specs.Balance.{receives_due}
use Rattle.smbd_base.specs.Counts.{receives_posted, frames_sent}
use Rattle.smbd_base.specs.Delivery.{messages_delivered}
use Rattle.smbd_base.specs.History.{next_event, due_event, take_fault, is_new, is_ready, messages_submitted, IsLegal}
use Rattle.smbd_base.specs.Joint.{taken_frames}
use Rattle.smbd_base.specs.Limits.{Limits, IsLawful}

-- ---- the run

-- the frames that were taken so far, those that were refused too
abbrev pub frames_met : List Event → ℕ
frames_met past = length (taken_frames past)

-- these events, the newest one first, follow a past, and each of them is what comes next at the end
abbrev pub AreDue : EndId → Limits → List Event → List Event → Type 0
AreDue side limits past [] = Unit {0}
AreDue side limits past (event ∷ before) =
    (due_event (next_event side limits (before ++ past)) ≡ Some event) × AreDue side limits past before

-- the end has done what comes next, until it is idle or only a cut may follow
pub record Settles (side : EndId) (limits : Limits) (past after : List Event) : Type 0 where
  pub added : List Event
  pub due : AreDue side limits past added
  pub all : after ≡ added ++ past
  pub nothing : due_event (next_event side limits after) ≡ None

-- The end takes these frames one by one, and does after each what comes next. The first one that it refuses is the last, and
-- goes by its number among all frames, from 1, and its fault.
abbrev pub Takes : EndId → Limits → List Event → List (List ℕ) → Option (ℕ × TakeFault) → List Event → Type 0
Takes side limits past [] refused after = (refused ≡ None) × (after ≡ past)
Takes side limits past (frame ∷ later) refused after =
    (next : List Event) × (Settles side limits (Take frame ∷ past) next
    × MatchOption (take_fault side limits past frame) (Takes side limits next later refused after)
    (λ (fault : TakeFault). (refused ≡ Some (frames_met past + 1, fault)) × (after ≡ next)))

-- The number of the first frame that finds no receive, where so many frames arrive at once and all before them were taken: each
-- of them uses a receive, and as many were posted.
abbrev pub first_unposted : List Event → ℕ → Option ℕ
first_unposted past arriving =
    if nat_lt (receives_posted past) (frames_met past + arriving) then Some (receives_posted past + 1) else None

-- how a run has ended: with this past, and at a frame that was refused or found no receive, if it was not at the last one
pub record Ended : Type 0 where
  pub past : List Event
  pub refused : Option (ℕ × TakeFault)
  pub unposted : Option ℕ

-- once the frames of a burst were taken, up to one that was refused
abbrev pub IsAfterBurst : (List Event → Type 0) → List (List (List ℕ)) → Ended → Option (ℕ × TakeFault) → List Event → Type 0
IsAfterBurst goes_on later ended None past = goes_on past
IsAfterBurst goes_on later ended (Some refused) past =
    (later ≡ []) × (ended ≡ record { past = past; refused = Some refused; unposted = None })

-- The bursts that come, each of so many of the frames that are left, or of all that are left. All frames of a burst arrive, and
-- then they are taken. A frame that finds no receive, and one that is refused, end the run.
abbrev pub Runs : EndId → Limits → ℕ → List Event → List (List ℕ) → List (List (List ℕ)) → Ended → Type 0
Runs side limits size past frames [] ended = (frames ≡ []) × (ended ≡ record { past = past; refused = None; unposted = None })
Runs side limits size past frames (burst ∷ later) ended =
    (0 < length frames) × (burst ≡ take size frames)
    × MatchOption (first_unposted past (length burst))
    ((refused : Option (ℕ × TakeFault)) × ((after : List Event) × (Takes side limits past burst refused after
    × IsAfterBurst (λ (now : List Event). Runs side limits size now (drop size frames) later ended) later ended refused after)))
    (λ (number : ℕ). (later ≡ []) × (ended ≡ record { past = past; refused = None; unposted = Some number }))

-- so the run goes on from this past with the frames that are left
pub record RunsOn (side : EndId) (limits : Limits) (size : ℕ) (past : List Event) (frames : List (List ℕ)) (ended : Ended) : Type 0 where
  pub bursts : List (List (List ℕ))
  pub runs : Runs side limits size past frames bursts ended

-- what is told of a run
pub record Told : Type 0 where
  pub delivered : List (List ℕ)
  pub emitted : ℕ
  pub refused : Option (ℕ × TakeFault)
  pub unposted : Option ℕ

-- what is told of a run that has ended so: the messages that the end delivered, and how many frames it sent
abbrev pub told_of : EndId → Limits → Ended → Told
told_of side limits ended = record {
  delivered = messages_delivered side limits ended.past;
  emitted = frames_sent ended.past;
  refused = ended.refused;
  unposted = ended.unposted;
}

-- A raw run: the end posts its receives, does what comes next, and then the frames come in bursts of this size.
pub record IsRawRun (side : EndId) (limits : Limits) (size : ℕ) (frames : List (List ℕ)) (told : Told) : Type 0 where
  pub opened : List Event
  pub opens : Settles side limits (Post limits.credits ∷ []) opened
  pub ended : Ended
  pub runs : RunsOn side limits size opened frames ended
  pub tells : told ≡ told_of side limits ended

-- ---- an end that faces such a peer

-- the end, its past, and the frames that wait to be taken
pub record Facing : Type 0 where
  pub side : EndId
  pub limits : Limits
  pub past : List Event
  pub waiting : List (List ℕ)

-- no end that submits nothing sends more than one frame at its opening, or after a frame that it took
pub record SendsFew (side : EndId) (limits : Limits) (past : List Event) : Type 0 where
  pub opened : is_new past ≡ false
  pub most : frames_sent past ≤ frames_met past + 1
  pub due : is_some (due_event (next_event side limits past)) ≡ true → frames_sent past ≤ frames_met past

-- the most events that it may add before it takes a frame
abbrev pub events_left : List Event → ℕ
events_left past = 2 * (frames_met past + 1 - frames_sent past) + receives_due past

-- what it keeps: each receive that was posted is free, has a frame that waits, or was used by one that was taken
pub record IsFacing (end : Shown) (link : Adapter) (delivered : List (List ℕ)) (emitted taken : ℕ) : Type 0 where
  pub lawful : IsLawful end.limits
  pub legal : IsLegal end.side end.limits end.past
  pub room : link.receives ≡ end.limits.credits
  pub placed : link.free + length link.waiting + frames_met end.past ≡ receives_posted end.past
  pub messages : delivered ≡ messages_delivered end.side end.limits end.past
  pub sent : emitted ≡ frames_sent end.past
  pub met : taken ≡ frames_met end.past
  pub quiet : messages_submitted end.past ≡ []
  pub few : SendsFew end.side end.limits end.past

-- it adds the event that comes next, where one does
abbrev pub with_event : Facing → Option Event → Facing
with_event facing None = facing
with_event facing (Some event) = record facing { past = event ∷ facing.past }

-- a frame arrives, where a receive is free for it
abbrev pub with_arrived : Facing → List ℕ → Facing
with_arrived facing frame =
    if nat_lt (frames_met facing.past + length facing.waiting) (receives_posted facing.past)
    then record facing { waiting = facing.waiting ++ frame ∷ [] } else facing

-- the oldest frame that waits was taken
abbrev pub with_taken : Facing → List ℕ → Facing
with_taken facing frame = record facing { past = Take frame ∷ facing.past; waiting = drop 1 facing.waiting }

-- it has taken all frames that waited, and may take more
pub record HasTakenAll (old new : Facing) : Type 0 where
  pub empty : new.waiting ≡ []
  pub met : frames_met new.past ≡ frames_met old.past + length old.waiting
  pub ready : is_ready new.side new.limits new.past ≡ true
