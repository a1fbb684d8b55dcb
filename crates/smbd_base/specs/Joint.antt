-- When the histories of two ends fit together.
use Rattle.std.specs.Prelude.{◌≡◌, ℕ, ◌+◌, ◌-◌, ◌≤◌, ◌==◌, None, List, [], ◌∷◌, ◌++◌, length, if◌then◌else◌}
use mathlib.Core.List.{IsPrefix}
use Rattle.smbd_base.specs.declared.end_id.EndId.{EndId}
use Rattle.smbd_base.specs.declared.end_id.EndId.TheVariants.{Client, Server}
use Rattle.smbd_base.specs.declared.event.Event.{Event}
use Rattle.smbd_base.specs.declared.event.Event.TheVariants.{Post, Submit, Emit, Take, Cut}
use Rattle.smbd_base.specs.Limits.{Limits}
use Rattle.smbd_base.specs.Counts.{peer_of, receives_posted, frames_sent, frames_taken, credits_granted, credits_earned, credits_held, receives_grantable}
use Rattle.smbd_base.specs.History.{take_fault, IsLegal}

-- the frames that were sent, the oldest one first
abbrev pub emitted_frames : List Event → List (List ℕ)
emitted_frames [] = []
emitted_frames (Post n ∷ past) = emitted_frames past
emitted_frames (Submit m ∷ past) = emitted_frames past
emitted_frames (Emit f ∷ past) = emitted_frames past ++ f ∷ []
emitted_frames (Take f ∷ past) = emitted_frames past
emitted_frames (Cut ∷ past) = emitted_frames past

-- the frames that were taken, the oldest one first
abbrev pub taken_frames : List Event → List (List ℕ)
taken_frames [] = []
taken_frames (Post n ∷ past) = taken_frames past
taken_frames (Submit m ∷ past) = taken_frames past
taken_frames (Emit f ∷ past) = taken_frames past
taken_frames (Take f ∷ past) = taken_frames past ++ f ∷ []
taken_frames (Cut ∷ past) = taken_frames past

-- no frame that was taken was refused
abbrev pub AreAccepted : EndId → Limits → List Event → Type 0
AreAccepted side limits [] = Unit {0}
AreAccepted side limits (Post n ∷ past) = AreAccepted side limits past
AreAccepted side limits (Submit m ∷ past) = AreAccepted side limits past
AreAccepted side limits (Emit f ∷ past) = AreAccepted side limits past
AreAccepted side limits (Take f ∷ past) = (take_fault side limits past f ≡ None) × AreAccepted side limits past
AreAccepted side limits (Cut ∷ past) = AreAccepted side limits past

-- both ends follow their rules, no frame was refused, and each end took what the other sent, in order
pub record AreLinked (client_limits server_limits : Limits) (client server : List Event) : Type 0 where
  pub client_legal : IsLegal Client client_limits client
  pub server_legal : IsLegal Server server_limits server
  pub client_accepted : AreAccepted Client client_limits client
  pub server_accepted : AreAccepted Server server_limits server
  pub to_client : IsPrefix (taken_frames client) (emitted_frames server)
  pub to_server : IsPrefix (taken_frames server) (emitted_frames client)

-- ---- the credits between two ends

-- The unused receives of an end are the credits that its peer holds, the frames in flight to the end, the grants in flight
-- to the peer, and the receives that it may still grant. None of these numbers is below 0, and there are no more receives
-- than the end has credits.
pub record AreAccounted (side : EndId) (limits : Limits) (own peer : List Event) : Type 0 where
  pub flight : frames_taken side own ≤ frames_sent peer
  pub grants : credits_earned (peer_of side) peer ≤ credits_granted side own
  pub granted : credits_granted side own ≤ receives_posted own
  pub sum : credits_held (peer_of side) peer + (frames_sent peer - frames_taken side own)
      + (credits_granted side own - credits_earned (peer_of side) peer) + receives_grantable side own
      ≡ receives_posted own - frames_taken side own
  pub most : receives_posted own - frames_taken side own ≤ limits.credits

-- ---- the order in which frames were sent and taken

-- the frames that were taken before the frame of this number, from 1, was sent
abbrev pub taken_before_sending : ℕ → List Event → ℕ
taken_before_sending number [] = 0
taken_before_sending number (Post n ∷ past) = taken_before_sending number past
taken_before_sending number (Submit m ∷ past) = taken_before_sending number past
taken_before_sending number (Emit f ∷ past) =
    if frames_sent past + 1 == number then length (taken_frames past) else taken_before_sending number past
taken_before_sending number (Take f ∷ past) = taken_before_sending number past
taken_before_sending number (Cut ∷ past) = taken_before_sending number past

-- the frames that were sent before the frame of this number, from 1, was taken
abbrev pub sent_before_taking : ℕ → List Event → ℕ
sent_before_taking number [] = 0
sent_before_taking number (Post n ∷ past) = sent_before_taking number past
sent_before_taking number (Submit m ∷ past) = sent_before_taking number past
sent_before_taking number (Emit f ∷ past) = sent_before_taking number past
sent_before_taking number (Take f ∷ past) =
    if length (taken_frames past) + 1 == number then frames_sent past else sent_before_taking number past
sent_before_taking number (Cut ∷ past) = sent_before_taking number past

-- where an end took a frame, it had sent at least the frames that its peer had taken before it sent that one
pub record IsAfter (own peer : List Event) : Type 0 where
  pub each : (number : ℕ) → 1 ≤ number → number ≤ length (taken_frames own) → taken_before_sending number peer ≤ sent_before_taking number own

-- ---- joint histories

-- The two histories fit together: both ends follow their rules, no frame was refused, and each took what the other sent;
-- the credits of each direction balance; those that are held or granted in flight are never all gone; and the two fit
-- into one order of time, in which no frame is taken before it is sent.
pub record AreJoint (client_limits server_limits : Limits) (client server : List Event) : Type 0 where
  pub linked : AreLinked client_limits server_limits client server
  pub client_credits : AreAccounted Client client_limits client server
  pub server_credits : AreAccounted Server server_limits server client
  pub credits_left : frames_sent client + frames_sent server + 1 ≤ credits_granted Client client + credits_granted Server server
  pub client_after : IsAfter client server
  pub server_after : IsAfter server client
