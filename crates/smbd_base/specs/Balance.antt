-- What the counts of a legal history have in common (MS-SMBD 3.1.1). A past is a list of events, the newest one first.
use Rattle.std.specs.Prelude.{◌≡◌, ℕ, ◌+◌, ◌<◌, ◌≤◌, true, false, List, [], ◌∷◌, if◌then◌else◌}
use Rattle.smbd_base.specs.declared.end_id.EndId.{EndId}
use Rattle.smbd_base.specs.declared.event.Event.{Event}
use Rattle.smbd_base.specs.Limits.{Limits}
use Rattle.smbd_base.specs.Counts.{receives_posted, frames_sent, frames_taken, credits_granted, credits_earned, credits_held, is_silent, is_unheard}
use Rattle.smbd_base.specs.History.{is_cut, is_closed, is_post_due}

-- the receives that are still to be posted anew
abbrev pub receives_due : List Event → ℕ
receives_due past = if is_post_due past then 1 else 0

pub record IsBalanced (side : EndId) (limits : Limits) (past : List Event) : Type 0 where
  -- no more was granted than was posted
  pub granted : credits_granted side past ≤ receives_posted past
  -- no more frames were taken than were granted
  pub taken : frames_taken side past ≤ credits_granted side past
  -- no more receives are posted and unused than the end has credits
  pub posted : receives_posted past ≤ frames_taken side past + limits.credits
  -- and while the end is open there are just so many, but for one that is due
  pub reposted : is_cut past ≡ false → is_closed side limits past ≡ false
      → receives_posted past + receives_due past ≡ frames_taken side past + limits.credits
  -- what was sent and what is held was earned
  pub spent : frames_sent past + credits_held side past ≤ credits_earned side past
  -- the credit of the negotiation is there until it is spent
  pub silent_granted : is_silent past ≡ true → credits_granted side past ≡ 1
  pub silent_held : is_silent past ≡ true → 1 ≤ credits_held side past
  -- the first frame used a receive
  pub heard_taken : is_unheard past ≡ false → is_closed side limits past ≡ false → 1 ≤ frames_taken side past

-- at no moment the end held 65,535 credits, which is as many as it can
abbrev pub IsNeverFull : EndId → List Event → Type 0
IsNeverFull side [] = Unit {0}
IsNeverFull side (e ∷ past) = (credits_held side (e ∷ past) < 65535) × IsNeverFull side past
