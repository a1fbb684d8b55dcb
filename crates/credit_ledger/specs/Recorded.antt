-- A record of credits, and the history of the end whose credits it records.
use Rattle.std.specs.Prelude.{◌≡◌, ◌≤◌, nat_le, Bool, ◌||◌, ◌&&◌, List}
use Rattle.smbd_base.specs.declared.end_id.EndId.{EndId}
use Rattle.smbd_base.specs.declared.event.Event.{Event}
use Rattle.smbd_base.specs.Counts.{credits_held, receives_outstanding, receives_grantable, receives_posted, credits_granted, frames_taken}
use Rattle.credit_ledger.specs.Credits.{Credits}

-- the numbers are the counts of this past
pub record AreCountsOf (side : EndId) (past : List Event) (c : Credits) : Type 0 where
  pub held : c.held ≡ credits_held side past
  pub outstanding : c.outstanding ≡ receives_outstanding side past
  pub grantable : c.grantable ≡ receives_grantable side past

-- The ledger is that of this past: its numbers are the counts, nothing was granted that was not posted, and no more frames
-- were taken than were granted.
pub record IsLedgerOf (side : EndId) (past : List Event) (c : Credits) : Type 0 where
  pub counts : AreCountsOf side past c
  pub granted : credits_granted side past ≤ receives_posted past
  pub taken : frames_taken side past ≤ credits_granted side past

-- an end has something to send: bytes wait, a response is owed, or its peer has at most one credit left and can get more
abbrev pub has_reason : Bool → Bool → Credits → Bool
has_reason waits owes c = waits || owes || (nat_le c.outstanding 1 && nat_le 1 c.grantable)
