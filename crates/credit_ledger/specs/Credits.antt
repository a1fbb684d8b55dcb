-- What an end records of its credits (MS-SMBD 3.1.1), and how each step changes it.
use Rattle.std.specs.Prelude.{ℕ, ◌+◌, ◌-◌, ◌≤◌, min, nat_le, Bool, ◌&&◌, ◌||◌}
use Rattle.smbd_base.specs.declared.limits.TheConstants.{LEAST_CREDITS, MOST_CREDITS}
use Rattle.smbd_base.specs.Limits.{IsWithin}

-- The credits with which the end may send, the receives that its peer may use, those that it may still grant, and the
-- greatest number of receives that may stand.
pub record Credits : Type 0 where
  pub held : ℕ
  pub outstanding : ℕ
  pub grantable : ℕ
  pub max_receives : ℕ

-- no more receives stand than may, and each number lies in its range
pub record IsLedger (c : Credits) : Type 0 where
  pub receives : c.grantable + c.outstanding ≤ c.max_receives
  pub range : IsWithin LEAST_CREDITS MOST_CREDITS c.max_receives
  pub credits : c.held ≤ 65535

-- an end that has posted its receives: one of them, and one credit, are there for the negotiation
abbrev pub opened : ℕ → Credits
opened n = record { held = 1; outstanding = 1; grantable = n - 1; max_receives = n }

-- so many receives more were posted
abbrev pub with_posted : ℕ → Credits → Credits
with_posted n c = record c { grantable = c.grantable + n }

-- a frame that grants so many credits was taken: it used a receive
abbrev pub with_taken : ℕ → Credits → Credits
with_taken granted c = record c { held = min 65535 (c.held + granted); outstanding = c.outstanding - 1 }

-- A frame that grants so many receives may be sent: it has a credit to spend, no more is granted than stands, and the last
-- credit is kept for a frame that grants some.
abbrev pub may_spend : ℕ → Credits → Bool
may_spend grant c = nat_le 1 c.held && nat_le grant c.grantable && (nat_le 2 c.held || nat_le 1 grant)

-- a frame that grants so many receives was sent: it spent a credit
abbrev pub with_spent : ℕ → Credits → Credits
with_spent grant c = record c { held = c.held - 1; outstanding = c.outstanding + grant; grantable = c.grantable - grant }

-- the last credit was spent on a frame that grants nothing
abbrev pub with_request : Credits → Credits
with_request c = record c { held = 0 }
