-- The frames that come next may be spent.
use Rattle.std.proofs.Common.{◌≡◌, ◌⊎◌, inl, inr, ℕ, ◌≤◌, ◌<◌, ◌==◌, nat_le, Bool, true, false, not, ◌&&◌, ◌||◌, length, List, refl, sym, ap, ◌∙◌, arith}
use Rattle.std.proofs.lemmas.Bool.Decides.{nat_tests}
use Rattle.smbd_base.specs.declared.end_id.EndId.{EndId}
use Rattle.smbd_base.specs.declared.event.Event.{Event}
use Rattle.smbd_base.specs.declared.next.Next.TheVariants as due
use Rattle.smbd_base.specs.Counts.{credits_held, receives_outstanding, receives_grantable, is_silent}
use Rattle.smbd_base.specs.Grant.{credits_in}
use Rattle.smbd_base.specs.History.{next_event, sends, pieces_waiting, is_agreed, is_response_owed, IsLegal}
use Rattle.smbd_base.specs.Limits.{Limits, IsLawful}
use Rattle.smbd_base.specs.Balance.{IsBalanced}
use Rattle.smbd_base.proofs.BalanceLemmas.{balanced, grants, holds_one, silent_opening, granted-data_frame_due}
use Rattle.smbd_base.proofs.Inversion.{Emits, emits, both, sending_parts}
use Rattle.credit_ledger.specs.Credits.{Credits, may_spend}
use Rattle.credit_ledger.specs.Recorded.{IsLedgerOf}
use Rattle.credit_ledger.proofs.Recording.{silent_one}

-- a credit is held, so many are grantable, and the last credit grants some
pub may : (grant : ℕ) (c : Credits) → 1 ≤ c.held → grant ≤ c.grantable → (c.held ≡ 1 → 1 ≤ grant) → may_spend grant c ≡ true
may grant c one few last = by_last (c.held == 1) refl where
  by_last : (b : Bool) → (c.held == 1) ≡ b → may_spend grant c ≡ true
  by_last true is = let some : 1 ≤ grant = last (grind (arith, nat_tests)) in grind (arith, nat_tests)
  by_last false is = let two : 2 ≤ c.held = grind (arith, nat_tests) in grind (arith, nat_tests)

-- an end that sends its last credit grants some
sends_last : (held outstanding grantable : ℕ) (waits owes : Bool) → sends held outstanding grantable waits owes ≡ true → held ≡ 1 → 1 ≤ grantable
sends_last held outstanding grantable waits owes e is =
    let h : (not (held == 1) || nat_le 1 grantable) ≡ true =
    (both (nat_le 1 held && (waits || owes || (nat_le outstanding 1 && nat_le 1 grantable))) (not (held == 1) || nat_le 1 grantable) e).1 in
    grind (arith, nat_tests)

-- what is due is an opening frame that grants nothing, or may be spent
pub frames_may_be_spent : (side : EndId) (limits : Limits) (past : List Event) (c : Credits) (frame : List ℕ) → IsLawful limits → IsLegal side limits past
    → IsLedgerOf side past c → next_event side limits past ≡ due.Emit frame
    → ((is_silent past ≡ true) × (c.held ≡ 1) × (credits_in side true frame ≡ 0)) ⊎ (may_spend (credits_in side (is_silent past) frame) c ≡ true)
frames_may_be_spent side limits past c frame lawful legal ledger next = by_kind where
  e : Emits side limits past frame
  e = emits side limits past frame next

  b : IsBalanced side limits past
  b = balanced side limits past lawful legal e.going.opened

  one : 1 ≤ c.held
  one = omega (arith, ledger.counts.held, holds_one side limits past frame b e)

  few : credits_in side (is_silent past) frame ≤ c.grantable
  few = omega (arith, ledger.counts.grantable, grants side limits past frame lawful b e)

  -- the frame that opens grants nothing, or some
  opens : (none : Bool) → (credits_in side (is_silent past) frame == 0) ≡ none → is_silent past ≡ true
      → ((is_silent past ≡ true) × (c.held ≡ 1) × (credits_in side true frame ≡ 0)) ⊎ (may_spend (credits_in side (is_silent past) frame) c ≡ true)
  opens true is silent =
      let zero_is : credits_in side (is_silent past) frame ≡ 0 = grind (arith, nat_tests) in
      inl (silent, ledger.counts.held ∙ silent_one side past silent, ap (λ (first : Bool). credits_in side first frame) (sym silent) ∙ zero_is)
  opens false is silent =
      let some : 1 ≤ credits_in side (is_silent past) frame = grind (arith, nat_tests) in
      inr (may (credits_in side (is_silent past) frame) c one few (λ _. some))

  by_kind : ((is_silent past ≡ true) × (c.held ≡ 1) × (credits_in side true frame ≡ 0)) ⊎ (may_spend (credits_in side (is_silent past) frame) c ≡ true)
  by_kind =
      elim e.chosen.why as (λ _. ((is_silent past ≡ true) × (c.held ≡ 1) × (credits_in side true frame ≡ 0)) ⊎ (may_spend (credits_in side (is_silent past) frame) c ≡ true)) [
        | inl first ↦ opens (credits_in side (is_silent past) frame == 0) refl (silent_opening side past first.0)
        | inr later ↦
            let parts = both (is_agreed side limits past) _ later.1 in
            let spoken = (sending_parts side limits past e.going.closed later.1).spoken in
            let small : receives_grantable side past < 65536 = omega (arith, b.posted, b.taken, lawful.credits.1) in
            let all : credits_in side (is_silent past) frame ≡ receives_grantable side past =
            rw (← later.2, spoken) (granted-data_frame_due side limits (credits_held side past) (receives_grantable side past) _ small) in
            let last = sends_last (credits_held side past) (receives_outstanding side past) (receives_grantable side past) (not (length (pieces_waiting side limits past) == 0)) (is_response_owed past) parts.1 in
            inr (may (credits_in side (is_silent past) frame) c one few (λ h. (let some = last (omega (arith, h, ledger.counts.held)) in omega (arith, all, some))))
      ]
