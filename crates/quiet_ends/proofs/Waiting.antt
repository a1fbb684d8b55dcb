-- Two ends of which neither sends: none has a reason to.
use Rattle.std.proofs.Common.{◌≡◌, inl, inr, ℕ, ◌+◌, ◌-◌, ◌≤◌, ◌==◌, nat_le, Bool, true, false, not, ◌&&◌, ◌||◌, refl, arith}
use Rattle.std.proofs.lemmas.Bool.{cases_lt}
use Rattle.std.proofs.lemmas.Bool.Decides.{nat_tests}
use Rattle.smbd_base.specs.History.{sends}

may_send : (waits owes last : Bool) → ((waits || owes || true) && (not last || true)) ≡ true
may_send true owes true = refl
may_send true owes false = refl
may_send false true true = refl
may_send false true false = refl
may_send false false true = refl
may_send false false false = refl

sends_to : (held there grantable : ℕ) (waits owes : Bool) → 1 ≤ held → there ≤ 1 → 1 ≤ grantable → sends held there grantable waits owes ≡ true
sends_to held there grantable waits owes one few some =
    let holds : nat_le 1 held ≡ true = grind (arith, nat_tests) in
    let wants : nat_le there 1 ≡ true = grind (arith, nat_tests) in
    let grants : nat_le 1 grantable ≡ true = grind (arith, nat_tests) in
    rw (holds, wants, grants) (may_send waits owes (held == 1))

-- an end that holds a credit and does not send has a peer that holds two
there_two : (held there credits : ℕ) (waits owes : Bool) → 2 ≤ credits → 1 ≤ held → sends held there (credits - there) waits owes ≡ false → 2 ≤ there
there_two held there credits waits owes two one idle = elim (cases_lt there 2) as (λ _. 2 ≤ there) [
  | inl few ↦ (let goes : sends held there (credits - there) waits owes ≡ true = sends_to held there (credits - there) waits owes one (omega arith) (omega arith) in absurd (let b : ⊥ = cc in b))
  | inr many ↦ many
]

-- no piece waits, and no response is owed
pub record IsFree (waits owes : Bool) : Type 0 where
  pub nothing_waits : waits ≡ false
  pub nothing_owed : owes ≡ false

free_by : (waits owes more : Bool) → ((waits || owes || more) && true) ≡ false → IsFree waits owes
free_by true owes more e = absurd cc
free_by false true more e = absurd cc
free_by false false more e = record { nothing_waits = refl; nothing_owed = refl }

-- an end that holds two credits and does not send has no reason to
free : (held there grantable : ℕ) (waits owes : Bool) → 2 ≤ held → sends held there grantable waits owes ≡ false → IsFree waits owes
free held there grantable waits owes two idle =
    let holds : nat_le 1 held ≡ true = grind (arith, nat_tests) in
    let more : (held == 1) ≡ false = grind (arith, nat_tests) in
    free_by waits owes (nat_le there 1 && nat_le 1 grantable) (rw (holds, more) at idle)

both_two : (held there credits credits_there : ℕ) (waits owes waits_there owes_there : Bool) → 2 ≤ credits → 2 ≤ credits_there → 1 ≤ held + there
    → sends held there (credits - there) waits owes ≡ false → sends there held (credits_there - held) waits_there owes_there ≡ false → (2 ≤ held) × (2 ≤ there)
both_two held there credits credits_there waits owes waits_there owes_there two two_there some idle idle_there =
    elim (cases_lt held 1) as (λ _. (2 ≤ held) × (2 ≤ there)) [
      | inl none ↦
          let h : 2 ≤ held = there_two there held credits_there waits_there owes_there two_there (omega arith) idle_there in
          absurd (omega arith)
      | inr one ↦
          let t : 2 ≤ there = there_two held there credits waits owes two one idle in
          (there_two there held credits_there waits_there owes_there two_there (omega arith) idle_there, t)
    ]

-- neither of two ends that do not send has a reason to
pub both_free : (held there credits credits_there : ℕ) (waits owes waits_there owes_there : Bool) → 2 ≤ credits → 2 ≤ credits_there → 1 ≤ held + there
    → sends held there (credits - there) waits owes ≡ false → sends there held (credits_there - held) waits_there owes_there ≡ false
    → IsFree waits owes × IsFree waits_there owes_there
both_free held there credits credits_there waits owes waits_there owes_there two two_there some idle idle_there =
    let h = both_two held there credits credits_there waits owes waits_there owes_there two two_there some idle idle_there in
    (free held there (credits - there) waits owes h.0 idle, free there held (credits_there - held) waits_there owes_there h.1 idle_there)

pub no_dead_end : (held there credits credits_there : ℕ) (waits owes waits_there owes_there : Bool) → 2 ≤ credits → 2 ≤ credits_there → 1 ≤ held + there
    → sends held there (credits - there) waits owes ≡ false → sends there held (credits_there - held) waits_there owes_there ≡ false
    → (waits ≡ false) × (owes ≡ false) × (waits_there ≡ false) × (owes_there ≡ false)
no_dead_end held there credits credits_there waits owes waits_there owes_there two two_there some idle idle_there =
    let h = both_free held there credits credits_there waits owes waits_there owes_there two two_there some idle idle_there in
    (h.0.nothing_waits, h.0.nothing_owed, h.1.nothing_waits, h.1.nothing_owed)
