-- The frames that are left to be sent.
use Rattle.std.proofs.Common.{◌≡◌, ℕ, ◌+◌, ◌-◌, ◌<◌, Option, Some, None, refl, ap, subst, arith}
use Rattle.link_ends.specs.declared.answer.Driven.{Driven}
use Rattle.link_ends.specs.declared.answer.Driven.TheVariants as driven
use Rattle.copy_ends.specs.Cuts.{AreLeft}
use Rattle.end_shares.specs.Turns.{frames_in}

none_sent : (d : Driven) → (d ≡ driven.Sent → ⊥) → frames_in d ≡ 0
none_sent driven.Posted n = refl
none_sent driven.Sent n = absurd (n refl)
none_sent driven.Cut n = refl
none_sent driven.Idle n = refl

pub left_same : (number left : Option ℕ) (sent : ℕ) (d : Driven) → (d ≡ driven.Sent → ⊥) → AreLeft number sent left → AreLeft number (sent + frames_in d) left
left_same number left sent d n h =
    let none = none_sent d n in
    let same : sent ≡ sent + frames_in d = omega arith in
    subst (λ (k : ℕ). AreLeft number k left) same h

pub left_none : (number : Option ℕ) (sent more : ℕ) → AreLeft number sent None → AreLeft number (sent + more) None
left_none None sent more h = refl
left_none (Some n) sent more h = absurd (let x = h.1 in let b : ⊥ = cc in b)

value : Option ℕ → ℕ
value None = 0
value (Some n) = n

pub left_less : (number : Option ℕ) (sent count : ℕ) → 0 < count → AreLeft number sent (Some count) → AreLeft number (sent + 1) (Some (count - 1))
unfolding value
left_less None sent count some h = absurd (let b : ⊥ = cc in b)
left_less (Some n) sent count some h =
    let is : count ≡ h.0 = ap value h.1 in
    let sum : sent + h.0 + 1 ≡ n = h.2 in
    (count - 1, refl, omega (arith, is, sum))
