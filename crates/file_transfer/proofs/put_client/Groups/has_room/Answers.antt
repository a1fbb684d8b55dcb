use Rattle.std.proofs.Common.{◌≡◌, ◌+◌, ◌-◌, ◌<◌, ◌≤◌, ℕ, nat_lt, min, Bool, true, false, length, refl, sym, ap, ◌∙◌, arith}
use Rattle.std.proofs.lemmas.Bool.Decides.{nat_tests}
use Rattle.file_pasts.specs.ClientPast.{groups_in, requests_sent}
use Rattle.file_pasts.specs.PutDue.{Setup, has_room}
use Rattle.file_transfer.proofs.PutClientLemmas.{as_inline, as_registered}
use Rattle.file_transfer.proofs.put_client.Groups.has_room.Goals as goal

small : (n : ℕ) → nat_lt (min n 18446744073709551615) 4 ≡ nat_lt n 4
small n = by_test (nat_lt n 4) refl where
  by_test : (t : Bool) → nat_lt n 4 ≡ t → nat_lt (min n 18446744073709551615) 4 ≡ t
  by_test true e = let h : n < 4 = grind (arith, nat_tests) in let k : min n 18446744073709551615 < 4 = omega arith in grind (arith, nat_tests)
  by_test false e = let h : 4 ≤ n = grind (arith, nat_tests) in let k : 4 ≤ min n 18446744073709551615 = omega arith in grind (arith, nat_tests)

pub returns-in-Inline : goal.returns-in-Inline
returns-in-Inline c = λ s past came e.
    let i = as_inline s past c.args.self.now c.in-Inline.groups came c.in-Inline.is in
    ap (λ (n : ℕ). nat_lt n 4) c.saturating_add.ensures ∙ small (c.waiting.result + c.args.unanswered)
    ∙ ap (λ (n : ℕ). nat_lt (n + c.args.unanswered) 4) (c.waiting.ensures past i.stands)
    ∙ ap (λ (n : ℕ). nat_lt (length (groups_in past) - length (requests_sent past) + n) 4) e
    ∙ ap (λ (t : Setup). has_room t past) (sym i.setup)

pub returns-in-Registered : goal.returns-in-Registered
returns-in-Registered c = λ s past came e.
    let r = as_registered s past c.args.self.now c.in-Registered.groups came c.in-Registered.is in
    c.has_room.ensures s.windows past r.stands ∙ ap (λ (t : Setup). has_room t past) (sym r.setup)
