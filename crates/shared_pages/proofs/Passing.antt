-- Passes are made one after the other.
use Rattle.std.proofs.Common.{◌≡◌, ℕ, ◌+◌, List, [], ◌∷◌, ◌++◌, length, subst, arith}
use Rattle.shared_pages.specs.declared.pages.Pages.{Pages}
use Rattle.shared_pages.specs.declared.page_pass.PagePass.{PagePass}
use Rattle.shared_pages.specs.Calls.{IsNew, AreNew}

pub one_more : (pages : Pages) (n k : ℕ) (passes : List PagePass) (pass : PagePass) → AreNew pages n passes → IsNew pages k pass → n + length passes ≡ k → AreNew pages n (passes ++ pass ∷ [])
one_more pages n k [] pass all new at = let same : k ≡ n = omega arith in (subst (λ (z : ℕ). IsNew pages z pass) same new, tt)
one_more pages n k (p ∷ ps) pass all new at = (all.0, one_more pages (n + 1) k ps pass all.1 new (omega arith))
