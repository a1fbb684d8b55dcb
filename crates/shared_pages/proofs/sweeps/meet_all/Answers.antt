-- All have met.
use Rattle.std.proofs.Common.{rules, ◌≡◌, ◌∷◌, List, sym, subst}
use Rattle.shared_pages.specs.declared.page_pass.PagePass.{PagePass}
use Rattle.shared_pages.specs.Sweeps.{HaveAllMet}
use Rattle.shared_pages.proofs.Sweeping.{all-met, none-met, all-fit, all-past}
use Rattle.shared_pages.proofs.sweeps.meet_all.Goals as goal

pub returns-in-Some-clause-met : goal.returns-in-Some-clause-met
returns-in-Some-clause-met c =
    let parts : c.args.passes.now ≡ c.in-Some.first.now ∷ c.in-Some.rest.now = search rules in
    subst (λ (l : List PagePass). HaveAllMet c.args.pages.now l (c.sweep_twice.new.first ∷ c.sweep_twice.new.rest)) (sym parts)
    (all-met _ _ _ _ _ c.sweep_twice.ensures)

pub returns-in_default-clause-met : goal.returns-in_default-clause-met
returns-in_default-clause-met c = none-met _ _ (search rules)

pub returns-in-Some-clause-fit : goal.returns-in-Some-clause-fit
returns-in-Some-clause-fit c = all-fit _ _ _ (all-met _ _ _ _ _ c.sweep_twice.ensures)

pub returns-in-Some-clause-past : goal.returns-in-Some-clause-past
returns-in-Some-clause-past c = all-past _ _ _ (all-met _ _ _ _ _ c.sweep_twice.ensures)
