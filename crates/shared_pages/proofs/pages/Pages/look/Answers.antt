-- The look may be made.
use Rattle.std.proofs.Common.{rules, sym, subst, []}
use mathlib.Core.Option.{none}
use Rattle.atomic_table.specs.Table.{Allows, step}
use Rattle.shared_pages.specs.declared.view.Opening.{Opening}
use Rattle.shared_pages.specs.declared.view.View.TheVariants.{One}
use Rattle.shared_pages.specs.Rule.{Sat, Kept, sight_of, looked}
use Rattle.shared_pages.proofs.Meeting.{looks}
use Rattle.shared_pages.proofs.pages.Pages.look.Goals as goal

pub load-requires : goal.load-requires
load-requires g c = let k = c.args.self.now.table.shared.key in let n = c.args.self.now.table.shared.table_id.slots in let p = c.args.pass.now in (
  search rules,
  search rules,
  subst (λ (m : Sat). Allows (Kept k) n p.seat.id m 0 (λ x. x) (looked g.J.Opens.opening (step n 0 0 0 none) m)) (sym p.rests.0)
      (subst (λ (o : Opening). Allows (Kept k) n p.seat.id (One (sight_of p.seat.me.0), []) 0 (λ x. x) (looked o (step n 0 0 0 none) (One (sight_of p.seat.me.0), []))) (sym c.requires.opening)
      (looks k n p.seat.id (sight_of p.seat.me.0))),
)
