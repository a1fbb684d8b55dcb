-- The store may be made.
use Rattle.std.proofs.Common.{rules, ◌≡◌, ℕ, ◌+◌, sym, ap, subst, ◌∙◌, ◌∷◌, []}
use Rattle.std.specs.Prelude.{Some}
use mathlib.Core.Option.{none}
use Rattle.atomic_table.specs.Table.{Allows, step, rest}
use Rattle.shared_pages.specs.declared.view.View.TheVariants.{One}
use Rattle.shared_pages.specs.Rule.{Sat, Kept, given}
use Rattle.shared_pages.proofs.Holding.{gives_back}
use Rattle.shared_pages.proofs.pages.Pages.give_back.Goals as goal

pub store-requires : goal.store-requires
store-requires g c = let k = c.args.self.now.table.shared.key in let n = c.args.self.now.table.shared.table_id.slots in let h = c.requires.may in
    let carried : c.exchange.new.seat.me ≡ (One h.sight, (c.args.page, Some c.args.slot) ∷ []) = c.exchange.ensures.3 ∙ (λ i. ((h.seat i).0, (c.args.page, Some c.args.slot) ∷ rest (h.seat i).1)) in (
      search rules,
      search rules,
      subst (λ (m : Sat). Allows (Kept k) n c.exchange.new.seat.id m c.args.page (λ _. c.args.count + 1) (λ _. given g.J.Does.event (step n c.args.page (c.args.count + 1) 0 none) m (c.args.count + 1))) (sym carried)
          (gives_back k n c.exchange.new.seat.id c.args.page (c.args.count + 1) h.sight h.log g.J.Does.event c.args.slot h.hold h.seen h.on h.step h.few (ap (λ (z : ℕ). z + 1) h.counted) h.after),
    )
