-- The store may be made.
use Rattle.std.proofs.Common.{rules, ◌≡◌, sym, subst, ◌∙◌, ◌∷◌, []}
use Rattle.std.specs.Prelude.{Some}
use mathlib.Core.Option.{none}
use Rattle.atomic_table.specs.Table.{Allows, step, rest}
use Rattle.shared_pages.specs.declared.view.View.TheVariants.{One}
use Rattle.shared_pages.specs.Rule.{Sat, Kept, kept}
use Rattle.shared_pages.proofs.Holding.{lets_go}
use Rattle.shared_pages.proofs.pages.Pages.let_go.Goals as goal

pub store-requires : goal.store-requires
store-requires c = let k = c.args.self.now.table.shared.key in let n = c.args.self.now.table.shared.table_id.slots in let h = c.requires.may in
    let carried : c.exchange.new.seat.me ≡ (One h.sight, (c.args.page, Some c.args.slot) ∷ []) = c.exchange.ensures.3 ∙ (λ i. ((h.seat i).0, (c.args.page, Some c.args.slot) ∷ rest (h.seat i).1)) in (
      search rules,
      search rules,
      subst (λ (m : Sat). Allows (Kept k) n c.exchange.new.seat.id m c.args.page (λ _. c.args.count) (λ _. kept (step n c.args.page c.args.count 0 none) m c.args.count)) (sym carried)
          (lets_go k n c.exchange.new.seat.id c.args.page c.args.count h.sight h.log c.args.slot h.hold h.seen h.counted h.stands),
    )
