-- One pass more.
use Rattle.std.proofs.Common.{rules, ◌≡◌, ◌+◌, ◌++◌, ◌∷◌, [], length, ap, sym, subst, ◌∙◌, arith, length-append}
use Rattle.shared_pages.specs.Calls.{AreNew}
use Rattle.shared_pages.proofs.Passing.{one_more}
use Rattle.shared_pages.proofs.pages.Pages.open.Goals as goal

pub loop-number-preserved : goal.loop-number-preserved
loop-number-preserved c =
    let items : c.push_back.new.self.items ≡ c.loop-number.passes.items ++ c.deal.result ∷ [] = c.in_ok-push_back.ensures.items in
    let counted = c.loop-number.invariant.2 in (
      search rules,
      c.deal.ensures.rest,
      ap length items ∙ length-append c.loop-number.passes.items (c.deal.result ∷ []) ∙ ap (λ n. n + 1) counted,
      subst (AreNew c.in_ok-pages.pages 0) (sym items)
          (one_more c.in_ok-pages.pages 0 c.loop-number.number c.loop-number.passes.items c.deal.result c.loop-number.invariant.3 (c.deal.ensures.own.0, c.deal.ensures.pass) (omega arith)),
    )
