use Rattle.std.proofs.Common.{◌+◌, refl, sym, ◌∙◌, arith}
use Rattle.std.proofs.lemmas.Option.{slice_get_read}
use Rattle.file_transfer.proofs.PutPagesLemmas.{back-none, back-at, not_back-at, back-all}
use Rattle.file_transfer.proofs.put_pages.is_back_on.Goals as goal

pub loop-page-init : goal.loop-page-init
loop-page-init c = record { from = omega arith; back = λ w past s. back-none c.args.group.now.turn c.args.group.now.first c.args.group.now.pages past }

pub returns-then-index-group : goal.returns-then-index-group
returns-then-index-group c = λ w past s.
    let g = c.args.group.now in
    sym (c.loop-page.invariant.back w past s
    ∙ not_back-at w g.turn c.loop-page.page (g.first + g.pages) past c.args.slots.now.items c.index.result.now s
    (slice_get_read c.args.slots.now.items _ c.loop-page.page c.index.result.now refl (omega arith) c.index.ensures) (omega arith) c.if-index-group.true)

pub loop-page-preserved : goal.loop-page-preserved
loop-page-preserved c = record {
  from = omega (arith, c.loop-page.invariant.from);
  back = λ w past s.
      let g = c.args.group.now in
      c.loop-page.invariant.back w past s
      ∙ back-at w g.turn c.loop-page.page (g.first + g.pages) past c.args.slots.now.items c.index.result.now s
      (slice_get_read c.args.slots.now.items _ c.loop-page.page c.index.result.now refl (omega arith) c.index.ensures) (omega arith) c.if-index-group.false;
}

pub returns : goal.returns
returns c = λ w past s.
    let g = c.args.group.now in
    sym (c.loop-page.invariant.back w past s ∙ back-all g.turn c.loop-page.page (g.first + g.pages) past (omega arith))
