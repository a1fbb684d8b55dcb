use Rattle.std.proofs.Common.{◌≡◌, ℕ, ◌+◌, refl, ◌∙◌, subst, length-set, arith}
use Rattle.std.proofs.lemmas.Option.{slice_get_read}
use Rattle.file_transfer.specs.PutPagesStand.{SlotsNamed}
use Rattle.file_transfer.proofs.PutPagesLemmas.{named-none, named-more}
use Rattle.file_transfer.proofs.put_pages.name_pages.Goals as goal

pub loop-page-init : goal.loop-page-init
loop-page-init c = record { from = omega arith; pages = refl; named = λ w past s. named-none w c.args.first past c.args.slots.now.items s }

pub loop-page-preserved : goal.loop-page-preserved
loop-page-preserved c = record {
  from = omega (arith, c.loop-page.invariant.from);
  pages = length-set c.loop-page.slots.items c.loop-page.page _ ∙ c.loop-page.invariant.pages;
  named = λ w past s.
      named-more w c.args.first c.loop-page.page past c.loop-page.slots.items _ c.index_mut-slot.result.now _ (c.loop-page.invariant.named w past s) c.loop-page.invariant.from
      (slice_get_read c.loop-page.slots.items _ c.loop-page.page c.index_mut-slot.result.now refl (omega (arith, c.loop-page.invariant.pages, c.requires)) c.index_mut-slot.ensures.value)
      refl refl refl refl refl;
}

pub returns-clause-named : goal.returns-clause-named
returns-clause-named c = λ w past s.
    let last : c.loop-page.page ≡ c.args.first + c.args.count = omega arith in
    subst (λ (k : ℕ). SlotsNamed w c.args.first k past c.loop-page.slots.items) last (c.loop-page.invariant.named w past s)
