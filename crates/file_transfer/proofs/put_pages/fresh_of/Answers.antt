use Rattle.std.proofs.Common.{◌+◌, List, [], ◌∷◌, map, refl, sym, ap, ◌∙◌, subst, arith}
use Rattle.std.proofs.lemmas.Option.{slice_get_read}
use Rattle.std.proofs.lemmas.List.{map-append}
use Rattle.buffer_descriptor.specs.declared.descriptor.Descriptor.{Descriptor}
use Rattle.file_transfer.specs.declared.loaded_page.LoadedPage.{LoadedPage}
use Rattle.file_transfer.specs.ClientStands.{descriptor_in}
use Rattle.file_transfer.proofs.PutPagesLemmas.{HasFound, found-none, found-more, found-missing, found-all}
use Rattle.file_transfer.proofs.put_pages.fresh_of.Goals as goal

pub loop-page-init : goal.loop-page-init
loop-page-init c = record {
  from = omega arith;
  found = λ w past parts s e. subst (λ (ds : List LoadedPage). HasFound w c.args.first c.args.first past parts (map descriptor_in ds)) (sym c.in_ok-found.ensures.items) (found-none w c.args.first past parts);
}

pub returns-in-None : goal.returns-in-None
returns-in-None c = λ w past parts s e.
    found-missing w c.args.first c.loop-page.page c.args.count past parts (map descriptor_in c.loop-page.found.items) c.args.slots.now.items c.index-slot.result.now s
    (c.loop-page.invariant.found w past parts s e) e c.loop-page.invariant.from (omega arith)
    (slice_get_read c.args.slots.now.items _ c.loop-page.page c.index-slot.result.now refl (omega arith) c.index-slot.ensures) c.in-None.is

pub loop-page-preserved : goal.loop-page-preserved
loop-page-preserved c = record {
  from = omega (arith, c.loop-page.invariant.from);
  found = λ w past parts s e.
      subst (λ (ds : List Descriptor). HasFound w c.args.first (c.loop-page.page + 1) past parts ds)
      (sym (ap (map descriptor_in) c.in_ok-push-in-Some.ensures.items ∙ map-append descriptor_in c.loop-page.found.items (c.in-Some.loaded ∷ [])))
      (found-more w c.args.first c.loop-page.page c.args.count past parts (map descriptor_in c.loop-page.found.items) c.args.slots.now.items c.index-slot.result.now c.in-Some.loaded s
      (c.loop-page.invariant.found w past parts s e) e c.loop-page.invariant.from (omega arith)
      (slice_get_read c.args.slots.now.items _ c.loop-page.page c.index-slot.result.now refl (omega arith) c.index-slot.ensures) c.in-Some.is);
}

pub returns : goal.returns
returns c = λ w past parts s e.
    found-all w c.args.first c.loop-page.page c.args.count past parts (map descriptor_in c.loop-page.found.items) (c.loop-page.invariant.found w past parts s e) e (omega arith)
