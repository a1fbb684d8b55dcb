use Rattle.std.proofs.Common.{None, true, List, [], ◌∷◌, length, refl, sym, ap, ◌∙◌, length-append, arith}
use Rattle.std.specs.Prelude.{slice_get}
use Rattle.file_transfer.specs.declared.put_pages.Page.{Page}
use Rattle.file_transfer.proofs.PutPagesLemmas.{unused-more, stand-unused, no_page}
use Rattle.file_transfer.proofs.put_registered.RegisteredGroups.open.Goals as goal

abbrev unused_page : Page
unused_page = record { waiting = None; fresh = None; unloads = 0; free = true }

pub loop-page-init : goal.loop-page-init
loop-page-init c = record {
  size = ap length c.in_ok-slots.ensures.items;
  unused = λ k it at. no_page k it (ap (λ (ps : List Page). slice_get ps k) (sym c.in_ok-slots.ensures.items) ∙ at);
}

pub loop-page-preserved : goal.loop-page-preserved
loop-page-preserved c = record {
  size = omega (arith, ap length c.in_ok-push.ensures.items, length-append c.loop-page.slots.items (unused_page ∷ []), c.loop-page.invariant.size);
  unused = λ k it at.
      unused-more c.loop-page.slots.items unused_page c.loop-page.invariant.unused (record { waiting = refl; fresh = refl; unloads = refl; free = refl }) k it
      (ap (λ (ps : List Page). slice_get ps k) (sym c.in_ok-push.ensures.items) ∙ at);
}

pub returns : goal.returns
returns c = record {
  lawful = tt;
  due = c.new.ensures.stands;
  kept = c.new.ensures.kept;
  slots = stand-unused c.args.windows c.loop-page.slots.items c.loop-page.invariant.unused;
  under_way = c.in_ok-under_way.ensures.items;
  count = refl;
  waiting = c.new-2.ensures.items;
  pool = omega (arith, c.loop-page.invariant.size);
  some = c.requires.some;
  few = c.requires.few;
  room = c.in_ok-under_way.ensures.capacity;
}
