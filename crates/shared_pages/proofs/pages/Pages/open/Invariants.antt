-- The passes that were made.
use Rattle.std.proofs.Common.{◌≡◌, replicate, [], length}
use Rattle.shared_pages.specs.declared.view.View.TheVariants.{Rest}
use Rattle.shared_pages.specs.Calls.{AreNew, opening_of}
use Rattle.shared_pages.proofs.pages.Pages.open.Given as goal

abbrev pub invariant-loop-number : goal.invariant-loop-number
invariant-loop-number l = (l.seat.table_id ≡ l.pages.table.shared.table_id) × (l.seat.me ≡ (Rest l.number (replicate (opening_of l.pages).pages []), []))
    × (length l.passes.items ≡ l.number) × AreNew l.pages 0 l.passes.items
