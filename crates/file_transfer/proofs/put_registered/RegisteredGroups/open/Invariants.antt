use Rattle.std.proofs.Common.{◌≡◌, ℕ, Some, length}
use Rattle.std.specs.Prelude.{slice_get}
use Rattle.file_transfer.specs.declared.put_pages.Page.{Page}
use Rattle.file_transfer.proofs.PutPagesLemmas.{IsUnused}
use Rattle.file_transfer.proofs.put_registered.RegisteredGroups.open.Given as goal

abbrev pub invariant-loop-page : goal.invariant-loop-page
invariant-loop-page l = record {
  size : length l.slots.items ≡ l._page;
  unused : (k : ℕ) (it : Page) → slice_get l.slots.items k ≡ Some it → IsUnused it;
}
