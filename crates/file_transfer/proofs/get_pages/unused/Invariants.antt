use Rattle.std.proofs.Common.{◌≡◌}
use Rattle.file_transfer.specs.GetPagesStand.{unused_pages}
use Rattle.file_transfer.proofs.get_pages.unused.Given as goal

abbrev pub invariant-loop-page : goal.invariant-loop-page
invariant-loop-page l = l.slots.items ≡ unused_pages l._page
