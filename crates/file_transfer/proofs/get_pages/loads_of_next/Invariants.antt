use Rattle.std.proofs.Common.{◌≡◌}
use Rattle.file_pasts.specs.GetDue.{page_loads}
use Rattle.file_transfer.proofs.get_pages.loads_of_next.Given as goal

abbrev pub invariant-loop-page : goal.invariant-loop-page
invariant-loop-page l = l.loads.items ≡ page_loads l.page 0
