-- The pages that are there.
use Rattle.std.proofs.Common.{◌≡◌, replicate}
use Rattle.std.specs.Prelude.{Some}
use Rattle.smbd_base.specs.Pages.{opened_page}
use Rattle.shared_pages.proofs.calls.unloaded.Given as goal

abbrev pub invariant-loop : goal.invariant-loop
invariant-loop l = l.slots.items ≡ replicate l.counter (Some (opened_page l.first_generation))
