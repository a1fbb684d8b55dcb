use Rattle.std.proofs.Common.{◌≡◌, replicate}
use Rattle.smbd_base.specs.Pages.{opened_page}
use Rattle.page_slots.proofs.pages.Pages.open.Given as goal

abbrev pub invariant-loop : goal.invariant-loop
invariant-loop l = l.slots.items ≡ replicate l.counter (opened_page l.first_generation)
