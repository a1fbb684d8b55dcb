use Rattle.std.proofs.Common.{◌≡◌, ◌≤◌, ◌+◌, ◌-◌, ℕ, List}
use Rattle.file_pasts.specs.ClientPast.{ClientEvent}
use Rattle.file_transfer.specs.PutPagesStand.{SlotsStand, is_back, all_back}
use Rattle.file_transfer.proofs.put_pages.is_back_on.Given as goal

abbrev pub invariant-loop-page : goal.invariant-loop-page
invariant-loop-page l = record {
  from : l.group.first ≤ l.page;
  back : (w : ℕ) (past : List ClientEvent) → SlotsStand w past l.slots.items → is_back past l.group ≡ all_back l.group.turn l.page (l.group.first + l.group.pages - l.page) past;
}
