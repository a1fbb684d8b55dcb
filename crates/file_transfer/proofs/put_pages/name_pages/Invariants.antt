use Rattle.std.proofs.Common.{◌≡◌, ◌≤◌, ℕ, List, length}
use Rattle.file_pasts.specs.ClientPast.{ClientEvent}
use Rattle.file_transfer.specs.PutPagesStand.{SlotsStand, SlotsNamed}
use Rattle.file_transfer.proofs.put_pages.name_pages.Given as goal

abbrev pub invariant-loop-page : goal.invariant-loop-page
invariant-loop-page l = record {
  from : l.first ≤ l.page;
  pages : length l.slots.items ≡ length l.initial.slots.items;
  named : (w : ℕ) (past : List ClientEvent) → SlotsStand w past l.initial.slots.items → SlotsNamed w l.first l.page past l.slots.items;
}
