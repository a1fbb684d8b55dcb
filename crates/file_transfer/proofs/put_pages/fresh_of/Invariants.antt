use Rattle.std.proofs.Common.{◌≡◌, ◌≤◌, ℕ, List, length, map}
use Rattle.file_pasts.specs.ClientPast.{ClientEvent}
use Rattle.file_transfer.specs.ClientStands.{descriptor_in}
use Rattle.file_transfer.specs.PutPagesStand.{SlotsStand}
use Rattle.file_transfer.proofs.PutPagesLemmas.{HasFound}
use Rattle.file_transfer.proofs.put_pages.fresh_of.Given as goal

abbrev pub invariant-loop-page : goal.invariant-loop-page
invariant-loop-page l = record {
  from : l.first ≤ l.page;
  found : (w : ℕ) (past : List ClientEvent) (parts : List (List ℕ)) → SlotsStand w past l.slots.items → length parts ≡ l.count
      → HasFound w l.first l.page past parts (map descriptor_in l.found.items);
}
