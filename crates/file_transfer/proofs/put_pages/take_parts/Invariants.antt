use Rattle.std.proofs.Common.{◌≡◌, ◌+◌, ℕ, List, [], ◌++◌, length}
use Rattle.file_pasts.specs.ClientPast.{ClientEvent}
use Rattle.file_transfer.specs.PutPagesStand.{PartsTaken, HasRoomOn}
use Rattle.file_transfer.proofs.put_pages.take_parts.Given as goal

abbrev pub invariant-loop-part : goal.invariant-loop-part
invariant-loop-part l = record {
  taken : List (List ℕ);
  all : taken ++ l.parts.items ≡ l.fn.parts.items;
  page : l.page ≡ l.first + length taken;
  pages : length l.slots.items ≡ length l.initial.slots.items;
  kept : l.jobs.kept + length taken ≡ l.initial.jobs.kept;
  stand : (w : ℕ) (past : List ClientEvent) → PartsTaken w l.first [] past l.initial.slots.items l.initial.jobs
      → HasRoomOn w l.first (l.first + length l.fn.parts.items) past → PartsTaken w l.first taken past l.slots.items l.jobs;
}

abbrev pub decreases-loop-part : goal.decreases-loop-part
decreases-loop-part l = length l.parts.items
