use Rattle.std.proofs.Common.{◌≡◌, ◌≤◌, ◌<◌, ℕ, List, length, drop}
use Rattle.std.specs.Prelude.{slice_get, vec_capacity}
use Rattle.file_pasts.specs.ClientPast.{ClientEvent}
use Rattle.file_transfer.specs.PutPagesStand.{SlotsStand, under_way_of}
use Rattle.file_transfer.proofs.put_pages.drop_back.Given as goal

abbrev pub invariant-loop-place : goal.invariant-loop-place
invariant-loop-place l = record {
  within : l.place ≤ length l.under_way.items;
  old : l.place ≤ length l.initial.under_way.items;
  front : (k : ℕ) → k < l.place → slice_get l.under_way.items k ≡ slice_get l.initial.under_way.items k;
  rest : (w : ℕ) (past : List ClientEvent) → SlotsStand w past l.slots.items → drop l.place l.under_way.items ≡ under_way_of past (drop l.place l.initial.under_way.items);
  room : vec_capacity l.under_way ≡ vec_capacity l.initial.under_way;
}

abbrev pub decreases-loop-place : goal.decreases-loop-place
decreases-loop-place l = l.place
