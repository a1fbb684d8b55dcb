use Rattle.std.proofs.Common.{◌≡◌, ℕ, ◌+◌, ◌-◌, ◌≤◌, length}
use Rattle.std.specs.List.{range_with_len}
use Rattle.copy_laws.specs.Steps.{workers_opened}
use Rattle.page_crew.proofs.workers.open_workers.Given as goal

abbrev pub invariant-loop-place : goal.invariant-loop-place
invariant-loop-place l = record {
  left : l.count ≤ l.place + length l.passes;
  workers : (first seats : ℕ) → l.initial.passes ≡ range_with_len first seats → l.workers.items ≡ workers_opened first l.place;
  passes : (first seats : ℕ) → l.initial.passes ≡ range_with_len first seats → l.passes ≡ range_with_len (first + l.place) (seats - l.place);
}
