use Rattle.std.proofs.Common.{◌≡◌, length}
use Rattle.page_tests.proofs.records.finds_its_records.Given as goal

abbrev pub invariant-loop-turn : goal.invariant-loop-turn
invariant-loop-turn g l = length l.table ≡ 64
