use Rattle.std.proofs.Common.{◌≡◌, length}
use Rattle.page_tests.proofs.slots.wear.Given as goal

abbrev pub invariant-loop : goal.invariant-loop
invariant-loop g l = length l.pages ≡ length l.initial.pages
