use Rattle.std.proofs.Common.{◌≡◌}
use Rattle.message_tests.proofs.credits.follow.Given as goal

abbrev pub invariant-loop-step : goal.invariant-loop-step
invariant-loop-step g l = l.ledger.max_receives ≡ l.fn.max
