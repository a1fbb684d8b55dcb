use Rattle.link_ends.specs.Ends.{IsOf}
use Rattle.link_tests.proofs.threads.hear_all.Given as goal

abbrev pub invariant-loop : goal.invariant-loop
invariant-loop g l = IsOf l.link l.talker.end
