use Rattle.link_ends.specs.Ends.{IsOf}
use Rattle.link_tests.proofs.threads.talk_until_cut.Given as goal

abbrev pub invariant-loop : goal.invariant-loop
invariant-loop g l = IsOf l.link l.talker.end
