use Rattle.link_ends.specs.Ends.{IsOf}
use Rattle.link_tests.proofs.turns.go_on.Given as goal

abbrev pub invariant-loop : goal.invariant-loop
invariant-loop g l = IsOf l.link l.client.end × IsOf l.link l.server.end
