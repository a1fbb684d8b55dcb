use Rattle.link_ends.specs.Ends.{IsOf}
use Rattle.link_tests.proofs.calls.follow.Given as goal

abbrev pub invariant-loop-whose : goal.invariant-loop-whose
invariant-loop-whose g l = IsOf l.link l.client × IsOf l.link l.server
