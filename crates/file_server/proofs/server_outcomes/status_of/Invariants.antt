use Rattle.std.proofs.Common.{◌≡◌, drop}
use Rattle.file_server.specs.ServerTurn.{status_from}
use Rattle.file_server.proofs.server_outcomes.status_of.Given as goal

abbrev pub invariant-loop-outcome : goal.invariant-loop-outcome
invariant-loop-outcome l = status_from l.status (drop l.outcome-index l.outcomes) ≡ status_from 0 l.outcomes
