use Rattle.std.proofs.Common.{◌≡◌, take}
use Rattle.end_workers.proofs.Submitted.{count_of}
use Rattle.end_workers.proofs.copy.submitted_in.Given as goal

abbrev pub invariant-loop-event : goal.invariant-loop-event
invariant-loop-event l = l.count ≡ count_of (take l.event-index l.events)
