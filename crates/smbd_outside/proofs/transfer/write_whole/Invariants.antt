-- What was written is the front of the piece before the rest, and the count has not fallen.
use Rattle.std.proofs.Common.{length, ◌≤◌}
use Rattle.smbd_outside.proofs.StreamLemmas.{IsWritten}
use Rattle.smbd_outside.proofs.transfer.write_whole.Given as goal

abbrev pub invariant-loop-rest : goal.invariant-loop-rest
invariant-loop-rest g l = record {
  so_far : IsWritten (g.K.Sink.written l.initial.sink) (g.K.Sink.written l.sink) l.piece l.rest;
  later : g.K.Sink.faults l.initial.sink ≤ g.K.Sink.faults l.sink;
}

abbrev pub decreases-loop-rest : goal.decreases-loop-rest
decreases-loop-rest g l = length l.rest
