-- The copy goes on, and has moved the streams so far.
use Rattle.end_workers.specs.Progress.{GoesOn, IsGoing}
use Rattle.end_workers.specs.Promise.{stream_of}
use Rattle.copy_loads.proofs.running.run_opened.Given as goal

abbrev pub invariant-loop : goal.invariant-loop
invariant-loop g l = record {
  on : GoesOn l.copy;
  going : IsGoing l.fn.copy.options (stream_of g.S.Source.left g.S.Source.faults l.fn.source l.source) (stream_of g.K.Sink.written g.K.Sink.faults l.fn.sink l.sink)
      (stream_of g.L.Sink.written g.L.Sink.faults l.fn.log l.log) l.copy;
}
