-- The text of the lines so far is written but for what is held, and the count has not fallen.
use Rattle.std.proofs.Common.{◌≤◌, take}
use Rattle.event_log.specs.Batches.{IsBatched}
use Rattle.event_log.specs.Lines.{lines_text}
use Rattle.event_log.proofs.writing.write_lines.Given as goal

abbrev pub invariant-loop-line : goal.invariant-loop-line
invariant-loop-line g l = record {
  so_far : IsBatched (g.L.Sink.written l.initial.log) (g.L.Sink.written l.log) (lines_text (take l.line-index l.lines)) l.batch;
  later : g.L.Sink.faults l.initial.log ≤ g.L.Sink.faults l.log;
}
