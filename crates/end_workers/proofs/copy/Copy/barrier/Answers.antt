use Rattle.std.proofs.Common.{Bool, subst}
use Rattle.end_workers.specs.Barriers.{HasEnded}
use Rattle.end_workers.specs.Progress.{moved}
use Rattle.end_workers.proofs.copy.Copy.barrier.Goals as goal

pub returns-in-Ok-true : goal.returns-in-Ok-true
returns-in-Ok-true g c = λ o from to told from_was from_count to_was to_count told_was told_count going.
    subst
    (λ (over : Bool). HasEnded over o (moved from (g.S.Source.left c.settle.new.source) (g.S.Source.faults c.settle.new.source)) (moved to (g.K.Sink.written c.settle.new.sink) (g.K.Sink.faults c.settle.new.sink))
    (moved told (g.L.Sink.written c.settle.new.log) (g.L.Sink.faults c.settle.new.log)) c.settle.new.self)
    c.in-Ok-true.field-0-test (c.in-Ok-true.ensures.settles o from to told from_was from_count to_was to_count told_was told_count going)

pub returns-in-Ok-false : goal.returns-in-Ok-false
returns-in-Ok-false g c = λ o from to told from_was from_count to_was to_count told_was told_count going.
    subst
    (λ (over : Bool). HasEnded over o (moved from (g.S.Source.left c.settle.new.source) (g.S.Source.faults c.settle.new.source)) (moved to (g.K.Sink.written c.settle.new.sink) (g.K.Sink.faults c.settle.new.sink))
    (moved told (g.L.Sink.written c.settle.new.log) (g.L.Sink.faults c.settle.new.log)) c.settle.new.self)
    c.in-Ok-false.field-0-test (c.in-Ok-false.ensures.settles o from to told from_was from_count to_was to_count told_was told_count going)
