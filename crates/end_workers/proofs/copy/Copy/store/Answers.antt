use Rattle.end_workers.specs.Progress.{IsSettled, moved}
use Rattle.end_workers.specs.Promise.{Stream}
use Rattle.end_workers.proofs.LogsStopping.{not-moved}
use Rattle.end_workers.proofs.Going.{standing-of}
use Rattle.end_workers.proofs.GroupsOut.{out-on, none-on, out-settled, out-fails, none-stored}
use Rattle.end_workers.proofs.copy.Copy.store.Goals as goal

pub loop-group-init : goal.loop-group-init
loop-group-init g c = record {
  on = c.requires;
  settled = λ o from to log was count s.
      not-moved (λ (x : Stream). IsSettled o from x log c.args.self.now) to (g.K.Sink.written c.args.sink.now) (g.K.Sink.faults c.args.sink.now) was count s;
}

pub next_group-requires : goal.next_group-requires
next_group-requires g c = standing-of c.loop-group.self c.loop-group.invariant.on

pub loop-group-preserved-in-Ok : goal.loop-group-preserved-in-Ok
loop-group-preserved-in-Ok g c = record {
  on = out-on c.loop-group.self c.next_group.new.self c.in-Some.group c.loop-group.invariant.on c.in-Some.ensures.next;
  settled = λ o from to log was count s.
      out-settled o from (moved to (g.K.Sink.written c.loop-group.sink) (g.K.Sink.faults c.loop-group.sink)) log c.loop-group.self c.next_group.new.self
      (c.loop-group.invariant.settled o from to log was count s) c.in-Some.group c.bytes.result.now (g.K.Sink.written c.write_whole.new.sink) (g.K.Sink.faults c.write_whole.new.sink)
      c.in-Some.ensures.next c.bytes.ensures c.in-Ok.ensures.whole c.in-Ok.ensures.cause.later;
}

pub loop-group-preserved : goal.loop-group-preserved
loop-group-preserved g c = record {
  on = out-on c.loop-group.self c.next_group.new.self c.in-Some.group c.loop-group.invariant.on c.in-Some.ensures.next;
  settled = λ o from to log was count s.
      out-settled o from (moved to (g.K.Sink.written c.loop-group.sink) (g.K.Sink.faults c.loop-group.sink)) log c.loop-group.self c.next_group.new.self
      (c.loop-group.invariant.settled o from to log was count s) c.in-Some.group c.bytes.result.now (g.K.Sink.written c.write_whole.new.sink) (g.K.Sink.faults c.write_whole.new.sink)
      c.in-Some.ensures.next c.bytes.ensures c.in-Ok.ensures.whole c.in-Ok.ensures.cause.later;
}

pub returns-in-Err-clause-stops : goal.returns-in-Err-clause-stops
returns-in-Err-clause-stops g c = λ o from to log was count s.
    out-fails o from (moved to (g.K.Sink.written c.loop-group.sink) (g.K.Sink.faults c.loop-group.sink)) log c.loop-group.self c.next_group.new.self
    (c.loop-group.invariant.settled o from to log was count s) c.in-Some.group c.bytes.result.now (g.K.Sink.written c.write_whole.new.sink) (g.K.Sink.faults c.write_whole.new.sink)
    c.in-Some.ensures.next c.bytes.ensures c.in-Err.ensures.front c.in-Err.ensures.cause.failed

pub returns-clause-on : goal.returns-clause-on
returns-clause-on g c = none-on c.loop-group.self c.next_group.new.self c.loop-group.invariant.on c.in_default.ensures.next

pub returns-clause-stores : goal.returns-clause-stores
returns-clause-stores g c = λ o from to log was count s.
    none-stored o from (moved to (g.K.Sink.written c.loop-group.sink) (g.K.Sink.faults c.loop-group.sink)) log c.loop-group.self c.next_group.new.self
    (c.loop-group.invariant.settled o from to log was count s) c.in_default.ensures.next
