use Rattle.std.proofs.Common.{List, ℕ, length, refl, ap, ◌∙◌}
use Rattle.end_workers.specs.Promise.{stream_of}
use Rattle.copy_loads.proofs.Asked.{asked-at-end}
use Rattle.copy_loads.proofs.running.run_opened.Goals as goal

pub barrier-requires : goal.barrier-requires
barrier-requires g c = c.loop.invariant.on

pub round-requires : goal.round-requires
round-requires g c =
    let next =
    c.in-More.ensures c.args.copy.now.options (stream_of g.S.Source.left g.S.Source.faults c.args.source.now c.loop.source)
    (stream_of g.K.Sink.written g.K.Sink.faults c.args.sink.now c.loop.sink) (stream_of g.L.Sink.written g.L.Sink.faults c.args.log.now c.loop.log)
    refl refl refl refl refl refl c.loop.invariant.going in
    record { on = next.on; up = next.up }

pub returns-in-Done-clause-done : goal.returns-in-Done-clause-done
returns-in-Done-clause-done g c =
    (c.in-Done.ensures c.args.copy.now.options (stream_of g.S.Source.left g.S.Source.faults c.args.source.now c.loop.source)
    (stream_of g.K.Sink.written g.K.Sink.faults c.args.sink.now c.loop.sink) (stream_of g.L.Sink.written g.L.Sink.faults c.args.log.now c.loop.log)
    refl refl refl refl refl refl c.loop.invariant.going).1

pub finish-requires : goal.finish-requires
finish-requires g c =
    (c.in-Done.ensures c.args.copy.now.options (stream_of g.S.Source.left g.S.Source.faults c.args.source.now c.loop.source)
    (stream_of g.K.Sink.written g.K.Sink.faults c.args.sink.now c.loop.sink) (stream_of g.L.Sink.written g.L.Sink.faults c.args.log.now c.loop.log)
    refl refl refl refl refl refl c.loop.invariant.going).0.on

pub returns-in-Done-clause-report : goal.returns-in-Done-clause-report
returns-in-Done-clause-report g c = λ bytes told.
    let asked = asked-at-end c.args.copy.now.options (stream_of g.S.Source.left g.S.Source.faults c.args.source.now c.barrier.new.source)
    (stream_of g.K.Sink.written g.K.Sink.faults c.args.sink.now c.barrier.new.sink) (stream_of g.L.Sink.written g.L.Sink.faults c.args.log.now c.barrier.new.log)
    c.barrier.new.self bytes (c.in-Done.ensures c.args.copy.now.options (stream_of g.S.Source.left g.S.Source.faults c.args.source.now c.loop.source)
    (stream_of g.K.Sink.written g.K.Sink.faults c.args.sink.now c.loop.sink) (stream_of g.L.Sink.written g.L.Sink.faults c.args.log.now c.loop.log)
    refl refl refl refl refl refl c.loop.invariant.going).0 told in
    record {
      bytes_read = c.finish.ensures.length ∙ asked.read;
      requests_made = c.finish.ensures.requests ∙ ap (λ (ms : List (List ℕ)). length ms) asked.requests;
    }

pub returns-in-Stop-clause-stops : goal.returns-in-Stop-clause-stops
returns-in-Stop-clause-stops g c =
    (c.in-Stop.ensures c.args.copy.now.options (stream_of g.S.Source.left g.S.Source.faults c.args.source.now c.loop.source)
    (stream_of g.K.Sink.written g.K.Sink.faults c.args.sink.now c.loop.sink) (stream_of g.L.Sink.written g.L.Sink.faults c.args.log.now c.loop.log)
    refl refl refl refl refl refl c.loop.invariant.going).0

pub returns-in_default-clause-stops : goal.returns-in_default-clause-stops
returns-in_default-clause-stops g c =
    c.in_default.ensures.stops c.args.copy.now.options (stream_of g.S.Source.left g.S.Source.faults c.args.source.now c.barrier.new.source)
    (stream_of g.K.Sink.written g.K.Sink.faults c.args.sink.now c.barrier.new.sink) (stream_of g.L.Sink.written g.L.Sink.faults c.args.log.now c.barrier.new.log)
    (c.in-More.ensures c.args.copy.now.options (stream_of g.S.Source.left g.S.Source.faults c.args.source.now c.loop.source)
    (stream_of g.K.Sink.written g.K.Sink.faults c.args.sink.now c.loop.sink) (stream_of g.L.Sink.written g.L.Sink.faults c.args.log.now c.loop.log)
    refl refl refl refl refl refl c.loop.invariant.going).after.settled

pub loop-preserved : goal.loop-preserved
loop-preserved g c = record {
  on = c.in-Ok.ensures.on;
  going =
      c.in-Ok.ensures.runs c.args.copy.now.options (stream_of g.S.Source.left g.S.Source.faults c.args.source.now c.barrier.new.source)
      (stream_of g.K.Sink.written g.K.Sink.faults c.args.sink.now c.barrier.new.sink) (stream_of g.L.Sink.written g.L.Sink.faults c.args.log.now c.barrier.new.log)
      (c.in-More.ensures c.args.copy.now.options (stream_of g.S.Source.left g.S.Source.faults c.args.source.now c.loop.source)
      (stream_of g.K.Sink.written g.K.Sink.faults c.args.sink.now c.loop.sink) (stream_of g.L.Sink.written g.L.Sink.faults c.args.log.now c.loop.log)
      refl refl refl refl refl refl c.loop.invariant.going).after.settled;
}

pub loop-init : goal.loop-init
loop-init g c = record {
  on = c.requires.on;
  going = c.requires.opened (stream_of g.S.Source.left g.S.Source.faults c.args.source.now c.args.source.now)
      (stream_of g.K.Sink.written g.K.Sink.faults c.args.sink.now c.args.sink.now) (stream_of g.L.Sink.written g.L.Sink.faults c.args.log.now c.args.log.now)
      (refl, refl) (refl, refl) (refl, refl);
}
