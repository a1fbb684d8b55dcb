use Rattle.std.proofs.Common.{◌≡◌, Some, List, [], ℕ, refl, sym, ap}
use Rattle.smbd_outside.specs.Memory.{SinkState}
use Rattle.end_workers.specs.Promise.{Stream, stream_of}
use Rattle.end_workers.proofs.EndingOpened.{keeps-unopened}
use Rattle.made_input.specs.Made.{made_bytes}
use Rattle.copy_loads.specs.Loads.{KeepsLoadPromise}
use Rattle.copy_loads.proofs.Loading.{IsMade, stopped, told, unopened, load-completes, load-line}
use Rattle.copy_loads.proofs.load.run_load.Goals as goal

-- the line was told
pub returns-in-Ok-run_to_end : goal.returns-in-Ok-run_to_end
returns-in-Ok-run_to_end g c =
    let o = c.args.options.now in
    let source : Stream = record { before = Some c.open-input.result; now = Some c.run_to_end.new.source; faults_before = 0; faults = 0 } in
    let memory : Stream = record { before = Some c.in-Ok.memory.taken; now = Some c.run_to_end.new.sink.taken; faults_before = c.in-Ok.memory.faults; faults = c.run_to_end.new.sink.faults } in
    let sink = stream_of g.K.Sink.written g.K.Sink.faults c.args.sink.now c.tell.new.sink in
    let log = stream_of g.L.Sink.written g.L.Sink.faults c.args.log.now c.run_to_end.new.log in
    let made : IsMade c.args.first c.args.length source = record { made = ap (λ (xs : List ℕ). Some xs) c.open-input.ensures; short = c.requires.few; none = refl } in
    let empty : c.in-Ok.memory.taken ≡ [] = ap (λ (s : SinkState). s.taken) c.in-Ok.ensures in
    let report = c.in-Ok-run_to_end.ensures.report (made_bytes c.args.first c.args.length) made.made in
    let kept : KeepsLoadPromise c.tell.result c.args.first c.args.length o sink log =
    told c.args.first c.args.length o source memory sink log c.requires.put made (ap (λ (xs : List ℕ). Some xs) empty) c.in-Ok-run_to_end.ensures.done c.tell.result c.taken.result.now
    c.in-Ok-run_to_end.report.length c.in-Ok-run_to_end.report.requests (ap (λ (xs : List ℕ). Some xs) (sym c.taken.ensures)) report.bytes_read report.requests_made c.tell.ensures in
    record {
      promise = kept;
      line = load-line c.tell.result c.args.first c.args.length o sink log kept;
      complete = load-completes c.tell.result c.args.first c.args.length o sink log kept;
    }

-- the put stopped
pub returns : goal.returns
returns g c =
    let o = c.args.options.now in
    let source : Stream = record { before = Some c.open-input.result; now = Some c.run_to_end.new.source; faults_before = 0; faults = 0 } in
    let memory : Stream = record { before = Some c.in-Ok.memory.taken; now = Some c.run_to_end.new.sink.taken; faults_before = c.in-Ok.memory.faults; faults = c.run_to_end.new.sink.faults } in
    let sink = stream_of g.K.Sink.written g.K.Sink.faults c.args.sink.now c.args.sink.now in
    let log = stream_of g.L.Sink.written g.L.Sink.faults c.args.log.now c.run_to_end.new.log in
    let made : IsMade c.args.first c.args.length source = record { made = ap (λ (xs : List ℕ). Some xs) c.open-input.ensures; short = c.requires.few; none = refl } in
    let empty : c.in-Ok.memory.taken ≡ [] = ap (λ (s : SinkState). s.taken) c.in-Ok.ensures in
    let kept : KeepsLoadPromise c.stopped.result c.args.first c.args.length o sink log =
    stopped c.args.first c.args.length o source memory sink log c.requires.put made (ap (λ (xs : List ℕ). Some xs) empty) c.in-Err.status c.stopped.result
    c.stopped.ensures.log c.stopped.ensures.other c.requires.uncut c.in-Err.ensures.stops (refl, refl) in
    record {
      promise = kept;
      line = load-line c.stopped.result c.args.first c.args.length o sink log kept;
      complete = load-completes c.stopped.result c.args.first c.args.length o sink log kept;
    }

-- no memory could be had for what the put would bring
pub returns-in_default-clause-promise : goal.returns-in_default-clause-promise
returns-in_default-clause-promise g c =
    unopened c.args.first c.args.length c.args.options.now (stream_of g.K.Sink.written g.K.Sink.faults c.args.sink.now c.args.sink.now)
    (stream_of g.L.Sink.written g.L.Sink.faults c.args.log.now c.args.log.now) c.requires.put c.requires.uncut c.requires.few (refl, refl)
    (λ source memory from to. keeps-unopened c.args.options.now source memory (stream_of g.L.Sink.written g.L.Sink.faults c.args.log.now c.args.log.now) c.requires.lawful c.credits-credits.ensures.lawful
    from to (refl, refl))
