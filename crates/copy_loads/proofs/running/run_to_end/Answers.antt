use Rattle.std.proofs.Common.{refl, subst}
use Rattle.std.specs.Prelude.{IfOk, IfErr, OnOk}
use Rattle.smbd_outside.specs.declared.status.Status.{Status}
use Rattle.smbd_outside.specs.declared.status.Status.TheVariants.{Done}
use Rattle.copy_parts.specs.declared.options.CopyOptions.{CopyOptions}
use Rattle.end_workers.specs.Promise.{stream_of, KeepsPromise}
use Rattle.copy_loads.specs.Reports.{TellsAll}
use Rattle.copy_loads.proofs.Opened.{options-are, opened-so}
use Rattle.copy_loads.proofs.running.run_to_end.Goals as goal

pub run_opened-requires : goal.run_opened-requires
run_opened-requires g c = record { on = c.in-Ok.ensures.on; opened = opened-so c.args.options.now c.in-Ok.copy c.in-Ok.ensures.opened }

pub returns-clause-done : goal.returns-clause-done
returns-clause-done g c =
    let source = stream_of g.S.Source.left g.S.Source.faults c.args.source.now c.run_opened.new.source in
    let sink = stream_of g.K.Sink.written g.K.Sink.faults c.args.sink.now c.run_opened.new.sink in
    let log = stream_of g.L.Sink.written g.L.Sink.faults c.args.log.now c.run_opened.new.log in
    subst (λ (o : CopyOptions). OnOk c.run_opened.result (KeepsPromise Done o source sink log)) (options-are c.args.options.now c.in-Ok.copy c.in-Ok.ensures.opened) c.run_opened.ensures.done

pub returns-clause-stops : goal.returns-clause-stops
returns-clause-stops g c =
    let source = stream_of g.S.Source.left g.S.Source.faults c.args.source.now c.run_opened.new.source in
    let sink = stream_of g.K.Sink.written g.K.Sink.faults c.args.sink.now c.run_opened.new.sink in
    let log = stream_of g.L.Sink.written g.L.Sink.faults c.args.log.now c.run_opened.new.log in
    subst (λ (o : CopyOptions). IfErr c.run_opened.result (λ (status : Status). KeepsPromise status o source sink log))
    (options-are c.args.options.now c.in-Ok.copy c.in-Ok.ensures.opened) c.run_opened.ensures.stops

pub returns-clause-report : goal.returns-clause-report
returns-clause-report g c = λ bytes told.
    subst (λ (o : CopyOptions). IfOk c.run_opened.result (TellsAll o bytes)) (options-are c.args.options.now c.in-Ok.copy c.in-Ok.ensures.opened) (c.run_opened.ensures.report bytes told)

pub returns-in_default-clause-stops : goal.returns-in_default-clause-stops
returns-in_default-clause-stops g c =
    c.in_default.ensures.stops (stream_of g.S.Source.left g.S.Source.faults c.args.source.now c.args.source.now) (stream_of g.K.Sink.written g.K.Sink.faults c.args.sink.now c.args.sink.now)
    (stream_of g.L.Sink.written g.L.Sink.faults c.args.log.now c.args.log.now) (refl, refl) (refl, refl) (refl, refl)
