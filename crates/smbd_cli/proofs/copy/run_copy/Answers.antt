use Rattle.end_workers.specs.Promise.{stream_of}
use Rattle.smbd_cli.proofs.Named.{succeeds-copy}
use Rattle.smbd_cli.proofs.copy.run_copy.Goals as goal

pub returns-in-Err-clause-complete : goal.returns-in-Err-clause-complete
returns-in-Err-clause-complete g c =
    succeeds-copy c.in-Err.status c.args.command.now c.in-Copy.options (stream_of g.S.Source.left g.S.Source.faults c.args.source.now c.run_to_end.new.source)
    (stream_of g.K.Sink.written g.K.Sink.faults c.args.sink.now c.run_to_end.new.sink) (stream_of g.L.Sink.written g.L.Sink.faults c.args.log.now c.run_to_end.new.log)
    c.in-Copy.is c.in-Err.ensures.stops
