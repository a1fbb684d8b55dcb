use Rattle.std.proofs.Common.{refl}
use Rattle.end_workers.specs.Promise.{stream_of}
use Rattle.smbd_cli.proofs.Named.{keeps-unread, named}
use Rattle.command_words.specs.Command.{command_of}
use Rattle.smbd_cli.proofs.program.run.Goals as goal

-- memory was wanting for the words
pub returns-in-Err-clause-promise : goal.returns-in-Err-clause-promise
returns-in-Err-clause-promise g c = λ command is.
    keeps-unread command (stream_of g.S.Source.left g.S.Source.faults c.args.source.now c.args.source.now)
    (stream_of g.K.Sink.written g.K.Sink.faults c.args.sink.now c.args.sink.now) (stream_of g.L.Sink.written g.L.Sink.faults c.args.log.now c.args.log.now)
    (named (command_of c.args.words.now) command c.command_of.ensures.asked is) (refl, refl) (refl, refl) (refl, refl)
