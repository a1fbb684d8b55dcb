use Rattle.std.proofs.Common.{◌∙◌}
use Rattle.smbd_outside.specs.declared.status.Status.TheVariants.{LogFault, NoMemory}
use Rattle.copy_log.specs.Laws.{news_text}
use Rattle.end_workers.specs.News.{news}
use Rattle.end_workers.specs.Promise.{Stream, KeepsPromise}
use Rattle.end_workers.proofs.LogsTold.{tells, tells-on}
use Rattle.end_workers.proofs.LogsStopping.{not-moved, front-written}
use Rattle.end_workers.proofs.Untold.{telling-stops, news-cut}
use Rattle.end_workers.proofs.copy.Copy.tell.Goals as goal

pub returns-in_default-clause-stops : goal.returns-in_default-clause-stops
returns-in_default-clause-stops g c = λ o from to told was count handed.
    not-moved (λ (log : Stream). KeepsPromise NoMemory o from to log) told (g.L.Sink.written c.args.log.now) (g.L.Sink.faults c.args.log.now) was count
    (telling-stops o from to told c.args.self.now handed)

pub returns-in-Err-clause-stops : goal.returns-in-Err-clause-stops
returns-in-Err-clause-stops g c = λ o from to told was count handed.
    let a = c.args.self.now in
    front-written (λ (log : Stream). KeepsPromise LogFault o from to log) told (news_text (news a.client_told a.server_told c.history.result.now c.history-2.result.now a.parts)) c.as_bytes.result.now
    (g.L.Sink.written c.args.log.now) (g.L.Sink.written c.write_whole.new.sink) (g.L.Sink.faults c.args.log.now) (g.L.Sink.faults c.write_whole.new.sink)
    (λ front got begins rose. news-cut o from to told a handed c.history.result.now c.history-2.result.now front (g.L.Sink.written c.write_whole.new.sink) (g.L.Sink.faults c.write_whole.new.sink)
    c.history.ensures c.history-2.ensures got begins rose)
    was count (c.as_bytes.ensures.value ∙ c.in-Ok.ensures.text) c.in-Err.ensures.front c.in-Err.ensures.cause.failed

pub returns-clause-on : goal.returns-clause-on
returns-clause-on g c =
    tells-on c.args.self.now c.clear_lines.new.self c.in-Ok.news.client_told c.in-Ok.news.server_told c.history.result.now c.history-2.result.now c.requires c.clear_lines.ensures
    c.history.ensures c.history-2.ensures c.in-Ok.ensures.client c.in-Ok.ensures.server

pub returns-clause-tells : goal.returns-clause-tells
returns-clause-tells g c = λ o from to told was count handed.
    tells o from to told c.args.self.now c.clear_lines.new.self c.in-Ok.news.client_told c.in-Ok.news.server_told c.history.result.now c.history-2.result.now c.as_bytes.result.now
    (g.L.Sink.written c.args.log.now) (g.L.Sink.written c.write_whole.new.sink) (g.L.Sink.faults c.args.log.now) (g.L.Sink.faults c.write_whole.new.sink) was count handed c.clear_lines.ensures
    c.history.ensures c.history-2.ensures c.in-Ok.ensures.client c.in-Ok.ensures.server (c.as_bytes.ensures.value ∙ c.in-Ok.ensures.text) c.in-Ok-write_whole.ensures.whole
    c.in-Ok-write_whole.ensures.cause.later
