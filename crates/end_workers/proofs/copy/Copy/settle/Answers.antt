use Rattle.smbd_outside.specs.declared.status.Status.{Status}
use Rattle.end_workers.specs.Barriers.{StopsBy}
use Rattle.end_workers.specs.Progress.{moved}
use Rattle.end_workers.specs.Promise.{Stream}
use Rattle.end_workers.proofs.HandedOn.{handed-on}
use Rattle.end_workers.proofs.LogsStopping.{not-moved}
use Rattle.end_workers.proofs.Ended.{ended-by}
use Rattle.end_workers.proofs.copy.Copy.settle.Goals as goal

pub returns-clause-settles : goal.returns-clause-settles
returns-clause-settles g c = λ o from to told from_was from_count to_was to_count told_was told_count going.
    let source = moved from (g.S.Source.left c.read.new.source) (g.S.Source.faults c.read.new.source) in
    let sink = moved to (g.K.Sink.written c.store.new.sink) (g.K.Sink.faults c.store.new.sink) in
    let log = moved told (g.L.Sink.written c.tell.new.log) (g.L.Sink.faults c.tell.new.log) in
    let settled = c.in_ok-tell.ensures.tells o from to told told_was told_count (c.hand.ensures.hands o from to told going) in
    let stored = c.in_ok-store.ensures.stores o from to log to_was to_count settled in
    let uncut = c.in_ok-stop_if_cut.ensures.goes_on o from sink log stored in
    let read = c.in_ok-read.ensures.reads o from sink log from_was from_count uncut in
    let given = c.in_ok-give.ensures.gives o source sink log read in
    ended-by c.finished.result o source sink log c.give.new.self given (c.finished.ensures o given.settled.past given.settled.so_far.stands)

pub returns-in_err-tell-clause-stops : goal.returns-in_err-tell-clause-stops
returns-in_err-tell-clause-stops g c = λ o from to told from_was from_count to_was to_count told_was told_count going.
    let source = moved from (g.S.Source.left c.args.source.now) (g.S.Source.faults c.args.source.now) in
    let sink = moved to (g.K.Sink.written c.args.sink.now) (g.K.Sink.faults c.args.sink.now) in
    let log = moved told (g.L.Sink.written c.tell.new.log) (g.L.Sink.faults c.tell.new.log) in
    let status = c.in_err-tell.field-0.0 in
    handed-on c.from_residual.result status (λ (s : Status). StopsBy s o source sink log c.tell.new.self) c.from_residual.ensures.1
    (not-moved (λ (x : Stream). StopsBy status o x sink log c.tell.new.self) from (g.S.Source.left c.args.source.now) (g.S.Source.faults c.args.source.now) from_was from_count
    (not-moved (λ (x : Stream). StopsBy status o from x log c.tell.new.self) to (g.K.Sink.written c.args.sink.now) (g.K.Sink.faults c.args.sink.now) to_was to_count
    (c.in_err-tell.ensures.stops o from to told told_was told_count (c.hand.ensures.hands o from to told going), λ cut. absurd (c.in_err-tell.ensures.no_cut cut))))

pub returns-in_err-store-clause-stops : goal.returns-in_err-store-clause-stops
returns-in_err-store-clause-stops g c = λ o from to told from_was from_count to_was to_count told_was told_count going.
    let source = moved from (g.S.Source.left c.args.source.now) (g.S.Source.faults c.args.source.now) in
    let sink = moved to (g.K.Sink.written c.store.new.sink) (g.K.Sink.faults c.store.new.sink) in
    let log = moved told (g.L.Sink.written c.tell.new.log) (g.L.Sink.faults c.tell.new.log) in
    let settled = c.in_ok-tell.ensures.tells o from to told told_was told_count (c.hand.ensures.hands o from to told going) in
    let status = c.in_err-store.field-0.0 in
    handed-on c.from_residual-in_err-store.result status (λ (s : Status). StopsBy s o source sink log c.store.new.self) c.from_residual-in_err-store.ensures.1
    (not-moved (λ (x : Stream). StopsBy status o x sink log c.store.new.self) from (g.S.Source.left c.args.source.now) (g.S.Source.faults c.args.source.now) from_was from_count
    (c.in_err-store.ensures.stops o from to log to_was to_count settled, λ cut. absurd (c.in_err-store.ensures.no_cut cut)))

pub returns-in_err-stop_if_cut-clause-stops : goal.returns-in_err-stop_if_cut-clause-stops
returns-in_err-stop_if_cut-clause-stops g c = λ o from to told from_was from_count to_was to_count told_was told_count going.
    let source = moved from (g.S.Source.left c.args.source.now) (g.S.Source.faults c.args.source.now) in
    let sink = moved to (g.K.Sink.written c.store.new.sink) (g.K.Sink.faults c.store.new.sink) in
    let log = moved told (g.L.Sink.written c.tell.new.log) (g.L.Sink.faults c.tell.new.log) in
    let settled = c.in_ok-tell.ensures.tells o from to told told_was told_count (c.hand.ensures.hands o from to told going) in
    let stored = c.in_ok-store.ensures.stores o from to log to_was to_count settled in
    let status = c.in_err-stop_if_cut.field-0.0 in
    handed-on c.from_residual-in_err-stop_if_cut.result status (λ (s : Status). StopsBy s o source sink log c.store.new.self) c.from_residual-in_err-stop_if_cut.ensures.1
    (not-moved (λ (x : Stream). StopsBy status o x sink log c.store.new.self) from (g.S.Source.left c.args.source.now) (g.S.Source.faults c.args.source.now) from_was from_count
    (c.in_err-stop_if_cut.ensures.stops o from sink log stored, λ cut. stored))

pub returns-in_err-read-clause-stops : goal.returns-in_err-read-clause-stops
returns-in_err-read-clause-stops g c = λ o from to told from_was from_count to_was to_count told_was told_count going.
    let source = moved from (g.S.Source.left c.read.new.source) (g.S.Source.faults c.read.new.source) in
    let sink = moved to (g.K.Sink.written c.store.new.sink) (g.K.Sink.faults c.store.new.sink) in
    let log = moved told (g.L.Sink.written c.tell.new.log) (g.L.Sink.faults c.tell.new.log) in
    let settled = c.in_ok-tell.ensures.tells o from to told told_was told_count (c.hand.ensures.hands o from to told going) in
    let stored = c.in_ok-store.ensures.stores o from to log to_was to_count settled in
    let uncut = c.in_ok-stop_if_cut.ensures.goes_on o from sink log stored in
    handed-on c.from_residual-in_err-read.result c.in_err-read.field-0.0 (λ (s : Status). StopsBy s o source sink log c.read.new.self) c.from_residual-in_err-read.ensures.1
    (c.in_err-read.ensures.stops o from sink log from_was from_count uncut, λ cut. absurd (c.in_err-read.ensures.no_cut cut))

pub returns-in_err-give-clause-stops : goal.returns-in_err-give-clause-stops
returns-in_err-give-clause-stops g c = λ o from to told from_was from_count to_was to_count told_was told_count going.
    let source = moved from (g.S.Source.left c.read.new.source) (g.S.Source.faults c.read.new.source) in
    let sink = moved to (g.K.Sink.written c.store.new.sink) (g.K.Sink.faults c.store.new.sink) in
    let log = moved told (g.L.Sink.written c.tell.new.log) (g.L.Sink.faults c.tell.new.log) in
    let settled = c.in_ok-tell.ensures.tells o from to told told_was told_count (c.hand.ensures.hands o from to told going) in
    let stored = c.in_ok-store.ensures.stores o from to log to_was to_count settled in
    let uncut = c.in_ok-stop_if_cut.ensures.goes_on o from sink log stored in
    let read = c.in_ok-read.ensures.reads o from sink log from_was from_count uncut in
    handed-on c.from_residual-in_err-give.result c.in_err-give.field-0.0 (λ (s : Status). StopsBy s o source sink log c.give.new.self) c.from_residual-in_err-give.ensures.1
    (c.in_err-give.ensures.stops o source sink log read, λ cut. absurd (c.in_err-give.ensures.no_cut cut))
