use Rattle.std.proofs.Common.{◌≡◌, ◌∙◌, true, Some, sym}
use Rattle.file_server.specs.ServerStands.{lasts}
use Rattle.file_server.proofs.ServerAsked.{judged-first, after-either, after-lasting, lasting, came-still_refused, came-refused}
use Rattle.file_server.proofs.server.FileServer.request.Goals as goal

pub returns-in-Some-clause-after : goal.returns-in-Some-clause-after
returns-in-Some-clause-after c = λ kind past came.
    after-either kind past c.args.self.now c.args.message.now c.in-Some.fault came (came-still_refused kind past c.args.self.now c.args.message.now c.in-Some.fault came c.in-Some.is).1

pub accept-requires : goal.accept-requires
accept-requires c = record {
  kind = c.requires.kind;
  past = c.requires.past;
  came = c.requires.came;
  message = c.args.message.now;
  accepted = judged-first c.requires.kind c.requires.past c.args.self.now c.args.message.now c.requires.came c.in_default.is ∙ c.in-Ok.ensures.ok c.requires.kind c.requires.past c.requires.came;
}

pub returns-in_ok-accept-in-Ok-clause-after : goal.returns-in_ok-accept-in-Ok-clause-after
returns-in_ok-accept-in-Ok-clause-after c = λ kind past came.
    c.in_ok-accept-in-Ok.ensures.accepted kind past c.args.message.now came
    (judged-first kind past c.args.self.now c.args.message.now came c.in_default.is ∙ c.in-Ok.ensures.ok kind past came)

pub returns-then-lasts-clause-after : goal.returns-then-lasts-clause-after
returns-then-lasts-clause-after c = λ kind past came.
    let met : lasts c.in-Err.fault ≡ true = sym c.lasts.ensures ∙ c.if-lasts.true in
    let first = judged-first kind past c.args.self.now c.args.message.now came c.in_default.is in
    after-lasting kind past (record c.args.self.now { fault = Some c.in-Err.fault }) c.args.message.now c.in-Err.fault met
    (came-refused kind past c.args.self.now c.args.message.now c.in-Err.fault came (first ∙ lasting c.in-Err.fault _ met (c.in-Err.ensures.refused kind past came)))
