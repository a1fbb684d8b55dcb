use Rattle.std.proofs.Common.{rules, sym, subst}
use Rattle.shared_pages.specs.Calls.{opening_of}
use Rattle.shared_workers.specs.Workers.{WorkerState, WentOn}
use Rattle.shared_workers.proofs.WentLemmas.{went-send, went-idle, went-keep, went-try, went-trans}
use Rattle.shared_workers.proofs.worker.Worker.one.Goals as goal

pub returns-then-not-send_unsent-clause-went : goal.returns-then-not-send_unsent-clause-went
returns-then-not-send_unsent-clause-went c =
    let s = c.send_unsent.ensures in went-send c.args.self.now c.send_unsent.new.self s.same s.ring s.told s.sent.0 s.sent.1 s.room

pub returns-then-not-keep_next-clause-went : goal.returns-then-not-keep_next-clause-went
returns-then-not-keep_next-clause-went c =
    let s = c.send_unsent.ensures in
    let k = c.keep_next.ensures in
    let none = c.if-not-keep_next.ensures.none in
    went-trans c.args.self.now c.send_unsent.new.self c.keep_next.new.self
    (went-send c.args.self.now c.send_unsent.new.self s.same s.ring s.told s.sent.0 s.sent.1 s.room)
    (went-idle c.send_unsent.new.self c.keep_next.new.self k.same k.ring (search rules) (search rules))

pub returns-in_err-try_kept-clause-went : goal.returns-in_err-try_kept-clause-went
returns-in_err-try_kept-clause-went c =
    let s = c.send_unsent.ensures in
    let k = c.keep_next.ensures in
    subst (λ (w : WorkerState). WentOn c.args.self.now w) (sym c.in_err-try_kept.ensures.same)
    (went-trans c.args.self.now c.send_unsent.new.self c.keep_next.new.self
    (went-send c.args.self.now c.send_unsent.new.self s.same s.ring s.told s.sent.0 s.sent.1 s.room)
    (went-keep c.send_unsent.new.self c.keep_next.new.self k.same k.ring (k.kept c.if-not-keep_next.false)))

pub returns-then-branch-clause-went : goal.returns-then-branch-clause-went
returns-then-branch-clause-went c =
    let s = c.send_unsent.ensures in
    let k = c.keep_next.ensures in
    went-trans c.args.self.now c.keep_next.new.self c.try_kept.new.self
    (went-trans c.args.self.now c.send_unsent.new.self c.keep_next.new.self
    (went-send c.args.self.now c.send_unsent.new.self s.same s.ring s.told s.sent.0 s.sent.1 s.room)
    (went-keep c.send_unsent.new.self c.keep_next.new.self k.same k.ring (k.kept c.if-not-keep_next.false)))
    (went-try (opening_of c.args.region.now.pages) c.keep_next.new.self c.try_kept.new.self c.in_ok-try_kept.field-0 c.in_ok-try_kept.ensures.tried)

pub returns-else-branch-clause-went : goal.returns-else-branch-clause-went
returns-else-branch-clause-went c =
    let s = c.send_unsent.ensures in
    let k = c.keep_next.ensures in
    went-trans c.args.self.now c.keep_next.new.self c.try_kept.new.self
    (went-trans c.args.self.now c.send_unsent.new.self c.keep_next.new.self
    (went-send c.args.self.now c.send_unsent.new.self s.same s.ring s.told s.sent.0 s.sent.1 s.room)
    (went-keep c.send_unsent.new.self c.keep_next.new.self k.same k.ring (k.kept c.if-not-keep_next.false)))
    (went-try (opening_of c.args.region.now.pages) c.keep_next.new.self c.try_kept.new.self c.in_ok-try_kept.field-0 c.in_ok-try_kept.ensures.tried)
