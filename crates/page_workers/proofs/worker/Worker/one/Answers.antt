use Rattle.std.proofs.Common.{◌≡◌, Bool, sym, subst}
use Rattle.registration.specs.Regions.{RegionState}
use Rattle.page_workers.specs.Workers.{WorkerState, WentOn, TriedOnce, next_kept}
use Rattle.page_workers.proofs.WentLemmas.{went-keep, went-same, went-trans, went-tried, held-tried}
use Rattle.page_workers.proofs.worker.Worker.one.Goals as goal

kept : (a b : WorkerState) (r : RegionState) → b ≡ next_kept a → WentOn a b r r
kept a b r next = subst (λ (w : WorkerState). WentOn a w r r) (sym next) (went-keep a r)

pub returns-then-not-keep_next-clause-went : goal.returns-then-not-keep_next-clause-went
returns-then-not-keep_next-clause-went c = kept c.args.self.now c.keep_next.new.self c.args.region.now c.keep_next.ensures.next

pub returns-in_err-try_kept-clause-went : goal.returns-in_err-try_kept-clause-went
returns-in_err-try_kept-clause-went c =
    went-trans c.args.self.now c.keep_next.new.self c.try_kept.new.self c.args.region.now c.args.region.now c.try_kept.new.region
    (kept c.args.self.now c.keep_next.new.self c.args.region.now c.keep_next.ensures.next)
    (subst (λ (w : WorkerState). WentOn c.keep_next.new.self w c.args.region.now c.try_kept.new.region) (sym c.in_err-try_kept.ensures.same)
    (went-same c.keep_next.new.self c.args.region.now c.try_kept.new.region c.in_err-try_kept.ensures.region))

pub returns-then-branch-clause-went : goal.returns-then-branch-clause-went
returns-then-branch-clause-went c =
    went-trans c.args.self.now c.keep_next.new.self c.try_kept.new.self c.args.region.now c.args.region.now c.try_kept.new.region
    (kept c.args.self.now c.keep_next.new.self c.args.region.now c.keep_next.ensures.next)
    (went-tried c.keep_next.new.self c.try_kept.new.self c.args.region.now c.try_kept.new.region c.in_ok-try_kept.field-0 c.in_ok-try_kept.ensures.tried)

pub returns-else-branch-clause-went : goal.returns-else-branch-clause-went
returns-else-branch-clause-went c =
    went-trans c.args.self.now c.keep_next.new.self c.try_kept.new.self c.args.region.now c.args.region.now c.try_kept.new.region
    (kept c.args.self.now c.keep_next.new.self c.args.region.now c.keep_next.ensures.next)
    (went-tried c.keep_next.new.self c.try_kept.new.self c.args.region.now c.try_kept.new.region c.in_ok-try_kept.field-0 c.in_ok-try_kept.ensures.tried)

pub returns-else-branch-clause-held : goal.returns-else-branch-clause-held
returns-else-branch-clause-held c = λ same.
    held-tried c.keep_next.new.self c.try_kept.new.self c.args.region.now c.try_kept.new.region
    (subst (λ (f : Bool). TriedOnce c.keep_next.new.self c.try_kept.new.self c.args.region.now c.try_kept.new.region f) c.if-branch.false c.in_ok-try_kept.ensures.tried)
