use Rattle.std.proofs.Common.{◌≡◌, ℕ, List, length, inl, inr, Ok, refl, sym, ap, ◌∙◌, subst, add-one, arith}
use Rattle.file_messages.specs.declared.job.Completion.{Completion}
use Rattle.shared_pages.specs.Calls.{opening_of}
use Rattle.shared_workers.specs.declared.answer.One.{One}
use Rattle.shared_workers.specs.Workers.{HasFinished, HasAnswered}
use Rattle.shared_workers.proofs.WentLemmas.{went-same, went-trans}
use Rattle.shared_workers.proofs.AnswerLemmas.{held-tells, finished-more, has-run}
use Rattle.shared_workers.proofs.worker.Worker.run.Goals as goal

pub loop-init : goal.loop-init
loop-init c = record {
  own = c.requires.own;
  few = omega arith;
  went = went-same c.args.self.now;
  tries = refl;
  count = omega arith;
  full = λ h. absurd (omega (arith, h));
}

pub returns-in-Ok-Held-clause-run : goal.returns-in-Ok-Held-clause-run
returns-in-Ok-Held-clause-run c =
    let held = subst (λ (o : One). HasAnswered (opening_of c.args.region.now.pages) o c.loop.self c.one.new.self) c.in-Ok-Held.field-0-is c.in-Ok-Held.ensures.tried in
    let kept = held-tells (opening_of c.args.region.now.pages) c.loop.self c.one.new.self held in
    has-run (opening_of c.args.region.now.pages) _ c.loop.counter c.args.self.now c.one.new.self
    (went-trans c.args.self.now c.loop.self c.one.new.self c.loop.invariant.went c.one.ensures.went)
    (ap (λ (cs : List Completion). length cs) (c.in-Ok-Held.ensures.none (λ e. let is = c.in-Ok-Held.field-0-is in let no : ⊥ = cc in no)) ∙ c.loop.invariant.count)
    (omega (arith, c.loop-test.true))
    (record { worker = c.loop.self; finished = c.loop.invariant.tries; ends = inr (inl held) })
    (λ f h. inr (inl kept.1))
    c.one.ensures.sent

pub returns-in-Ok-Idle-clause-run : goal.returns-in-Ok-Idle-clause-run
returns-in-Ok-Idle-clause-run c =
    let idle = subst (λ (o : One). HasAnswered (opening_of c.args.region.now.pages) o c.loop.self c.one.new.self) c.in-Ok-Idle.field-0-is c.in-Ok-Idle.ensures.tried in
    has-run (opening_of c.args.region.now.pages) _ c.loop.counter c.args.self.now c.one.new.self
    (went-trans c.args.self.now c.loop.self c.one.new.self c.loop.invariant.went c.one.ensures.went)
    (ap (λ (cs : List Completion). length cs) (c.in-Ok-Idle.ensures.none (λ e. let is = c.in-Ok-Idle.field-0-is in let no : ⊥ = cc in no)) ∙ c.loop.invariant.count)
    (omega (arith, c.loop-test.true))
    (record { worker = c.loop.self; finished = c.loop.invariant.tries; ends = inr (inr (inl idle)) })
    (λ f h. inl idle.1)
    c.one.ensures.sent

pub returns-in-Ok-Full-clause-run : goal.returns-in-Ok-Full-clause-run
returns-in-Ok-Full-clause-run c =
    let full = subst (λ (o : One). HasAnswered (opening_of c.args.region.now.pages) o c.loop.self c.one.new.self) c.in-Ok-Full.field-0-is c.in-Ok-Full.ensures.tried in
    has-run (opening_of c.args.region.now.pages) _ c.loop.counter c.args.self.now c.one.new.self
    (went-trans c.args.self.now c.loop.self c.one.new.self c.loop.invariant.went c.one.ensures.went)
    (ap (λ (cs : List Completion). length cs) (c.in-Ok-Full.ensures.none (λ e. let is = c.in-Ok-Full.field-0-is in let no : ⊥ = cc in no)) ∙ c.loop.invariant.count)
    (omega (arith, c.loop-test.true))
    (record { worker = c.loop.self; finished = c.loop.invariant.tries; ends = inr (inr (inr (inl full))) })
    (λ f h. inr (inr full.1.1))
    c.one.ensures.sent

pub returns-in-Err-clause-run : goal.returns-in-Err-clause-run
returns-in-Err-clause-run c =
    has-run (opening_of c.args.region.now.pages) _ c.loop.counter c.args.self.now c.one.new.self
    (went-trans c.args.self.now c.loop.self c.one.new.self c.loop.invariant.went c.one.ensures.went)
    (ap (λ (cs : List Completion). length cs) (c.in-Err.ensures.none (λ e. let no : ⊥ = cc in no)) ∙ c.loop.invariant.count)
    (omega (arith, c.loop-test.true))
    (record { worker = c.loop.self; finished = c.loop.invariant.tries; ends = inr (inr (inr (inr (refl, c.in-Err.ensures.untried)))) })
    (λ f h. absurd (let no : ⊥ = cc in no))
    c.one.ensures.sent

pub loop-preserved : goal.loop-preserved
loop-preserved c =
    let one = c.in-Ok-Did.ensures.did (ap Ok c.in-Ok-Did.field-0-is) in
    let did = subst (λ (o : One). HasAnswered (opening_of c.args.region.now.pages) o c.loop.self c.one.new.self) c.in-Ok-Did.field-0-is c.in-Ok-Did.ensures.tried in
    record {
      own = c.one.ensures.own;
      few = omega (arith, c.one.ensures.few, c.loop.invariant.few);
      went = went-trans c.args.self.now c.loop.self c.one.new.self c.loop.invariant.went c.one.ensures.went;
      tries = subst (λ (n : ℕ). HasFinished (opening_of c.args.region.now.pages) n c.args.self.now c.one.new.self) (sym (add-one c.loop.counter))
          (finished-more (opening_of c.args.region.now.pages) c.loop.counter c.args.self.now c.loop.self c.one.new.self c.loop.invariant.tries did);
      count = omega (arith, one, c.loop.invariant.count);
      full = λ h. c.one.ensures.sent;
    }

pub returns-clause-run : goal.returns-clause-run
returns-clause-run c =
    let sixteen : c.loop.counter ≡ 16 = omega (arith, c.loop-test.false, c.loop.auto.counter-end) in
    has-run (opening_of c.args.region.now.pages) _ c.loop.counter c.args.self.now c.loop.self c.loop.invariant.went c.loop.invariant.count
    (omega (arith, sixteen))
    (record { worker = c.loop.self; finished = c.loop.invariant.tries; ends = inl (sixteen, refl) })
    (λ f h. absurd (omega (arith, h, sixteen)))
    (c.loop.invariant.full (omega (arith, sixteen)))
