use Rattle.std.proofs.Common.{◌≡◌, ℕ, ◌+◌, List, length, inl, inr, Ok, refl, sym, ap, ◌∙◌, subst, add-one, arith}
use Rattle.file_messages.specs.declared.job.Completion.{Completion}
use Rattle.page_workers.proofs.WentLemmas.{went-same, went-trans, has-run, finished-more}
use Rattle.page_workers.specs.declared.answer.One.{One}
use Rattle.page_workers.specs.Workers.{HasFinished, HasAnswered}
use Rattle.page_workers.proofs.worker.Worker.run.Goals as goal

pub loop-init : goal.loop-init
loop-init c = record { went = went-same c.args.self.now c.args.region.now c.args.region.now refl; tries = (refl, refl); count = omega arith }

pub returns-in-Ok-Held : goal.returns-in-Ok-Held
returns-in-Ok-Held c =
    has-run _ _ _ _ _ c.loop.counter
    (went-trans _ _ _ _ _ _ c.loop.invariant.went c.one.ensures.went)
    (ap (λ (cs : List Completion). length cs) (c.in-Ok-Held.ensures.none (λ e. let is = c.in-Ok-Held.field-0-is in let no : ⊥ = cc in no)) ∙ c.loop.invariant.count)
    (omega (arith, c.loop-test.true))
    (record { worker = c.loop.self; region = c.loop.region; finished = c.loop.invariant.tries; ends = inr (inl (subst (λ (o : One). HasAnswered o c.loop.self c.one.new.self c.loop.region c.one.new.region) c.in-Ok-Held.field-0-is c.in-Ok-Held.ensures.tried)) })
    (λ f h. inr (c.in-Ok-Held.ensures.held (ap Ok c.in-Ok-Held.field-0-is)))

pub returns-in-Ok-Idle : goal.returns-in-Ok-Idle
returns-in-Ok-Idle c =
    has-run _ _ _ _ _ c.loop.counter
    (went-trans _ _ _ _ _ _ c.loop.invariant.went c.one.ensures.went)
    (ap (λ (cs : List Completion). length cs) (c.in-Ok-Idle.ensures.none (λ e. let is = c.in-Ok-Idle.field-0-is in let no : ⊥ = cc in no)) ∙ c.loop.invariant.count)
    (omega (arith, c.loop-test.true))
    (record { worker = c.loop.self; region = c.loop.region; finished = c.loop.invariant.tries; ends = inr (inr (inl (subst (λ (o : One). HasAnswered o c.loop.self c.one.new.self c.loop.region c.one.new.region) c.in-Ok-Idle.field-0-is c.in-Ok-Idle.ensures.tried))) })
    (λ f h. inl (c.in-Ok-Idle.ensures.idle (ap Ok c.in-Ok-Idle.field-0-is)))

pub returns-in-Err : goal.returns-in-Err
returns-in-Err c =
    has-run _ _ _ _ _ c.loop.counter
    (went-trans _ _ _ _ _ _ c.loop.invariant.went c.one.ensures.went)
    (ap (λ (cs : List Completion). length cs) (c.in-Err.ensures.none (λ e. let no : ⊥ = cc in no)) ∙ c.loop.invariant.count)
    (omega (arith, c.loop-test.true))
    (record { worker = c.loop.self; region = c.loop.region; finished = c.loop.invariant.tries; ends = inr (inr (inr (refl, c.in-Err.ensures.untried))) })
    (λ f h. absurd (let no : ⊥ = cc in no))

pub loop-preserved : goal.loop-preserved
loop-preserved c =
    let one : length c.one.new.self.done ≡ length c.loop.self.done + 1 = c.in-Ok-Did.ensures.did (ap Ok c.in-Ok-Did.field-0-is) in
    record {
      went = went-trans _ _ _ _ _ _ c.loop.invariant.went c.one.ensures.went;
      tries = subst (λ (n : ℕ). HasFinished n c.args.self.now c.one.new.self c.args.region.now c.one.new.region) (sym (add-one c.loop.counter)) (finished-more c.loop.counter c.args.self.now c.loop.self c.one.new.self c.args.region.now c.loop.region c.one.new.region c.loop.invariant.tries
          (subst (λ (o : One). HasAnswered o c.loop.self c.one.new.self c.loop.region c.one.new.region) c.in-Ok-Did.field-0-is c.in-Ok-Did.ensures.tried));
      count = omega (arith, one, c.loop.invariant.count);
    }

pub returns : goal.returns
returns c =
    has-run _ _ _ _ _ c.loop.counter c.loop.invariant.went c.loop.invariant.count (omega (arith, c.loop-test.false, c.loop.auto.counter-end))
    (record { worker = c.loop.self; region = c.loop.region; finished = c.loop.invariant.tries; ends = inl (omega (arith, c.loop-test.false, c.loop.auto.counter-end), refl, refl) })
    (λ f h. absurd (omega (arith, h, c.loop-test.false)))
