use Rattle.std.proofs.Common.{◌≡◌, ◌+◌, ℕ, Some, None, ◌∷◌, refl, sym, ap, ◌∙◌, subst, arith}
use Rattle.buffer_descriptor.specs.declared.descriptor.Descriptor.{Descriptor}
use Rattle.file_messages.specs.declared.job.WorkResult.{WorkResult}
use Rattle.file_messages.specs.declared.job.WorkResult.TheVariants.{Loaded, Unloaded}
use Rattle.file_pasts.specs.ClientPast.{Completed, AnswersJob, page_unloaded}
use Rattle.file_pasts.specs.PutDue.{jobs_due}
use Rattle.file_transfer.specs.PutRegisteredStands.{RegisteredStand}
use Rattle.file_transfer.proofs.PutRegisteredLemmas.{closed-of, stand-other, taken_back}
use Rattle.file_transfer.proofs.put_registered.RegisteredGroups.completed.Goals as goal

kept_is : (a b d : ℕ) → a + 1 ≡ b → b ≡ d + 1 → a ≡ d
kept_is a b d e f = omega (arith, e, f)

pub loaded-requires : goal.loaded-requires
loaded-requires c =
    let r = c.requires in
    let s = r.stands in
    let a : AnswersJob r.past (record { number = c.args.completion.number; result = Loaded c.in-Loaded.descriptor }) =
    subst (λ (x : WorkResult). AnswersJob r.past (record { number = c.args.completion.number; result = x })) c.in-Loaded.is r.answers_it in
    record {
      windows = r.windows;
      past = r.past;
      number = c.args.completion.number;
      closed = closed-of r.windows r.past (record { number = c.args.completion.number; result = Loaded c.in-Loaded.descriptor }) c.args.self.now _ a s
          (λ came_due j. c.complete-freed.ensures.after came_due r.past a.work (record { number = c.args.completion.number; result = Loaded c.in-Loaded.descriptor }) j a.is_open refl)
          (c.complete-freed.ensures.kept (jobs_due r.windows r.past) r.past a.work s.due a.is_open) refl refl refl refl refl;
    }

pub returns-in-Loaded : goal.returns-in-Loaded
returns-in-Loaded c = λ w past s b.
    let a : AnswersJob past (record { number = c.args.completion.number; result = Loaded c.in-Loaded.descriptor }) =
    subst (λ (x : WorkResult). AnswersJob past (record { number = c.args.completion.number; result = x })) c.in-Loaded.is b in
    subst (λ (x : WorkResult). RegisteredStand w (Completed (record { number = c.args.completion.number; result = x }) ∷ past) c.loaded.new.self) (sym c.in-Loaded.is)
    (c.loaded.ensures w c.args.completion.number past
    (closed-of w past (record { number = c.args.completion.number; result = Loaded c.in-Loaded.descriptor }) c.args.self.now _ a s
    (λ came_due j. c.complete-freed.ensures.after came_due past a.work (record { number = c.args.completion.number; result = Loaded c.in-Loaded.descriptor }) j a.is_open refl)
    (c.complete-freed.ensures.kept (jobs_due w past) past a.work s.due a.is_open) refl refl refl refl refl))

pub unloaded-requires : goal.unloaded-requires
unloaded-requires c =
    let r = c.requires in
    let s = r.stands in
    let b = r.answers_it in
    let freed : page_unloaded (Some b.work) ≡ Some c.in-Some.page = sym (c.complete-freed.ensures.page (jobs_due r.windows r.past) r.past b.work s.due b.is_open) ∙ c.in-Some.is in
    let bytes = taken_back b.work c.in-Some.page c.args.completion.result b.fits freed in
    let a : AnswersJob r.past (record { number = c.args.completion.number; result = Unloaded bytes.0 }) =
    subst (λ (x : WorkResult). AnswersJob r.past (record { number = c.args.completion.number; result = x })) bytes.1 b in
    record {
      windows = r.windows;
      past = r.past;
      number = c.args.completion.number;
      bytes = bytes.0;
      closed = closed-of r.windows r.past (record { number = c.args.completion.number; result = Unloaded bytes.0 }) c.args.self.now _ a s
          (λ came_due j. c.complete-freed.ensures.after came_due r.past b.work (record { number = c.args.completion.number; result = Unloaded bytes.0 }) j b.is_open refl)
          (c.complete-freed.ensures.kept (jobs_due r.windows r.past) r.past b.work s.due b.is_open) refl refl refl refl refl;
      freed = ap page_unloaded b.is_open ∙ freed;
    }

pub returns-in-Some : goal.returns-in-Some
returns-in-Some c = λ w past s b.
    let freed : page_unloaded (Some b.work) ≡ Some c.in-Some.page = sym (c.complete-freed.ensures.page (jobs_due w past) past b.work s.due b.is_open) ∙ c.in-Some.is in
    let bytes = taken_back b.work c.in-Some.page c.args.completion.result b.fits freed in
    let a : AnswersJob past (record { number = c.args.completion.number; result = Unloaded bytes.0 }) =
    subst (λ (x : WorkResult). AnswersJob past (record { number = c.args.completion.number; result = x })) bytes.1 b in
    subst (λ (x : WorkResult). RegisteredStand w (Completed (record { number = c.args.completion.number; result = x }) ∷ past) c.unloaded.new.self) (sym bytes.1)
    (c.unloaded.ensures w c.args.completion.number bytes.0 past
    (closed-of w past (record { number = c.args.completion.number; result = Unloaded bytes.0 }) c.args.self.now _ a s
    (λ came_due j. c.complete-freed.ensures.after came_due past b.work (record { number = c.args.completion.number; result = Unloaded bytes.0 }) j b.is_open refl)
    (c.complete-freed.ensures.kept (jobs_due w past) past b.work s.due b.is_open) refl refl refl refl refl)
    (ap page_unloaded b.is_open ∙ freed))

pub returns : goal.returns
returns c = λ w past s b.
    let none : page_unloaded (Some b.work) ≡ None = sym (c.complete-freed.ensures.page (jobs_due w past) past b.work s.due b.is_open) ∙ c.in-None.is in
    stand-other w past c.args.completion c.args.self.now _ b s none (λ (d : Descriptor) e. c.in_default.not-Loaded d e)
    (λ came_due j. c.let_go.ensures.same came_due _ (c.complete-freed.ensures.after came_due past b.work c.args.completion j b.is_open refl))
    (kept_is c.let_go.new.self.kept c.complete-freed.new.self.kept c.args.self.now.jobs.kept c.let_go.ensures.kept (c.complete-freed.ensures.kept (jobs_due w past) past b.work s.due b.is_open))
    refl refl refl refl refl
