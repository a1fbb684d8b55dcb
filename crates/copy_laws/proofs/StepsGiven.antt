-- The workers of one end after one of them was given a job.
use Rattle.std.proofs.Common.{◌≡◌, ℕ, ◌+◌, ◌%◌, ◌<◌, ◌==◌, Bool, true, false, cond, Option, Some, List, [], ◌∷◌, ◌++◌, length, reverse, refl, sym, ap, ◌∙◌, subst, arith, ⊎_elim}
use Rattle.std.specs.Prelude.{slice_get, slice_set}
use Rattle.std.proofs.lemmas.List.{append-nil, length-set}
use Rattle.std.proofs.lemmas.Bool.Decides.{nat_tests}
use Rattle.smbd_base.specs.Pages.{Entry}
use Rattle.smbd_base.specs.PagesFit.{events_by}
use Rattle.file_messages.specs.declared.job.Work.{Work}
use Rattle.file_messages.specs.declared.job.Job.{Job}
use Rattle.file_messages.specs.declared.job.Completion.{Completion}
use Rattle.page_workers.specs.Runs.{JobRun}
use Rattle.page_workers.specs.Turns.{page_of_work}
use Rattle.page_workers.specs.Workers.{WorkerState}
use Rattle.page_workers.proofs.JobLaws.{given-wait}
use Rattle.copy_laws.specs.Shares.{is_for, jobs_for, is_some_for, is_answer_of, completions_of}
use Rattle.copy_laws.specs.Coupled.{IsWorker, AreWorkers}
use Rattle.copy_laws.specs.Steps.{with_job}
use Rattle.copy_laws.proofs.Eaches.{Each}
use Rattle.copy_laws.proofs.Shares.{one_for, jobs_for-more}
use Rattle.copy_laws.proofs.StepsLists.{set-cases, get-front}

-- ---- which worker a job is for

pub own-job : (workers place : ℕ) (work : Work) → place ≡ page_of_work work % workers → is_for workers (place + 1) work ≡ true
own-job workers place work h = same (page_of_work work % workers + 1) (place + 1) (ap (λ (n : ℕ). n + 1) (sym h)) where
  same : (a b : ℕ) → a ≡ b → (a == b) ≡ true
  same a b h = grind (arith, nat_tests)

pub other-job : (workers place : ℕ) (work : Work) → (place ≡ page_of_work work % workers → ⊥) → is_for workers (place + 1) work ≡ false
other-job workers place work h = differ (page_of_work work % workers) place (λ same. h (sym same)) where
  differ : (a b : ℕ) → (a ≡ b → ⊥) → (a + 1 == b + 1) ≡ false
  differ a b h = by_test (a + 1 == b + 1) refl where
    by_test : (t : Bool) → (a + 1 == b + 1) ≡ t → (a + 1 == b + 1) ≡ false
    by_test true e = absurd (h (let same : a + 1 ≡ b + 1 = grind (arith, nat_tests) in omega (arith, same)))
    by_test false e = e

-- the place of the worker that a job is for
pub place-of : (workers place : ℕ) (work : Work) → is_for workers (place + 1) work ≡ true → place ≡ page_of_work work % workers
place-of workers place work h = same (page_of_work work % workers) place h where
  same : (a b : ℕ) → (a + 1 == b + 1) ≡ true → b ≡ a
  same a b h = (let e : a + 1 ≡ b + 1 = grind (arith, nat_tests) in omega (arith, e))

-- ---- one more job

-- the completion is of a job that was given
abbrev pub IsGiven : List Work → Completion → Type 0
IsGiven works c = c.number < length works

answer-more : (n q : ℕ) (works : List Work) (work : Work) (c : Completion) → IsGiven works c → is_answer_of n q (works ++ work ∷ []) c ≡ is_answer_of n q works c
answer-more n q works work c h = ap (λ (o : Option Work). is_some_for n q o) (get-front works (work ∷ []) c.number h)

completions-more : (n q : ℕ) (works : List Work) (work : Work) (handed : List Completion) → Each (IsGiven works) handed
    → completions_of n q (works ++ work ∷ []) handed ≡ completions_of n q works handed
completions-more n q works work [] h = refl
completions-more n q works work (c ∷ later) h =
    ap (λ (t : Bool). cond t (c ∷ completions_of n q (works ++ work ∷ []) later) (completions_of n q (works ++ work ∷ []) later)) (answer-more n q works work c h.0)
    ∙ ap (λ (cs : List Completion). cond (is_answer_of n q works c) (c ∷ cs) cs) (completions-more n q works work later h.1)

abbrev job_alone : ℕ → Work → List Job
job_alone n work = (record { number = n; work = work }) ∷ []

module _ (workers first place : ℕ) (works : List Work) (handed : List Completion) (pool : List Entry) (w : WorkerState) (h : IsWorker workers first place works handed pool w) where
  gives-own : (work : Work) → Each (IsGiven works) handed → place ≡ page_of_work work % workers
      → IsWorker workers first place (works ++ work ∷ []) handed pool (with_job (record { number = length works; work = work }) w)
  gives-own work given here =
      let j : Job = record { number = length works; work = work } in
      let last : one_for workers (place + 1) (0 + length works) work ≡ j ∷ [] =
      ap (λ (t : Bool). cond {A = List Job} t ((record { number = 0 + length works; work = work }) ∷ []) []) (own-job workers place work here)
      ∙ ap (λ (n : ℕ). job_alone n work) (let z : 0 + length works ≡ length works = omega arith in z) in
      let more : jobs_for workers (place + 1) 0 (works ++ work ∷ []) ≡ jobs_for workers (place + 1) 0 works ++ j ∷ [] =
      jobs_for-more workers (place + 1) 0 works work ∙ ap (λ (js : List Job). jobs_for workers (place + 1) 0 works ++ js) last in
      record {
        number = h.number;
        pass = h.pass;
        did = subst (λ (js : List Job). JobRun w.kept (w.waiting ++ j ∷ []) js (completions_of workers (place + 1) (works ++ work ∷ []) handed ++ w.done) (reverse (events_by (first + place) pool))) (sym more)
            (subst (λ (cs : List Completion). JobRun w.kept (w.waiting ++ j ∷ []) (jobs_for workers (place + 1) 0 works ++ j ∷ []) (cs ++ w.done) (reverse (events_by (first + place) pool)))
            (sym (completions-more workers (place + 1) works work handed given))
            (given-wait w.kept w.waiting (jobs_for workers (place + 1) 0 works) (completions_of workers (place + 1) works handed ++ w.done) (reverse (events_by (first + place) pool)) j h.did));
      }

  gives-other : (work : Work) → Each (IsGiven works) handed → (place ≡ page_of_work work % workers → ⊥) → IsWorker workers first place (works ++ work ∷ []) handed pool w
  gives-other work given other =
      let more : jobs_for workers (place + 1) 0 (works ++ work ∷ []) ≡ jobs_for workers (place + 1) 0 works =
      jobs_for-more workers (place + 1) 0 works work
      ∙ ap (λ (t : Bool). jobs_for workers (place + 1) 0 works ++ cond {A = List Job} t ((record { number = 0 + length works; work = work }) ∷ []) []) (other-job workers place work other)
      ∙ append-nil (jobs_for workers (place + 1) 0 works) in
      record {
        number = h.number;
        pass = h.pass;
        did = subst (λ (js : List Job). JobRun w.kept w.waiting js (completions_of workers (place + 1) (works ++ work ∷ []) handed ++ w.done) (reverse (events_by (first + place) pool))) (sym more)
            (subst (λ (cs : List Completion). JobRun w.kept w.waiting (jobs_for workers (place + 1) 0 works) (cs ++ w.done) (reverse (events_by (first + place) pool)))
            (sym (completions-more workers (place + 1) works work handed given)) h.did);
      }

pub workers-given : (workers first : ℕ) (works : List Work) (handed : List Completion) (pool : List Entry) (ws : List WorkerState) (work : Work) (w : WorkerState)
    → Each (IsGiven works) handed → AreWorkers workers first works handed pool ws → slice_get ws (page_of_work work % workers) ≡ Some w
    → AreWorkers workers first (works ++ work ∷ []) handed pool (slice_set ws (page_of_work work % workers) (with_job (record { number = length works; work = work }) w))
workers-given workers first works handed pool ws work w given h e =
    let i : ℕ = page_of_work work % workers in
    let v : WorkerState = with_job (record { number = length works; work = work }) w in
    record {
      count = length-set ws i v ∙ h.count;
      each = λ place x at. ⊎_elim
          (λ (here : (place ≡ i) × (x ≡ v)).
          subst (λ (y : WorkerState). IsWorker workers first place (works ++ work ∷ []) handed pool y) (sym here.1)
          (gives-own workers first place works handed pool w (h.each place w (ap (λ (n : ℕ). slice_get ws n) here.0 ∙ e)) work given here.0))
          (λ (other : (place ≡ i → ⊥) × (slice_get ws place ≡ Some x)). gives-other workers first place works handed pool x (h.each place x other.1) work given other.0)
          (set-cases ws i place v x at);
    }
