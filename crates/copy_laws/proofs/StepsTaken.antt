-- The oldest completion of a worker, and the workers of its end after it was handed to their machine.
use Rattle.std.proofs.Common.{◌≡◌, ℕ, zero, suc, ◌+◌, ◌<◌, ◌≤◌, Bool, true, false, cond, Option, Some, List, [], ◌∷◌, ◌++◌, length, reverse, refl, sym, ap, ◌∙◌, subst, arith, append_assoc, ⊎_elim}
use Rattle.std.specs.Prelude.{slice_get, slice_set}
use Rattle.std.proofs.lemmas.List.{append-nil, length-set}
use Rattle.smbd_base.specs.declared.page_event.PageEvent.{PageEvent}
use Rattle.smbd_base.specs.Pages.{Entry}
use Rattle.smbd_base.specs.PagesFit.{events_by}
use Rattle.file_messages.specs.declared.job.Work.{Work}
use Rattle.file_messages.specs.declared.job.Job.{Job}
use Rattle.file_messages.specs.declared.job.Completion.{Completion}
use Rattle.file_pasts.proofs.Lists.{within, get_in_front}
use Rattle.page_workers.specs.Jobs.{IsDone}
use Rattle.page_workers.specs.Runs.{JobRun}
use Rattle.page_workers.specs.Workers.{WorkerState}
use Rattle.copy_laws.specs.Shares.{is_for, jobs_for, is_some_for, is_answer_of, completions_of}
use Rattle.copy_laws.specs.Coupled.{IsWorker, AreWorkers}
use Rattle.copy_laws.specs.Steps.{with_done}
use Rattle.copy_laws.proofs.Eaches.{each-at}
use Rattle.copy_laws.proofs.Shares.{IsShare, each-share}
use Rattle.copy_laws.proofs.Runs.{IsDoneAt, run-at}
use Rattle.copy_laws.proofs.StepsLists.{set-cases, get-middle}
use Rattle.copy_laws.proofs.StepsGiven.{place-of, other-job}

-- ---- the numbers of a worker's jobs rise

from-number : (n q k : ℕ) (works : List Work) (i : ℕ) (j : Job) → slice_get (jobs_for n q k works) i ≡ Some j → k ≤ j.number
from-number n q k [] i j e = absurd (let b : ⊥ = cc in b)
from-number n q k (w ∷ works) i j e = by_test (is_for n q w) i e (λ m at. from-number n q (k + 1) works m j at) where
  by_test : (t : Bool) (i : ℕ) → slice_get (cond t ((record { number = k; work = w }) ∷ jobs_for n q (k + 1) works) (jobs_for n q (k + 1) works)) i ≡ Some j
      → ((m : ℕ) → slice_get (jobs_for n q (k + 1) works) m ≡ Some j → k + 1 ≤ j.number) → k ≤ j.number
  by_test true zero e ih = number_is (record { number = k; work = w }) j e where
    number_is : (a b : Job) → Some a ≡ Some b → a.number ≤ b.number
    number_is a b h = let same : a ≡ b = cc in (let z : a.number ≡ b.number = ap (λ (x : Job). x.number) same in omega (arith, z))
  by_test true (suc m) e ih = (let z = ih m e in omega (arith, z))
  by_test false m e ih = (let z = ih m e in omega (arith, z))

rises : (n q k : ℕ) (works : List Work) (i j : ℕ) (a b : Job) → slice_get (jobs_for n q k works) i ≡ Some a → slice_get (jobs_for n q k works) j ≡ Some b → i < j
    → a.number < b.number
rises n q k [] i j a b e f less = absurd (let x : ⊥ = cc in x)
rises n q k (w ∷ works) i j a b e f less =
    by_test (is_for n q w) i j e f less (λ l m at to below. rises n q (k + 1) works l m a b at to below) (λ m at. from-number n q (k + 1) works m b at)
  where
    number_is : (x y : Job) → Some x ≡ Some y → x.number ≡ y.number
    number_is x y h = let same : x ≡ y = cc in ap (λ (z : Job). z.number) same

    by_test : (t : Bool) (i j : ℕ) → slice_get (cond t ((record { number = k; work = w }) ∷ jobs_for n q (k + 1) works) (jobs_for n q (k + 1) works)) i ≡ Some a
        → slice_get (cond t ((record { number = k; work = w }) ∷ jobs_for n q (k + 1) works) (jobs_for n q (k + 1) works)) j ≡ Some b → i < j
        → ((l m : ℕ) → slice_get (jobs_for n q (k + 1) works) l ≡ Some a → slice_get (jobs_for n q (k + 1) works) m ≡ Some b → l < m → a.number < b.number)
        → ((m : ℕ) → slice_get (jobs_for n q (k + 1) works) m ≡ Some b → k + 1 ≤ b.number) → a.number < b.number
    by_test true i zero e f less ih from = absurd (omega (arith, less))
    by_test true zero (suc m) e f less ih from =
        let here : k ≡ a.number = number_is (record { number = k; work = w }) a e in
        let later = from m f in omega (arith, here, later)
    by_test true (suc l) (suc m) e f less ih from = ih l m e f (omega (arith, less))
    by_test false i j e f less ih from = ih i j e f less

-- ---- completions of one worker

-- one that answers a job of the worker stands among its own
pub answered-at : (n q : ℕ) (works : List Work) (handed : List Completion) (m : ℕ) (c : Completion) → slice_get handed m ≡ Some c → is_answer_of n q works c ≡ true
    → (i : ℕ) × (slice_get (completions_of n q works handed) i ≡ Some c)
answered-at n q works [] m c e own = absurd (let b : ⊥ = cc in b)
answered-at n q works (d ∷ later) zero c e own =
    (0, ap (λ (t : Bool). slice_get (cond t (d ∷ completions_of n q works later) (completions_of n q works later)) 0) (ap (λ (x : Completion). is_answer_of n q works x) (same d c e) ∙ own) ∙ e)
  where
    same : (a b : Completion) → Some a ≡ Some b → a ≡ b
    same a b h = cc
answered-at n q works (d ∷ later) (suc m) c e own = by_test (is_answer_of n q works d) (answered-at n q works later m c e own) where
  by_test : (t : Bool) → (i : ℕ) × (slice_get (completions_of n q works later) i ≡ Some c)
      → (i : ℕ) × (slice_get (cond t (d ∷ completions_of n q works later) (completions_of n q works later)) i ≡ Some c)
  by_test true h = (suc h.0, h.1)
  by_test false h = h

completions-next : (n q : ℕ) (works : List Work) (c : Completion) (handed : List Completion)
    → completions_of n q works (handed ++ c ∷ []) ≡ completions_of n q works handed ++ cond (is_answer_of n q works c) (c ∷ []) []
completions-next n q works c [] = refl
completions-next n q works c (d ∷ later) = by_test (is_answer_of n q works d) (completions-next n q works c later) where
  by_test : (t : Bool) → completions_of n q works (later ++ c ∷ []) ≡ completions_of n q works later ++ cond (is_answer_of n q works c) (c ∷ []) []
      → cond t (d ∷ completions_of n q works (later ++ c ∷ [])) (completions_of n q works (later ++ c ∷ []))
      ≡ cond t (d ∷ completions_of n q works later) (completions_of n q works later) ++ cond (is_answer_of n q works c) (c ∷ []) []
  by_test true h = ap (λ (cs : List Completion). d ∷ cs) h
  by_test false h = h

-- ---- the oldest completion of a worker that wasn't handed over

-- it is of a job that its machine gave to this worker, and of which no completion was handed over
pub record IsNext (workers place : ℕ) (works : List Work) (handed : List Completion) (c : Completion) : Type 0 where
  pub job : Job
  pub event : PageEvent
  pub at : slice_get works c.number ≡ Some job.work
  pub own : is_for workers (place + 1) job.work ≡ true
  pub done : IsDone job c event
  pub fresh : (m : ℕ) (d : Completion) → slice_get handed m ≡ Some d → d.number ≡ c.number → ⊥

module _ (workers first place : ℕ) (works : List Work) (handed : List Completion) (pool : List Entry) (w : WorkerState) (h : IsWorker workers first place works handed pool w)
    (c : Completion) (rest : List Completion) (is : w.done ≡ c ∷ rest) where
  run : JobRun w.kept w.waiting (jobs_for workers (place + 1) 0 works) (completions_of workers (place + 1) works handed ++ c ∷ rest) (reverse (events_by (first + place) pool))
  run = subst (λ (cs : List Completion). JobRun w.kept w.waiting (jobs_for workers (place + 1) 0 works) (completions_of workers (place + 1) works handed ++ cs) (reverse (events_by (first + place) pool))) is h.did

  found : (n : ℕ) (d : Completion) → slice_get (completions_of workers (place + 1) works handed ++ c ∷ rest) n ≡ Some d
      → IsDoneAt (jobs_for workers (place + 1) 0 works) (reverse (events_by (first + place) pool)) n d
  found n d e = run-at w.kept w.waiting (jobs_for workers (place + 1) 0 works) (completions_of workers (place + 1) works handed ++ c ∷ rest) (reverse (events_by (first + place) pool)) n d run e

  next-of : IsNext workers place works handed c
  next-of =
      let x : IsDoneAt (jobs_for workers (place + 1) 0 works) (reverse (events_by (first + place) pool)) (length (completions_of workers (place + 1) works handed)) c =
      found (length (completions_of workers (place + 1) works handed)) c (get-middle (completions_of workers (place + 1) works handed) rest c) in
      let share : IsShare workers (place + 1) works x.job =
      each-at (IsShare workers (place + 1) works) (jobs_for workers (place + 1) 0 works) (length (completions_of workers (place + 1) works handed)) x.job (each-share workers (place + 1) works) x.job_at in
      let stands : slice_get works c.number ≡ Some x.job.work = ap (λ (n : ℕ). slice_get works n) x.done.number ∙ share.at in
      record {
        job = x.job;
        event = x.event;
        at = stands;
        own = share.own;
        done = x.done;
        fresh = λ m d e same.
            let answers : is_answer_of workers (place + 1) works d ≡ true =
            ap (λ (o : Option Work). is_some_for workers (place + 1) o) (ap (λ (n : ℕ). slice_get works n) same ∙ stands) ∙ share.own in
            let i = answered-at workers (place + 1) works handed m d e answers in
            let y : IsDoneAt (jobs_for workers (place + 1) 0 works) (reverse (events_by (first + place) pool)) i.0 d =
            found i.0 d (get_in_front (completions_of workers (place + 1) works handed) (c ∷ rest) i.0 d i.1) in
            let earlier : i.0 < length (completions_of workers (place + 1) works handed) = within (completions_of workers (place + 1) works handed) i.0 d i.1 in
            let less : y.job.number < x.job.number =
            rises workers (place + 1) 0 works i.0 (length (completions_of workers (place + 1) works handed)) y.job x.job y.job_at x.job_at earlier in
            let a : d.number ≡ y.job.number = y.done.number in
            let b : c.number ≡ x.job.number = x.done.number in
            omega (arith, less, a, b, same);
      }

  takes-own : is_answer_of workers (place + 1) works c ≡ true → IsWorker workers first place works (handed ++ c ∷ []) pool (with_done rest w)
  takes-own own =
      let more : completions_of workers (place + 1) works (handed ++ c ∷ []) ≡ completions_of workers (place + 1) works handed ++ c ∷ [] =
      completions-next workers (place + 1) works c handed
      ∙ ap (λ (t : Bool). completions_of workers (place + 1) works handed ++ cond t (c ∷ []) []) own in
      record {
        number = h.number;
        pass = h.pass;
        did = subst (λ (cs : List Completion). JobRun w.kept w.waiting (jobs_for workers (place + 1) 0 works) (cs ++ rest) (reverse (events_by (first + place) pool))) (sym more)
            (subst (λ (cs : List Completion). JobRun w.kept w.waiting (jobs_for workers (place + 1) 0 works) cs (reverse (events_by (first + place) pool)))
            (sym (append_assoc (completions_of workers (place + 1) works handed) (c ∷ []) rest)) run);
      }

takes-other : (workers first place : ℕ) (works : List Work) (handed : List Completion) (pool : List Entry) (w : WorkerState) (c : Completion) → is_answer_of workers (place + 1) works c ≡ false
    → IsWorker workers first place works handed pool w → IsWorker workers first place works (handed ++ c ∷ []) pool w
takes-other workers first place works handed pool w c other h =
    let same : completions_of workers (place + 1) works (handed ++ c ∷ []) ≡ completions_of workers (place + 1) works handed =
    completions-next workers (place + 1) works c handed
    ∙ ap (λ (t : Bool). completions_of workers (place + 1) works handed ++ cond t (c ∷ []) []) other
    ∙ append-nil (completions_of workers (place + 1) works handed) in
    record {
      number = h.number;
      pass = h.pass;
      did = subst (λ (cs : List Completion). JobRun w.kept w.waiting (jobs_for workers (place + 1) 0 works) (cs ++ w.done) (reverse (events_by (first + place) pool))) (sym same) h.did;
    }

-- ---- all workers of an end

pub worker-next : (workers first : ℕ) (works : List Work) (handed : List Completion) (pool : List Entry) (ws : List WorkerState) (place : ℕ) (w : WorkerState) (c : Completion) (rest : List Completion)
    → AreWorkers workers first works handed pool ws → slice_get ws place ≡ Some w → w.done ≡ c ∷ rest → IsNext workers place works handed c
worker-next workers first works handed pool ws place w c rest h e is = next-of workers first place works handed pool w (h.each place w e) c rest is

pub workers-taken : (workers first : ℕ) (works : List Work) (handed : List Completion) (pool : List Entry) (ws : List WorkerState) (place : ℕ) (w : WorkerState) (c : Completion) (rest : List Completion)
    → AreWorkers workers first works handed pool ws → slice_get ws place ≡ Some w → w.done ≡ c ∷ rest
    → AreWorkers workers first works (handed ++ c ∷ []) pool (slice_set ws place (with_done rest w))
workers-taken workers first works handed pool ws place w c rest h e is =
    let v : WorkerState = with_done rest w in
    let x : IsNext workers place works handed c = worker-next workers first works handed pool ws place w c rest h e is in
    record {
      count = length-set ws place v ∙ h.count;
      each = λ q y at. ⊎_elim
          (λ (here : (q ≡ place) × (y ≡ v)).
          subst (λ (z : WorkerState). IsWorker workers first q works (handed ++ c ∷ []) pool z) (sym here.1)
          (subst (λ (n : ℕ). IsWorker workers first n works (handed ++ c ∷ []) pool v) (sym here.0)
          (takes-own workers first place works handed pool w (h.each place w e) c rest is
          (ap (λ (o : Option Work). is_some_for workers (place + 1) o) x.at ∙ x.own))))
          (λ (other : (q ≡ place → ⊥) × (slice_get ws q ≡ Some y)).
          takes-other workers first q works handed pool y c
          (ap (λ (o : Option Work). is_some_for workers (q + 1) o) x.at
          ∙ other-job workers q x.job.work (λ same. other.0 (same ∙ sym (place-of workers place x.job.work x.own))))
          (h.each q y other.1))
          (set-cases ws place q v y at);
    }
