-- How often the workers of an end did a thing, by the jobs that its machine gave.
use Rattle.std.proofs.Common.{◌≡◌, ℕ, zero, suc, ◌+◌, ◌<◌, ◌≤◌, Bool, true, false, cond, List, [], ◌∷◌, ◌++◌, reverse, count_by, refl, ap, ◌∙◌, arith}
use Rattle.std.proofs.lemmas.List.{append-nil}
use Rattle.std.proofs.lemmas.List.Sums.{sum_by-cons, sum_by-append}
use Rattle.std.proofs.lemmas.List.Concat.{flat_map-append}
use Rattle.std.proofs.lemmas.Bool.Decides.{nat_tests}
use Rattle.smbd_base.specs.declared.page_event.PageEvent.{PageEvent}
use Rattle.smbd_base.specs.Pages.{Entry}
use Rattle.smbd_base.specs.PagesFit.{all_events, events_by}
use Rattle.file_messages.specs.declared.job.Work.{Work}
use Rattle.file_messages.specs.declared.job.Job.{Job}
use Rattle.file_messages.specs.declared.job.Completion.{Completion}
use Rattle.file_pasts.specs.InStep.{one_if, count}
use Rattle.page_workers.specs.Turns.{worker_number}
use Rattle.page_workers.specs.Workers.{WorkerState}
use Rattle.copy_laws.specs.Shares.{is_for, jobs_for, completions_of}
use Rattle.copy_laws.specs.Coupled.{AreWorkers}
use Rattle.copy_laws.specs.Laws.{lists_from}
use Rattle.copy_laws.proofs.Eaches.{reverse-cons}
use Rattle.copy_laws.proofs.Shares.{works_of}
use Rattle.copy_laws.proofs.Runs.{Makes, MadeBy, run-made}
use Rattle.copy_laws.proofs.Origins.{did-at}
use Rattle.copy_laws.proofs.WorkerLists.{lists-last}

-- a test of events that only jobs of a kind make
abbrev pub Needs : (PageEvent → Bool) → (Work → Bool) → Type 0
Needs q f = (w : Work) (e : PageEvent) → Makes w e → q e ≡ true → f w ≡ true

bit : (PageEvent → Bool) → PageEvent → ℕ
bit q e = cond (q e) 1 0

count-cons : (q : PageEvent → Bool) (e : PageEvent) (es : List PageEvent) → count_by q (e ∷ es) ≡ bit q e + count_by q es
unfolding bit
count-cons q e es = sum_by-cons (λ (x : PageEvent). cond (q x) 1 0) e es

pub count-joined : (q : PageEvent → Bool) (xs ys : List PageEvent) → count_by q (xs ++ ys) ≡ count_by q xs + count_by q ys
count-joined q xs ys = sum_by-append (λ (x : PageEvent). cond (q x) 1 0) xs ys

count-reversed : (q : PageEvent → Bool) (es : List PageEvent) → count_by q (reverse es) ≡ count_by q es
count-reversed q [] = refl
count-reversed q (e ∷ es) =
    let back : count_by q (reverse (e ∷ es)) ≡ count_by q (reverse es) + count_by q (e ∷ []) = ap (λ (xs : List PageEvent). count_by q xs) (reverse-cons e es) ∙ count-joined q (reverse es) (e ∷ []) in
    let one = count-cons q e [] in
    let all = count-cons q e es in
    omega (arith, back, one, all, count-reversed q es)

-- an event counts no more than its job
bit-few : (q : PageEvent → Bool) (f : Work → Bool) (w : Work) (e : PageEvent) → Needs q f → Makes w e → bit q e ≤ one_if (f w)
unfolding bit one_if
bit-few q f w e needs m = by_test (q e) refl where
  by_test : (t : Bool) → q e ≡ t → cond t 1 0 ≤ one_if (f w)
  by_test true set = (let one : one_if (f w) ≡ 1 = ap (λ (t : Bool). one_if t) (needs w e m set) in omega (arith, one))
  by_test false clear = omega arith

made-few : (q : PageEvent → Bool) (f : Work → Bool) (made : List PageEvent) (jobs : List Job) → Needs q f → MadeBy made jobs → count_by q made ≤ count f (works_of jobs)
unfolding count
made-few q f [] jobs needs h = omega arith
made-few q f (e ∷ made) [] needs h = absurd h
made-few q f (e ∷ made) (j ∷ jobs) needs h =
    let first = count-cons q e made in
    let here = bit-few q f j.work e needs h.0 in
    omega (arith, first, here, made-few q f made jobs needs h.1)

-- ---- each job is one worker's at most

-- how many of the jobs of the first so many workers are of the kind
total : (Work → Bool) → ℕ → ℕ → ℕ → List Work → ℕ
total f workers zero k works = 0
total f workers (suc some) k works = total f workers some k works + count f (works_of (jobs_for workers (some + 1) k works))

share : (Work → Bool) → ℕ → ℕ → Work → ℕ
share f workers worker w = cond (is_for workers worker w) (one_if (f w)) 0

count-first : (f : Work → Bool) (workers worker k : ℕ) (w : Work) (works : List Work)
    → count f (works_of (jobs_for workers worker k (w ∷ works))) ≡ share f workers worker w + count f (works_of (jobs_for workers worker (k + 1) works))
unfolding count share
count-first f workers worker k w works = by_test (is_for workers worker w) where
  by_test : (t : Bool) → count f (works_of (cond t ((record { number = k; work = w }) ∷ jobs_for workers worker (k + 1) works) (jobs_for workers worker (k + 1) works)))
      ≡ cond t (one_if (f w)) 0 + count f (works_of (jobs_for workers worker (k + 1) works))
  by_test true = refl
  by_test false = omega arith

shares : (Work → Bool) → ℕ → ℕ → Work → ℕ
shares f workers zero w = 0
shares f workers (suc some) w = shares f workers some w + share f workers (some + 1) w

-- of the first so many workers none has the job where its worker comes later, and else one
shares-few : (f : Work → Bool) (workers some : ℕ) (w : Work) → (shares f workers some w ≤ one_if (f w)) × (some < worker_number w workers → shares f workers some w ≡ 0)
unfolding shares share
shares-few f workers zero w = (omega arith, λ h. refl)
shares-few f workers (suc some) w = by_test (is_for workers (some + 1) w) refl (shares-few f workers some w) where
  by_test : (t : Bool) → is_for workers (some + 1) w ≡ t → (shares f workers some w ≤ one_if (f w)) × (some < worker_number w workers → shares f workers some w ≡ 0)
      → (shares f workers some w + cond t (one_if (f w)) 0 ≤ one_if (f w)) × (suc some < worker_number w workers → shares f workers some w + cond t (one_if (f w)) 0 ≡ 0)
  by_test true is ih =
      let at : worker_number w workers ≡ some + 1 = grind (arith, nat_tests) in
      let none : shares f workers some w ≡ 0 = ih.1 (omega (arith, at)) in
      (omega (arith, none), λ h. absurd (omega (arith, h, at)))
  by_test false is ih =
      let few = ih.0 in
      (omega (arith, few), λ h. (let none : shares f workers some w ≡ 0 = ih.1 (omega (arith, h)) in omega (arith, none)))

total-first : (f : Work → Bool) (workers some k : ℕ) (w : Work) (works : List Work) → total f workers some k (w ∷ works) ≡ shares f workers some w + total f workers some (k + 1) works
unfolding total shares
total-first f workers zero k w works = omega arith
total-first f workers (suc some) k w works =
    let first = count-first f workers (some + 1) k w works in
    omega (arith, first, total-first f workers some k w works)

total-none : (f : Work → Bool) (workers some k : ℕ) → total f workers some k [] ≡ 0
unfolding total count
total-none f workers zero k = refl
total-none f workers (suc some) k = (let z = total-none f workers some k in omega (arith, z))

total-few : (f : Work → Bool) (workers some k : ℕ) (works : List Work) → total f workers some k works ≤ count f works
unfolding count
total-few f workers some k [] = (let z = total-none f workers some k in omega (arith, z))
total-few f workers some k (w ∷ works) =
    let first = total-first f workers some k w works in
    let few = (shares-few f workers some w).0 in
    omega (arith, first, few, total-few f workers some (k + 1) works)

-- ---- the lists of all workers of an end

lists-few : (q : PageEvent → Bool) (f : Work → Bool) (workers first some : ℕ) (works : List Work) (handed : List Completion) (pool : List Entry) (ws : List WorkerState) → Needs q f
    → AreWorkers workers first works handed pool ws → some ≤ workers → count_by q (all_events (lists_from first some pool)) ≤ total f workers some 0 works
unfolding total
lists-few q f workers first zero works handed pool ws needs a below = omega arith
lists-few q f workers first (suc some) works handed pool ws needs a below =
    let x = did-at workers first some works handed pool ws a (omega (arith, below)) in
    let jobs = jobs_for workers (some + 1) 0 works in
    let events = events_by (first + some) pool in
    let here = made-few q f (reverse events) jobs needs (run-made x.worker.kept x.worker.waiting jobs (completions_of workers (some + 1) works handed ++ x.worker.done) (reverse events) x.did) in
    let back = count-reversed q events in
    let split : count_by q (all_events (lists_from first (suc some) pool)) ≡ count_by q (all_events (lists_from first some pool)) + count_by q events =
    ap (λ (ls : List (List PageEvent)). count_by q (all_events ls)) (lists-last first some pool)
    ∙ ap (λ (es : List PageEvent). count_by q es) (flat_map-append (λ (list : List PageEvent). list) (lists_from first some pool) (events ∷ [])
    ∙ ap (λ (es : List PageEvent). all_events (lists_from first some pool) ++ es) (append-nil events))
    ∙ count-joined q (all_events (lists_from first some pool)) events in
    omega (arith, here, back, split, lists-few q f workers first some works handed pool ws needs a (omega (arith, below)))

pub events-few : (q : PageEvent → Bool) (f : Work → Bool) (workers first : ℕ) (works : List Work) (handed : List Completion) (pool : List Entry) (ws : List WorkerState) → Needs q f
    → AreWorkers workers first works handed pool ws → count_by q (all_events (lists_from first workers pool)) ≤ count f works
events-few q f workers first works handed pool ws needs a =
    let few = lists-few q f workers first workers works handed pool ws needs a (omega arith) in
    let all = total-few f workers workers 0 works in
    omega (arith, few, all)
