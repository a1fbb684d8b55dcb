-- The client of a copy gives jobs to its workers, and is handed their completions.
use Rattle.std.proofs.Common.{◌≡◌, ◌⊎◌, inl, inr, ℕ, ◌+◌, ◌<◌, ◌≤◌, ◌==◌, Bool, true, false, cond, Option, Some, None, List, [], ◌∷◌, ◌++◌, length, refl, sym, ap, ◌∙◌, arith, length-append, ⊎_elim}
use Rattle.std.specs.Prelude.{slice_get}
use Rattle.std.proofs.lemmas.Bool.Decides.{nat_tests}
use Rattle.file_messages.specs.declared.job.Work.{Work}
use Rattle.file_messages.specs.declared.job.Job.{Job}
use Rattle.file_messages.specs.declared.job.Completion.{Completion}
use Rattle.file_pasts.specs.ClientPast.{ClientEvent, Group, End, Sent, Replied, Gave, Completed, Received, jobs_given, open_jobs, job_at, without_job}
use Rattle.file_pasts.proofs.Lists.{get_in_front, get_last}
use Rattle.file_pasts.proofs.GetPagesBack.{at-front, at-other, at-new, at-without}
use Rattle.page_workers.proofs.JobLaws.{answers-clients}
use Rattle.copy_laws.specs.ClientDone.{completions_in, JobsAnswered}
use Rattle.copy_laws.specs.Steps.{PutsAnswer, GetsAnswer, ClientGives, ClientTakes}
use Rattle.copy_laws.proofs.Eaches.{Each, each-append, each-weaker}
use Rattle.copy_laws.proofs.StepsLists.{get-middle}
use Rattle.copy_laws.proofs.StepsGiven.{IsGiven, workers-given}
use Rattle.copy_laws.proofs.StepsTaken.{IsNext, worker-next, workers-taken}

-- ---- a lawful past

pub puts-answer : PutsAnswer
puts-answer s [] p = tt
puts-answer s (Group bytes ∷ past) p = puts-answer s past p.1
puts-answer s (End ∷ past) p = puts-answer s past p.1
puts-answer s (Sent r ∷ past) p = puts-answer s past p.1
puts-answer s (Replied m ∷ past) p = puts-answer s past p.1
puts-answer s (Gave work ∷ past) p = puts-answer s past p.1
puts-answer s (Completed c ∷ past) p = (p.0, puts-answer s past p.1)
puts-answer s (Received bytes ∷ past) p = puts-answer s past p.1

pub gets-answer : GetsAnswer
gets-answer channel [] p = tt
gets-answer channel (Group bytes ∷ past) p = gets-answer channel past p.1
gets-answer channel (End ∷ past) p = gets-answer channel past p.1
gets-answer channel (Sent r ∷ past) p = gets-answer channel past p.1
gets-answer channel (Replied m ∷ past) p = gets-answer channel past p.1
gets-answer channel (Gave work ∷ past) p = gets-answer channel past p.1
gets-answer channel (Completed c ∷ past) p = (p.0, gets-answer channel past p.1)
gets-answer channel (Received bytes ∷ past) p = gets-answer channel past p.1

-- ---- which jobs are open

differ : (a b : ℕ) → (a ≡ b → ⊥) → (a == b) ≡ false
differ a b h = by_test (a == b) refl where
  by_test : (t : Bool) → (a == b) ≡ t → (a == b) ≡ false
  by_test true e = absurd (h (let same : a ≡ b = grind (arith, nat_tests) in same))
  by_test false e = e

none-without : (n m : ℕ) (jobs : List Job) → job_at n jobs ≡ None → job_at n (without_job m jobs) ≡ None
none-without n m [] e = refl
none-without n m (job ∷ later) e = by_test (job.number == m) (none-without n m later) where
  later-none : (t : Bool) → cond t (Some job.work) (job_at n later) ≡ None → job_at n later ≡ None
  later-none true h = absurd (let b : ⊥ = cc in b)
  later-none false h = h

  both : (t : Bool) → cond t (Some job.work) (job_at n later) ≡ None → (job_at n later ≡ None → job_at n (without_job m later) ≡ None)
      → cond t (Some job.work) (job_at n (without_job m later)) ≡ None
  both true h ih = absurd (let b : ⊥ = cc in b)
  both false h ih = ih h

  by_test : (t : Bool) → (job_at n later ≡ None → job_at n (without_job m later) ≡ None) → job_at n (cond t later (job ∷ without_job m later)) ≡ None
  by_test true ih = later-none (job.number == n) e
  by_test false ih = both (job.number == n) e ih

-- a job that wasn't given isn't open
none-open : (n : ℕ) (past : List ClientEvent) → length (jobs_given past) ≤ n → job_at n (open_jobs past) ≡ None
none-open n [] h = refl
none-open n (Group bytes ∷ past) h = none-open n past h
none-open n (End ∷ past) h = none-open n past h
none-open n (Sent r ∷ past) h = none-open n past h
none-open n (Replied m ∷ past) h = none-open n past h
none-open n (Gave work ∷ past) h =
    let more : length (jobs_given past ++ work ∷ []) ≡ length (jobs_given past) + 1 = length-append (jobs_given past) (work ∷ []) in
    at-other n (length (jobs_given past)) (open_jobs past) work (differ (length (jobs_given past)) n (λ same. omega (arith, h, more, same)))
    ∙ none-open n past (omega (arith, h, more))
none-open n (Completed c ∷ past) h = none-without n c.number (open_jobs past) (none-open n past h)
none-open n (Received bytes ∷ past) h = none-open n past h

-- so a completion that answers an open job is of a job that was given
pub open-given : (n : ℕ) (work : Work) (past : List ClientEvent) → job_at n (open_jobs past) ≡ Some work → n < length (jobs_given past)
open-given n work past e = by_case (within-or (length (jobs_given past))) where
  within-or : (k : ℕ) → (n < k) ⊎ (k ≤ n)
  within-or k = grind arith

  by_case : (n < length (jobs_given past)) ⊎ (length (jobs_given past) ≤ n) → n < length (jobs_given past)
  by_case (inl h) = h
  by_case (inr h) = absurd (never (sym (none-open n past h) ∙ e)) where
    never : ◌≡◌ {A = Option Work} None (Some work) → ⊥
    never k = cc

pub answered-given : (past : List ClientEvent) → JobsAnswered past → Each (IsGiven (jobs_given past)) (completions_in past)
answered-given [] h = tt
answered-given (Group bytes ∷ past) h = answered-given past h
answered-given (End ∷ past) h = answered-given past h
answered-given (Sent r ∷ past) h = answered-given past h
answered-given (Replied m ∷ past) h = answered-given past h
answered-given (Gave work ∷ past) h =
    let more : length (jobs_given past ++ work ∷ []) ≡ length (jobs_given past) + 1 = length-append (jobs_given past) (work ∷ []) in
    each-weaker (IsGiven (jobs_given past)) (IsGiven (jobs_given past ++ work ∷ [])) (completions_in past) (λ c less. omega (arith, less, more)) (answered-given past h)
answered-given (Completed c ∷ past) h =
    each-append (IsGiven (jobs_given past)) (completions_in past) (c ∷ []) (answered-given past h.1) (open-given c.number h.0.work past h.0.is_open, tt)
answered-given (Received bytes ∷ past) h = answered-given past h

-- a job that was given, and of which no completion was handed in, is open
pub uncompleted-open : (n : ℕ) (work : Work) (past : List ClientEvent) → slice_get (jobs_given past) n ≡ Some work
    → ((m : ℕ) (d : Completion) → slice_get (completions_in past) m ≡ Some d → d.number ≡ n → ⊥) → job_at n (open_jobs past) ≡ Some work
uncompleted-open n work [] e none = absurd (let b : ⊥ = cc in b)
uncompleted-open n work (Group bytes ∷ past) e none = uncompleted-open n work past e none
uncompleted-open n work (End ∷ past) e none = uncompleted-open n work past e none
uncompleted-open n work (Sent r ∷ past) e none = uncompleted-open n work past e none
uncompleted-open n work (Replied m ∷ past) e none = uncompleted-open n work past e none
uncompleted-open n work (Gave w ∷ past) e none =
    ⊎_elim
    (λ (old : slice_get (jobs_given past) n ≡ Some work). at-front n (open_jobs past) ((record { number = length (jobs_given past); work = w }) ∷ []) work (uncompleted-open n work past old none))
    (λ (last : (n ≡ length (jobs_given past)) × (work ≡ w)).
    ap (λ (k : ℕ). job_at k (open_jobs past ++ (record { number = length (jobs_given past); work = w }) ∷ [])) last.0
    ∙ at-new (length (jobs_given past)) (open_jobs past) w (none-open (length (jobs_given past)) past (let z : length (jobs_given past) ≤ length (jobs_given past) = omega arith in z))
    ∙ ap (λ (x : Work). Some x) (sym last.1))
    (get_last (jobs_given past) w n work e)
uncompleted-open n work (Completed c ∷ past) e none =
    at-without n c.number (open_jobs past) (differ c.number n (none (length (completions_in past)) c (get-middle (completions_in past) [] c)))
    ∙ uncompleted-open n work past e (λ m d at. none m d (get_in_front (completions_in past) (c ∷ []) m d at))
uncompleted-open n work (Received bytes ∷ past) e none = uncompleted-open n work past e none

-- ---- the steps

pub client-gives : ClientGives
client-gives workers count p pages cs ss work w h answered e = record {
  run = h.run;
  by = h.by;
  clients = workers-given workers 0 (jobs_given p.client) (completions_in p.client) p.pool cs work w (answered-given p.client answered) h.clients e;
  servers = h.servers;
}

pub client-takes : ClientTakes
client-takes workers count p pages cs ss place w c rest h e is =
    let x : IsNext workers place (jobs_given p.client) (completions_in p.client) c =
    worker-next workers 0 (jobs_given p.client) (completions_in p.client) p.pool cs place w c rest h.clients e is in (
      record { work = x.job.work; is_open = uncompleted-open c.number x.job.work p.client x.at x.fresh; fits = answers-clients x.job c x.event x.done },
      record {
        run = h.run;
        by = h.by;
        clients = workers-taken workers 0 (jobs_given p.client) (completions_in p.client) p.pool cs place w c rest h.clients e is;
        servers = h.servers;
      },
    )
