-- The outstanding jobs of a client's machine.
use Rattle.std.proofs.Common.{◌≡◌, ℕ, suc, ◌+◌, ◌<◌, ◌==◌, nat_lt, not, Bool, true, false, cond, Some, None, List, [], ◌∷◌, length, map, get_or, refl, sym, ap, ◌∙◌, subst, arith}
use Rattle.std.specs.List.{remove, position, position_or_len}
use Rattle.std.proofs.lemmas.Bool.Decides.{nat_tests}
use Rattle.file_transfer.specs.declared.client_jobs.Jobs.{Jobs}
use Rattle.file_transfer.specs.declared.client_jobs.OutstandingJob.{OutstandingJob}
use Rattle.file_messages.specs.declared.job.Job.{Job}
use Rattle.file_messages.specs.declared.job.Work.{Work}
use Rattle.file_messages.specs.declared.job.Completion.{Completion}
use Rattle.file_pasts.specs.ClientPast.{ClientEvent, Completed, open_jobs, job_at, without_job, page_unloaded}
use Rattle.file_transfer.specs.ClientJobs.{JobsStand, outstanding_of}

abbrev pub is_number : ℕ → OutstandingJob → Bool
is_number number job = job.number == number

-- the job of this number is among these, which stand for the jobs that are left without it
pub record IsAt (number : ℕ) (jobs : List Job) (work : Work) (place : ℕ) : Type 0 where
  pub within : place < length (map outstanding_of jobs)
  pub frees : (d : OutstandingJob) → (get_or (map outstanding_of jobs) place d).frees ≡ page_unloaded (Some work)
  pub left : remove (map outstanding_of jobs) place ≡ map outstanding_of (without_job number jobs)

pub is_at : (number : ℕ) (jobs : List Job) (work : Work) → job_at number jobs ≡ Some work → IsAt number jobs work (position_or_len (is_number number) (map outstanding_of jobs))
is_at number [] work e = absurd (let b : ⊥ = cc in b)
is_at number (job ∷ jobs) work e = by_test (job.number == number) refl e (λ (h : job_at number jobs ≡ Some work). is_at number jobs work h) where
  by_test : (t : Bool) → (job.number == number) ≡ t → cond t (Some job.work) (job_at number jobs) ≡ Some work
      → (job_at number jobs ≡ Some work → IsAt number jobs work (position_or_len (is_number number) (map outstanding_of jobs)))
      → IsAt number (job ∷ jobs) work (cond (not t) (1 + position_or_len (is_number number) (map outstanding_of jobs)) 0)
  by_test true p h ih =
      let same : job.work ≡ work = cc in
      record {
        within = omega arith;
        frees = λ d. ap (λ (w : Work). page_unloaded (Some w)) same;
        left = ap (λ (t : Bool). map outstanding_of (cond t jobs (job ∷ without_job number jobs))) (sym p);
      }
  by_test false p h ih =
      let later = ih h in
      let next : suc (position_or_len (is_number number) (map outstanding_of jobs)) ≡ 1 + position_or_len (is_number number) (map outstanding_of jobs) = omega arith in
      subst (IsAt number (job ∷ jobs) work) next
      (record {
        within = omega (arith, later.within);
        frees = later.frees;
        left = ap (λ (xs : List OutstandingJob). outstanding_of job ∷ xs) later.left ∙ ap (λ (t : Bool). map outstanding_of (cond t jobs (job ∷ without_job number jobs))) (sym p);
      })

-- it is found
pub found_at : (number : ℕ) (jobs : List Job) (work : Work) (items : List OutstandingJob) → items ≡ map outstanding_of jobs → job_at number jobs ≡ Some work
    → position (is_number number) items ≡ Some (position_or_len (is_number number) (map outstanding_of jobs))
found_at number jobs work items e h =
    let at = is_at number jobs work h in
    let within : nat_lt (position_or_len (is_number number) (map outstanding_of jobs)) (length (map outstanding_of jobs)) ≡ true = (let w = at.within in grind (arith, nat_tests)) in
    ap (position (is_number number)) e ∙ ap (λ (t : Bool). cond t (Some (position_or_len (is_number number) (map outstanding_of jobs))) None) within

pub not_found : (number : ℕ) (jobs : List Job) (work : Work) (items : List OutstandingJob) → items ≡ map outstanding_of jobs → job_at number jobs ≡ Some work
    → None ≡ position (is_number number) items → ⊥
not_found number jobs work items e h none = let f = found_at number jobs work items e h in cc

pub place_is : (number place : ℕ) (jobs : List Job) (work : Work) (items : List OutstandingJob) → items ≡ map outstanding_of jobs → job_at number jobs ≡ Some work
    → Some place ≡ position (is_number number) items → IsAt number jobs work place
place_is number place jobs work items e h some =
    let f = found_at number jobs work items e h in
    let same : position_or_len (is_number number) (map outstanding_of jobs) ≡ place = cc in
    subst (IsAt number jobs work) same (is_at number jobs work h)

pub frees-is : (number place : ℕ) (jobs : List Job) (work : Work) (items : List OutstandingJob) (job : OutstandingJob) → items ≡ map outstanding_of jobs → job_at number jobs ≡ Some work
    → Some place ≡ position (is_number number) items → job ≡ get_or items place job → job.frees ≡ page_unloaded (Some work)
frees-is number place jobs work items job e h some at =
    ap (λ (j : OutstandingJob). j.frees) (at ∙ ap (λ (xs : List OutstandingJob). get_or xs place job) e) ∙ (place_is number place jobs work items e h some).frees job

pub stand-completed : (came_due : List Work) (past : List ClientEvent) (work : Work) (c : Completion) (q r : Jobs) (place : ℕ) → JobsStand came_due past q
    → job_at c.number (open_jobs past) ≡ Some work → Some place ≡ position (is_number c.number) q.outstanding.items
    → r.due.items ≡ q.due.items → r.given ≡ q.given → r.outstanding.items ≡ remove q.outstanding.items place
    → JobsStand came_due (Completed c ∷ past) r
stand-completed came_due past work c q r place s h some due given outstanding = record {
  due = due ∙ s.due;
  in_turn = s.in_turn;
  given = given ∙ s.given;
  outstanding = outstanding ∙ ap (λ (xs : List OutstandingJob). remove xs place) s.outstanding
      ∙ (place_is c.number place (open_jobs past) work q.outstanding.items s.outstanding h some).left;
}
