-- A server whose jobs are done as soon as they are given: each completion answers its job.
use Rattle.std.proofs.Common.{◌≡◌, ℕ, ◌+◌, ◌-◌, ◌≤◌, Option, Some, None, List, ◌∷◌, refl, sym, ap, ◌∙◌, subst, arith}
use Rattle.std.specs.Prelude.{slice_get}
use Rattle.file_messages.specs.declared.kind.CopyKind.{CopyKind}
use Rattle.file_messages.specs.declared.job.Work.{Work}
use Rattle.file_messages.specs.declared.job.WorkResult.{WorkResult}
use Rattle.file_messages.specs.declared.job.Job.{Job}
use Rattle.file_messages.specs.declared.message.Request.{Request}
use Rattle.file_pasts.specs.PutDue.{numbered}
use Rattle.file_pasts.specs.ServerDue.{ServerEvent, Gave, jobs_given, jobs_in_hand, jobs_due, jobs_if_handled, handled, next_job, AnswersJob, Fits}
use Rattle.file_server.specs.declared.server.FileServer.{FileServer}
use Rattle.file_server.specs.ServerStands.{CameBy, after_giving}

number_is : (n : ℕ) (o : Option Work) (job : Job) → Some job ≡ numbered n o → job.number ≡ n
number_is n None job e = absurd (let b : ⊥ = cc in b)
number_is n (Some work) job e = ap (λ (p : Option Job). elim p [ None ↦ job.number | Some j ↦ j.number ]) e

work_is : (n : ℕ) (o : Option Work) (job : Job) → Some job ≡ numbered n o → o ≡ Some job.work
work_is n None job e = absurd (let b : ⊥ = cc in b)
work_is n (Some work) job e = ap (λ (p : Option Job). elim p [ None ↦ Some job.work | Some j ↦ Some j.work ]) (sym e)

-- giving a job makes none due
jobs-gave : (kind : CopyKind) (o : Option Request) (work : Work) (past : List ServerEvent) → jobs_if_handled kind o (Gave work ∷ past) ≡ jobs_if_handled kind o past
jobs-gave kind None work past = refl
jobs-gave kind (Some r) work past = refl

pub came_given : (kind : CopyKind) (past : List ServerEvent) (job : Job) (n : FileServer) → Some job ≡ next_job kind past → CameBy kind (after_giving (next_job kind past) past) n
    → CameBy kind (Gave job.work ∷ past) n
came_given kind past job n e came = subst (λ (o : Option Job). CameBy kind (after_giving o past) n) (sym e) came

pub answers_it : (kind : CopyKind) (past : List ServerEvent) (m : FileServer) (job : Job) (result : WorkResult) → CameBy kind past m → Some job ≡ next_job kind past → Fits job.work result
    → AnswersJob kind (Gave job.work ∷ past) (record { number = job.number; result = result })
answers_it kind past m job result came e fits =
    let number : job.number ≡ jobs_given past = number_is (jobs_given past) (slice_get (jobs_due kind past) (jobs_in_hand past)) job e in
    let before : jobs_in_hand past ≤ jobs_given past = came.in_turn.before in
    record {
      place = jobs_in_hand past;
      number = (let z : job.number ≡ jobs_given past + 1 - (jobs_in_hand past + 1) + jobs_in_hand past = omega arith in z);
      given = omega arith;
      uncompleted = came.in_turn.ahead job.number (omega arith);
      work = job.work;
      work_is = ap (λ (works : List Work). slice_get works (jobs_in_hand past)) (jobs-gave kind (handled kind past) job.work past)
          ∙ work_is (jobs_given past) (slice_get (jobs_due kind past) (jobs_in_hand past)) job e;
      fits = fits;
    }
