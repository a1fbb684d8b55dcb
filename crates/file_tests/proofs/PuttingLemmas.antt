-- A client of a put whose jobs are done as soon as they are given stands by some past after each call. The first lemmas of
-- each part serve a get as well.
use Rattle.std.proofs.Common.{◌≡◌, ℕ, ◌+◌, ◌≤◌, ◌==◌, Bool, true, false, cond, Option, Some, None, List, [], ◌∷◌, ◌++◌, length, length-append, refl, sym, ap, ◌∙◌, subst, arith}
use Rattle.std.specs.Prelude.{slice_get}
use Rattle.std.proofs.lemmas.Bool.Decides.{nat_tests}
use Rattle.file_messages.specs.declared.kind.Channel.{Channel}
use Rattle.file_messages.specs.declared.kind.Channel.TheVariants as channels
use Rattle.file_messages.specs.declared.message.Request.{Request}
use Rattle.file_messages.specs.declared.job.Work.{Work}
use Rattle.file_messages.specs.declared.job.WorkResult.{WorkResult}
use Rattle.file_messages.specs.declared.job.Job.{Job}
use Rattle.file_pasts.specs.ClientPast.{ClientEvent, Gave, Completed, requests_sent, jobs_given, open_jobs, job_at, without_job, has_failed, AnswersJob, IsOfKind}
use Rattle.file_pasts.specs.PutDue.{Setup, next_job, next_request, jobs_due, numbered}
use Rattle.file_transfer.specs.declared.put_client.PutClient.{PutClient}
use Rattle.file_transfer.specs.ClientJobs.{after_giving}
use Rattle.file_transfer.specs.ClientStands.{past_after_sending}
use Rattle.file_transfer.specs.PutClientStands.{CameBy}
use Rattle.file_tests.specs.Putting.{IsPutting}

-- ---- a request is given

pub more_sent : (o : Option Request) (past : List ClientEvent) → length (requests_sent (past_after_sending o past)) ≤ length (requests_sent past) + 1
more_sent None past = omega arith
more_sent (Some r) past = omega (arith, length-append (requests_sent past) (r ∷ []))

pub still_open : (o : Option Request) (past : List ClientEvent) → open_jobs (past_after_sending o past) ≡ open_jobs past
still_open None past = refl
still_open (Some r) past = refl

pub putting-sent : (m n : PutClient) (asked : ℕ) (p : IsPutting m asked) → CameBy p.setup (past_after_sending (next_request p.setup p.past) p.past) n → IsPutting n (asked + 1)
putting-sent m n asked p came = record {
  setup = p.setup;
  past = past_after_sending (next_request p.setup p.past) p.past;
  came = came;
  idle = still_open (next_request p.setup p.past) p.past ∙ p.idle;
  few = (let f = p.few in omega (arith, f, more_sent (next_request p.setup p.past) p.past));
}

-- ---- a job is given

pub number_is : (t : Bool) (channel : Channel) (n : ℕ) (o : Option Work) (job : Job)
    → Some job ≡ cond t None (elim channel [ channels.None ↦ None | channels.V1 ↦ numbered n o ]) → job.number ≡ n
number_is true channel n o job e = absurd (let b : ⊥ = cc in b)
number_is false channels.None n o job e = absurd (let b : ⊥ = cc in b)
number_is false channels.V1 n None job e = absurd (let b : ⊥ = cc in b)
number_is false channels.V1 n (Some work) job e = ap (λ (p : Option Job). elim p [ None ↦ job.number | Some j ↦ j.number ]) e

pub in_turn : (s : Setup) (past : List ClientEvent) (job : Job) → Some job ≡ next_job s past → job.number ≡ length (jobs_given past)
in_turn s past job e = number_is (has_failed past) s.channel (length (jobs_given past)) (slice_get (jobs_due s.windows past) (length (jobs_given past))) job e

same_number : (n m : ℕ) → n ≡ m → (m == n) ≡ true
same_number n m e = grind (arith, nat_tests)

pub only_job : (n m : ℕ) (jobs : List Job) (work : Work) → jobs ≡ [] → n ≡ m → job_at n (jobs ++ (record { number = m; work = work }) ∷ []) ≡ Some work
only_job n m jobs work none e =
    ap (λ (js : List Job). job_at n (js ++ (record { number = m; work = work }) ∷ [])) none ∙ ap (λ (t : Bool). cond t (Some work) None) (same_number n m e)

pub none_left : (n m : ℕ) (jobs : List Job) (work : Work) → jobs ≡ [] → n ≡ m → without_job n (jobs ++ (record { number = m; work = work }) ∷ []) ≡ []
none_left n m jobs work none e =
    ap (λ (js : List Job). without_job n (js ++ (record { number = m; work = work }) ∷ [])) none
    ∙ ap (λ (t : Bool). cond t [] ((record { number = m; work = work }) ∷ [])) (same_number n m e)

pub given_after : (s : Setup) (past : List ClientEvent) (job : Job) → Some job ≡ next_job s past → after_giving (next_job s past) past ≡ Gave job.work ∷ past
given_after s past job e = ap (λ (o : Option Job). after_giving o past) (sym e)

pub came_given : (s : Setup) (past : List ClientEvent) (job : Job) (n : PutClient) → Some job ≡ next_job s past → CameBy s (after_giving (next_job s past) past) n
    → CameBy s (Gave job.work ∷ past) n
came_given s past job n e came = subst (λ (after : List ClientEvent). CameBy s after n) (given_after s past job e) came

pub answers_it : (s : Setup) (past : List ClientEvent) (job : Job) (result : WorkResult) → open_jobs past ≡ [] → Some job ≡ next_job s past → IsOfKind job.work result
    → AnswersJob (Gave job.work ∷ past) (record { number = job.number; result = result })
answers_it s past job result idle e fits = record {
  work = job.work;
  is_open = only_job job.number (length (jobs_given past)) (open_jobs past) job.work idle (in_turn s past job e);
  fits = fits;
}

pub putting-worked : (m n : PutClient) (asked : ℕ) (p : IsPutting m asked) (job : Job) (result : WorkResult) → Some job ≡ next_job p.setup p.past
    → CameBy p.setup (Completed (record { number = job.number; result = result }) ∷ (Gave job.work ∷ p.past)) n → IsPutting n asked
putting-worked m n asked p job result e came = record {
  setup = p.setup;
  past = Completed (record { number = job.number; result = result }) ∷ (Gave job.work ∷ p.past);
  came = came;
  idle = none_left job.number (length (jobs_given p.past)) (open_jobs p.past) job.work p.idle (in_turn p.setup p.past job e);
  few = p.few;
}

-- no job is due
pub putting-idle : (m n : PutClient) (asked : ℕ) (p : IsPutting m asked) → None ≡ next_job p.setup p.past → CameBy p.setup (after_giving (next_job p.setup p.past) p.past) n
    → IsPutting n asked
putting-idle m n asked p e came = record {
  setup = p.setup;
  past = p.past;
  came = subst (λ (o : Option Job). CameBy p.setup (after_giving o p.past) n) (sym e) came;
  idle = p.idle;
  few = p.few;
}
