-- A client of a get whose jobs are done as soon as they are given stands by some past after each call.
use Rattle.std.proofs.Common.{◌≡◌, ℕ, ◌+◌, ◌≤◌, Option, Some, None, List, [], ◌∷◌, length, refl, sym, ap, ◌∙◌, subst, arith}
use Rattle.std.specs.Prelude.{slice_get}
use Rattle.file_messages.specs.declared.kind.Channel.{Channel}
use Rattle.file_messages.specs.declared.message.Request.{Request}
use Rattle.file_messages.specs.declared.job.Work.{Work}
use Rattle.file_messages.specs.declared.job.WorkResult.{WorkResult}
use Rattle.file_messages.specs.declared.job.Job.{Job}
use Rattle.file_pasts.specs.ClientPast.{ClientEvent, Gave, Completed, Received, requests_sent, jobs_given, open_jobs, has_failed, AnswersJob, IsOfKind}
use Rattle.file_pasts.specs.GetDue.{next_job, next_request, next_group, jobs_due}
use Rattle.file_transfer.specs.declared.get_client.GetClient.{GetClient}
use Rattle.file_transfer.specs.ClientJobs.{after_giving}
use Rattle.file_transfer.specs.ClientStands.{past_after_sending}
use Rattle.file_transfer.specs.GetStands.{after_receiving}
use Rattle.file_transfer.specs.GetClientStands.{CameBy}
use Rattle.file_tests.specs.Getting.{IsGetting}
use Rattle.file_tests.proofs.PuttingLemmas.{more_sent, still_open, number_is, only_job, none_left}

-- ---- a request is given

pub getting-sent : (m n : GetClient) (asked : ℕ) (g : IsGetting m asked) → CameBy g.channel (past_after_sending (next_request g.channel g.past) g.past) n → IsGetting n (asked + 1)
getting-sent m n asked g came = record {
  channel = g.channel;
  past = past_after_sending (next_request g.channel g.past) g.past;
  came = came;
  idle = still_open (next_request g.channel g.past) g.past ∙ g.idle;
  few = (let f = g.few in omega (arith, f, more_sent (next_request g.channel g.past) g.past));
}

-- ---- a job is given

in_turn : (channel : Channel) (past : List ClientEvent) (job : Job) → Some job ≡ next_job channel past → job.number ≡ length (jobs_given past)
in_turn channel past job e = number_is (has_failed past) channel (length (jobs_given past)) (slice_get (jobs_due past) (length (jobs_given past))) job e

pub came_given : (channel : Channel) (past : List ClientEvent) (job : Job) (n : GetClient) → Some job ≡ next_job channel past
    → CameBy channel (after_giving (next_job channel past) past) n → CameBy channel (Gave job.work ∷ past) n
came_given channel past job n e came = subst (λ (o : Option Job). CameBy channel (after_giving o past) n) (sym e) came

pub answers_it : (channel : Channel) (past : List ClientEvent) (job : Job) (result : WorkResult) → open_jobs past ≡ [] → Some job ≡ next_job channel past
    → IsOfKind job.work result → AnswersJob (Gave job.work ∷ past) (record { number = job.number; result = result })
answers_it channel past job result idle e fits = record {
  work = job.work;
  is_open = only_job job.number (length (jobs_given past)) (open_jobs past) job.work idle (in_turn channel past job e);
  fits = fits;
}

pub getting-worked : (m n : GetClient) (asked : ℕ) (g : IsGetting m asked) (job : Job) (result : WorkResult) → Some job ≡ next_job g.channel g.past
    → CameBy g.channel (Completed (record { number = job.number; result = result }) ∷ (Gave job.work ∷ g.past)) n → IsGetting n asked
getting-worked m n asked g job result e came = record {
  channel = g.channel;
  past = Completed (record { number = job.number; result = result }) ∷ (Gave job.work ∷ g.past);
  came = came;
  idle = none_left job.number (length (jobs_given g.past)) (open_jobs g.past) job.work g.idle (in_turn g.channel g.past job e);
  few = g.few;
}

-- ---- a group is given

still_idle : (o : Option (List ℕ)) (past : List ClientEvent) → open_jobs (after_receiving o past) ≡ open_jobs past
still_idle None past = refl
still_idle (Some bytes) past = refl

as_many : (o : Option (List ℕ)) (past : List ClientEvent) → requests_sent (after_receiving o past) ≡ requests_sent past
as_many None past = refl
as_many (Some bytes) past = refl

pub getting-received : (m n : GetClient) (asked : ℕ) (g : IsGetting m asked) → CameBy g.channel (after_receiving (next_group g.channel g.past) g.past) n → IsGetting n asked
getting-received m n asked g came = record {
  channel = g.channel;
  past = after_receiving (next_group g.channel g.past) g.past;
  came = came;
  idle = still_idle (next_group g.channel g.past) g.past ∙ g.idle;
  few = subst (λ (rs : _). length rs ≤ asked) (sym (as_many (next_group g.channel g.past) g.past)) g.few;
}
