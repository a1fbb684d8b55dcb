-- How the jobs of a client's machine stand after its past.
use Rattle.std.specs.Prelude.{◌≡◌, ◌≤◌, Option, Some, None, List, ◌∷◌, length, drop, map}
use Rattle.file_transfer.specs.declared.client_jobs.Jobs.{Jobs}
use Rattle.file_transfer.specs.declared.client_jobs.OutstandingJob.{OutstandingJob}
use Rattle.file_messages.specs.declared.job.Work.{Work}
use Rattle.file_messages.specs.declared.job.Job.{Job}
use Rattle.file_pasts.specs.ClientPast.{ClientEvent, Gave, jobs_given, open_jobs, page_unloaded}

-- what is kept of a job that is not completed
abbrev pub outstanding_of : Job → OutstandingJob
outstanding_of job = record { number = job.number; frees = page_unloaded (Some job.work) }

-- of these jobs, which came due in this order, the machine has those that were not given
pub record JobsStand (came_due : List Work) (past : List ClientEvent) (q : Jobs) : Type 0 where
  pub due : q.due.items ≡ drop (length (jobs_given past)) came_due
  pub in_turn : length (jobs_given past) ≤ length came_due
  pub given : q.given ≡ length (jobs_given past)
  pub outstanding : q.outstanding.items ≡ map outstanding_of (open_jobs past)

abbrev pub after_giving : Option Job → List ClientEvent → List ClientEvent
after_giving None past = past
after_giving (Some job) past = Gave job.work ∷ past
