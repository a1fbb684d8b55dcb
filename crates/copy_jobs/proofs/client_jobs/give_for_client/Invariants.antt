use Rattle.std.proofs.Common.{◌≡◌}
use Rattle.smbd_base.specs.declared.end_id.EndId.TheVariants as side
use Rattle.page_crew.specs.Crews.{workers_of, dones_of}
use Rattle.copy_jobs.specs.Jobs.{IsSameBut}
use Rattle.copy_jobs.proofs.JobsLeft.{jobs_left}
use Rattle.copy_jobs.proofs.Giving.{ClientGivesOn}
use Rattle.copy_jobs.proofs.client_jobs.give_for_client.Given as goal

abbrev pub invariant-loop-job : goal.invariant-loop-job
invariant-loop-job l = record {
  given : ClientGivesOn l.initial.client l.initial.crew l.client l.crew;
  same : IsSameBut side.Client l.initial.crew l.crew;
  untaken : dones_of (workers_of side.Client l.crew) ≡ dones_of (workers_of side.Client l.initial.crew);
}

abbrev pub decreases-loop-job : goal.decreases-loop-job
decreases-loop-job l = jobs_left l.client
