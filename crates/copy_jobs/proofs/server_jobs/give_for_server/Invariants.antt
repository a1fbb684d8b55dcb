use Rattle.std.proofs.Common.{◌≡◌}
use Rattle.smbd_base.specs.declared.end_id.EndId.TheVariants as side
use Rattle.page_crew.specs.Crews.{workers_of, dones_of}
use Rattle.copy_jobs.specs.Jobs.{IsSameBut}
use Rattle.copy_jobs.proofs.JobsLeft.{server_left}
use Rattle.copy_jobs.proofs.Giving.{ServerGivesOn}
use Rattle.copy_jobs.proofs.server_jobs.give_for_server.Given as goal

abbrev pub invariant-loop-job : goal.invariant-loop-job
invariant-loop-job l = record {
  given : ServerGivesOn l.initial.server l.initial.crew l.server l.crew;
  same : IsSameBut side.Server l.initial.crew l.crew;
  untaken : dones_of (workers_of side.Server l.crew) ≡ dones_of (workers_of side.Server l.initial.crew);
}

abbrev pub decreases-loop-job : goal.decreases-loop-job
decreases-loop-job l = server_left l.server
