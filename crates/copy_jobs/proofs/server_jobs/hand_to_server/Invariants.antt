use Rattle.smbd_base.specs.declared.end_id.EndId.TheVariants as side
use Rattle.page_crew.specs.Crews.{workers_of, waiting_of}
use Rattle.copy_jobs.specs.Jobs.{IsSameBut}
use Rattle.copy_jobs.proofs.Handing.{ServerHandsOn}
use Rattle.copy_jobs.proofs.server_jobs.hand_to_server.Given as goal

abbrev pub invariant-loop-completion : goal.invariant-loop-completion
invariant-loop-completion l = record {
  handed : ServerHandsOn l.initial.server l.initial.crew l.server l.crew;
  same : IsSameBut side.Server l.initial.crew l.crew;
}

abbrev pub decreases-loop-completion : goal.decreases-loop-completion
decreases-loop-completion l = waiting_of (workers_of side.Server l.crew)
