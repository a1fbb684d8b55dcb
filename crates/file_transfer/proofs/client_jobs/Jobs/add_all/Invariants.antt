use Rattle.std.proofs.Common.{◌≡◌, ◌+◌, List, ◌++◌, length}
use Rattle.file_messages.specs.declared.job.Work.{Work}
use Rattle.file_pasts.specs.ClientPast.{ClientEvent}
use Rattle.file_transfer.specs.ClientJobs.{JobsStand}
use Rattle.file_transfer.proofs.client_jobs.Jobs.add_all.Given as goal

abbrev pub invariant-loop-work : goal.invariant-loop-work
invariant-loop-work l = record {
  added : List Work;
  all : added ++ l.works.items ≡ l.initial.works.items;
  kept : l.self.kept + length added ≡ l.initial.self.kept;
  stand : (came_due : List Work) (past : List ClientEvent) → JobsStand came_due past l.initial.self → JobsStand (came_due ++ added) past l.self;
}

abbrev pub decreases-loop-work : goal.decreases-loop-work
decreases-loop-work l = length l.works.items
