use Rattle.std.proofs.Common.{◌≡◌, ◌+◌, ◌++◌, List, take, map}
use Rattle.file_messages.specs.declared.job.Work.{Work}
use Rattle.file_pasts.specs.ClientPast.{ClientEvent}
use Rattle.file_pasts.specs.PutDue.{unloads_of}
use Rattle.file_transfer.specs.ClientJobs.{JobsStand}
use Rattle.file_transfer.specs.ClientStands.{descriptor_in}
use Rattle.file_transfer.proofs.client_jobs.Jobs.unload.Given as goal

abbrev pub invariant-loop-page : goal.invariant-loop-page
invariant-loop-page l = record {
  kept : l.self.kept + l.page-index ≡ l.initial.self.kept;
  due : (came_due : List Work) (past : List ClientEvent) → JobsStand came_due past l.initial.self
      → JobsStand (came_due ++ unloads_of (map descriptor_in (take l.page-index l.pages))) past l.self;
}
