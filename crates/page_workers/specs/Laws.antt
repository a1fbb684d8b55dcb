-- What follows of a worker's jobs and events (this project's own).
use Rattle.std.specs.Prelude.{◌≡◌, ℕ, ◌++◌, Option, List, [], ◌∷◌, length, map, take}
use Rattle.smbd_base.specs.declared.page_event.PageEvent.{PageEvent}
use Rattle.smbd_base.specs.Pages.{Entry, IsPoolRun}
use Rattle.file_messages.specs.declared.job.Job.{Job}
use Rattle.file_messages.specs.declared.job.Completion.{Completion}
use Rattle.registration.specs.Regions.{RegionState}
use Rattle.page_workers.specs.declared.kept.Kept.{Kept}
use Rattle.file_messages.specs.declared.job.Work.{Work}
use Rattle.file_messages.specs.declared.job.Work.TheVariants.{Load, Fetch, Place, Unload}
use Rattle.file_pasts.specs.ClientPast.{IsOfKind}
use Rattle.file_pasts.specs.ServerDue.{Fits}
use Rattle.page_workers.specs.Jobs.{IsDone}
use Rattle.page_workers.specs.Runs.{JobRun}
use Rattle.page_workers.specs.Workers.{AreSteps}

-- one more job is given, and waits
abbrev pub GivenJobsWait : Type 0
GivenJobsWait = (kept : Option Kept) (waiting jobs : List Job) (sent : List Completion) (made : List PageEvent) (j : Job)
    → JobRun kept waiting jobs sent made → JobRun kept (waiting ++ j ∷ []) (jobs ++ j ∷ []) sent made

-- the completions have the numbers of the first jobs, in their order
abbrev pub NumbersFollow : Type 0
NumbersFollow = (kept : Option Kept) (waiting jobs : List Job) (sent : List Completion) (made : List PageEvent)
    → JobRun kept waiting jobs sent made → map (λ (c : Completion). c.number) sent ≡ take (length sent) (map (λ (j : Job). j.number) jobs)

-- a pool's past with these events of one pass, the oldest first
abbrev pub with_events : ℕ → List PageEvent → List Entry → List Entry
with_events pass [] past = past
with_events pass (e ∷ made) past = with_events pass made (record { pass = pass; event = e } ∷ past)

-- the events of a worker go on with the past of its region's pages
abbrev pub StepsExtendPasts : Type 0
StepsExtendPasts = (first count pass : ℕ) (past : List Entry) (made : List PageEvent) (a b : RegionState)
    → IsPoolRun first count past a.pages → AreSteps made a b → IsPoolRun first count (with_events pass made past) b.pages

-- the completion of a finished job answers the client that gave the job
abbrev pub AnswersClients : Type 0
AnswersClients = (j : Job) (c : Completion) (e : PageEvent) → IsDone j c e → IsOfKind j.work c.result

-- a server gives Fetches and Places alone
abbrev pub IsOfServer : Work → Type 0
IsOfServer (Load page right bytes) = ⊥
IsOfServer (Fetch d) = Unit {0}
IsOfServer (Place d bytes) = Unit {0}
IsOfServer (Unload token) = ⊥

-- and it answers the server that gave it
abbrev pub AnswersServers : Type 0
AnswersServers = (j : Job) (c : Completion) (e : PageEvent) → IsOfServer j.work → IsDone j c e → Fits j.work c.result
