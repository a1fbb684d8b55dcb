-- The workers of both ends of a copy, with the region whose pages they share (this project's own).
use Rattle.std.specs.Prelude.{◌≡◌, ℕ, ◌+◌, ◌≤◌, true, Some, None, List, [], ◌∷◌, ◌++◌, length, map, replicate, reverse, slice_get, slice_set, sum_by}
use Rattle.smbd_base.specs.declared.end_id.EndId.{EndId}
use Rattle.smbd_base.specs.declared.end_id.EndId.TheVariants.{Client, Server}
use Rattle.smbd_base.specs.declared.page_event.PageEvent.{PageEvent}
use Rattle.smbd_base.specs.Pages.{Entry, opened_page}
use Rattle.smbd_base.specs.PagesFit.{events_by}
use Rattle.event_log.specs.declared.log_line.LogLine.{LogLine}
use Rattle.event_log.specs.Lines.{logged_page}
use Rattle.file_messages.specs.declared.kind.CopyKind.{CopyKind}
use Rattle.file_messages.specs.declared.job.Job.{Job}
use Rattle.file_messages.specs.declared.job.Completion.{Completion}
use Rattle.file_pasts.specs.ClientPast.{Gave, Completed, jobs_given, AnswersJob}
use Rattle.file_pasts.specs.ServerDue as server
use Rattle.file_pasts.specs.ServerDue.{IsServer}
use Rattle.registration.specs.Regions.{RegionState}
use Rattle.page_workers.specs.Workers.{WorkerState, HaveRun}
use Rattle.copy_laws.specs.ClientDone.{JobsAnswered}
use Rattle.copy_laws.specs.Coupled.{Pasts, AreCoupled}
use Rattle.copy_laws.specs.Steps.{client_after, server_after, workers_opened, with_job, with_done}

-- the pages with their records, and the workers of each end
pub record CrewState : Type 0 where
  pub region : RegionState
  pub clients : List WorkerState
  pub servers : List WorkerState

-- each end has as many workers, from 1 to 8, and there are from 16 to 255 pages
pub record IsSized (c : CrewState) : Type 0 where
  pub some : 1 ≤ length c.clients
  pub few : length c.clients ≤ 8
  pub even : length c.servers ≡ length c.clients
  pub least : 16 ≤ length c.region.pages
  pub most : length c.region.pages ≤ 255

-- the workers did what the machines with these pasts gave them, and the pages have their past
abbrev pub IsCrewOf : Pasts → CrewState → Type 0
IsCrewOf p c = AreCoupled (length c.clients) (length c.region.pages) p c.region.pages c.clients c.servers

abbrev pub workers_of : EndId → CrewState → List WorkerState
workers_of Client c = c.clients
workers_of Server c = c.servers

-- the crew with other workers of one end
abbrev pub with_workers : EndId → List WorkerState → CrewState → CrewState
with_workers Client ws c = record c { clients = ws }
with_workers Server ws c = record c { servers = ws }

-- so many workers of each end, to which nothing was given, and so many pages, none of which was loaded
abbrev pub opened_crew : ℕ → ℕ → CrewState
opened_crew workers pages = record {
  region = record { pages = replicate pages (opened_page 1); table = replicate pages None };
  clients = workers_opened 0 workers;
  servers = workers_opened workers workers;
}

-- ---- lines

-- the lines of each worker that weren't told
abbrev pub lines_of : List WorkerState → List (List LogLine)
lines_of ws = map (λ (w : WorkerState). w.lines) ws

-- the completions of each worker that weren't taken
abbrev pub dones_of : List WorkerState → List (List Completion)
dones_of ws = map (λ (w : WorkerState). w.done) ws

-- the worker has told its lines
abbrev pub told : WorkerState → WorkerState
told w = record w { lines = [] }

-- ---- jobs

-- it is the next job of its end's machine
abbrev pub IsNextJob : EndId → Job → Pasts → Type 0
IsNextJob Client j p = JobsAnswered p.client × (j.number ≡ length (jobs_given p.client))
IsNextJob Server j p = ((kind : CopyKind) × IsServer kind p.server) × (j.number ≡ server.jobs_given p.server)

-- the machine gave it
abbrev pub after_giving : EndId → Job → Pasts → Pasts
after_giving Client j p = client_after (Gave j.work) p
after_giving Server j p = server_after (server.Gave j.work) p

-- so the crew after it is that of the machine after it
abbrev pub HasGiven : EndId → Job → CrewState → CrewState → Type 0
HasGiven end j a b = (p : Pasts) → IsNextJob end j p → IsCrewOf p a → IsCrewOf (after_giving end j p) b

-- the job waits behind the others of the worker at this place
pub record IsGivenAt (place : ℕ) (j : Job) (before after : List WorkerState) : Type 0 where
  pub worker : WorkerState
  pub at : slice_get before place ≡ Some worker
  pub given : after ≡ slice_set before place (with_job j worker)

-- ---- completions

-- no completion waits to be taken
abbrev pub HasNone : List WorkerState → Type 0
HasNone [] = Unit {0}
HasNone (w ∷ ws) = (w.done ≡ []) × HasNone ws

-- how many completions wait
abbrev pub waiting_of : List WorkerState → ℕ
waiting_of ws = sum_by (λ (w : WorkerState). length w.done) ws

-- the completion was the oldest one of a worker
pub record IsTakenFrom (c : Completion) (before after : List WorkerState) : Type 0 where
  pub place : ℕ
  pub worker : WorkerState
  pub rest : List Completion
  pub at : slice_get before place ≡ Some worker
  pub oldest : worker.done ≡ c ∷ rest
  pub left : after ≡ slice_set before place (with_done rest worker)

-- the completion answers a job of its end's machine, and the crew is that of the machine to which it is handed
abbrev pub IsHanded : EndId → Completion → CrewState → CrewState → Type 0
IsHanded Client c a b = (p : Pasts) → IsCrewOf p a → AnswersJob p.client c × IsCrewOf (client_after (Completed c) p) b
IsHanded Server c a b = (kind : CopyKind) (p : Pasts) → IsServer kind p.server → IsCrewOf p a
    → server.AnswersJob kind p.server c × IsCrewOf (server_after (server.Completed c) p) b

-- a completion was taken, and one fewer waits at its end
pub record HasTaken (end : EndId) (c : Completion) (a b : CrewState) : Type 0 where
  pub handed : IsHanded end c a b
  pub fewer : waiting_of (workers_of end a) ≡ waiting_of (workers_of end b) + 1

-- ---- a turn of all workers

-- as many workers, and as many pages
pub record AreAsMany (a b : CrewState) : Type 0 where
  pub clients : length b.clients ≡ length a.clients
  pub servers : length b.servers ≡ length a.servers
  pub pages : length b.region.pages ≡ length a.region.pages

-- the client's workers did their jobs, and after them the server's
pub record HaveTurned (a b : CrewState) : Type 0 where
  pub between : RegionState
  pub clients : HaveRun a.clients b.clients a.region between true
  pub servers : HaveRun a.servers b.servers between b.region true

-- a worker's pass made some events, and the worker has their lines
pub record Grew (pass : ℕ) (before after : List Entry) (w v : WorkerState) : Type 0 where
  pub made : List PageEvent
  pub events : reverse (events_by pass after) ≡ reverse (events_by pass before) ++ made
  pub lines : v.lines ≡ w.lines ++ map logged_page made

-- each worker of an end, whose passes have the numbers from the first one on
abbrev pub AllGrew : ℕ → List Entry → List Entry → List WorkerState → List WorkerState → Type 0
AllGrew first before after olds news = (place : ℕ) (w v : WorkerState) → slice_get olds place ≡ Some w → slice_get news place ≡ Some v
    → Grew (first + place) before after w v

-- the past of the pages went on by what the workers did
pub record GoesOn (p : Pasts) (a b : CrewState) : Type 0 where
  pub pool : List Entry
  pub coupled : IsCrewOf (record p { pool = pool }) b
  pub clients : AllGrew 0 p.pool pool a.clients b.clients
  pub servers : AllGrew (length a.clients) p.pool pool a.servers b.servers
