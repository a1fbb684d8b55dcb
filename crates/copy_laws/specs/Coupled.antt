-- How the machines of a copy, the workers of both ends and the pages of their region go together (this project's own). A past is a
-- list of events, the newest one first.
use Rattle.std.specs.Prelude.{◌≡◌, ℕ, ◌+◌, Some, List, ◌++◌, length, reverse, slice_get}
use Rattle.smbd_base.specs.Pages.{Entry, PageState, IsPoolRun}
use Rattle.smbd_base.specs.PagesFit.{events_by, AreMadeBy}
use Rattle.file_messages.specs.declared.job.Work.{Work}
use Rattle.file_messages.specs.declared.job.Completion.{Completion}
use Rattle.file_pasts.specs.ClientPast.{ClientEvent, jobs_given}
use Rattle.file_pasts.specs.ServerDue.{ServerEvent}
use Rattle.file_pasts.specs.ServerLaws.{works_given}
use Rattle.page_workers.specs.Runs.{JobRun}
use Rattle.page_workers.specs.Workers.{WorkerState}
use Rattle.copy_laws.specs.Shares.{jobs_for, completions_of}
use Rattle.copy_laws.specs.ClientDone.{completions_in}
use Rattle.copy_laws.specs.ServerDone.{completions_taken}

-- the pasts of both machines, and that of the pages: the events of all workers
pub record Pasts : Type 0 where
  pub client : List ClientEvent
  pub server : List ServerEvent
  pub pool : List Entry

-- One worker of its end's so many, whose machine gave these jobs and was handed these completions. It did its share of the jobs in their
-- turn; of its completions those come first that were handed to the machine.
pub record IsWorker (workers first place : ℕ) (works : List Work) (handed : List Completion) (pool : List Entry) (w : WorkerState) : Type 0 where
  pub number : w.number ≡ place + 1
  pub pass : w.pass ≡ first + place
  pub did : JobRun w.kept w.waiting (jobs_for workers (place + 1) 0 works) (completions_of workers (place + 1) works handed ++ w.done) (reverse (events_by (first + place) pool))

-- the workers of one end, whose passes have the numbers from the first one on
pub record AreWorkers (workers first : ℕ) (works : List Work) (handed : List Completion) (pool : List Entry) (ws : List WorkerState) : Type 0 where
  pub count : length ws ≡ workers
  pub each : (place : ℕ) (w : WorkerState) → slice_get ws place ≡ Some w → IsWorker workers first place works handed pool w

-- So many workers of each end, the client's with the first passes. Their events are the past of the pages, whose first loads have
-- generation 1.
pub record AreCoupled (workers count : ℕ) (p : Pasts) (pages : List PageState) (cs ss : List WorkerState) : Type 0 where
  pub run : IsPoolRun 1 count p.pool pages
  pub by : AreMadeBy (workers + workers) p.pool
  pub clients : AreWorkers workers 0 (jobs_given p.client) (completions_in p.client) p.pool cs
  pub servers : AreWorkers workers workers (works_given p.server) (completions_taken p.server) p.pool ss
