-- A worker that shares its region with others, and what a call leaves of it (this project's own).
use Rattle.std.specs.Prelude.{◌≡◌, ◌≢◌, ℕ, zero, suc, ◌+◌, ◌≤◌, ◌<◌, ◌⊎◌, ◌++◌, Bool, true, false, option_to_list, Option, Some, None, List, [], ◌∷◌, length, map, reverse}
use Rattle.smbd_base.specs.declared.page_event.PageEvent.{PageEvent}
use Rattle.event_log.specs.declared.log_line.LogLine.{LogLine}
use Rattle.event_log.specs.Lines.{logged_page}
use Rattle.file_messages.specs.declared.job.Job.{Job}
use Rattle.file_messages.specs.declared.job.Completion.{Completion}
use Rattle.completion_ring.specs.declared.jobs.Jobs.{Jobs}
use Rattle.completion_ring.specs.declared.done.Done.{Done}
use Rattle.completion_ring.specs.Rings.{sent, received, known, free, SameJobs, SameDone}
use Rattle.shared_pages.specs.declared.view.Opening.{Opening}
use Rattle.shared_pages.specs.declared.page_pass.PagePass.{PagePass}
use Rattle.shared_pages.specs.Calls.{known_by}
use Rattle.page_workers.specs.declared.kept.Kept.{Kept}
use Rattle.page_workers.specs.declared.kept.Kept.TheVariants.{Fresh}
use Rattle.page_workers.specs.declared.kept.Tried.{Tried}
use Rattle.page_workers.specs.declared.kept.Tried.TheVariants.{Finished, Begun, Refused}
use Rattle.page_workers.specs.Runs.{JobRun}
use Rattle.shared_workers.specs.declared.answer.One.{One}
use Rattle.shared_workers.specs.declared.answer.One.TheVariants.{Did, Held, Idle, Full}
use Rattle.shared_workers.specs.Tries.{HasTried}

-- The worker's number, its pass, the job that it keeps, the ring from which its jobs come, the ring to which its completions go, the
-- completion for which that one had no room, and the lines of its events that weren't told.
pub record WorkerState : Type 0 where
  pub number : ℕ
  pub pass : PagePass
  pub kept : Option Kept
  pub jobs : Done Job
  pub done : Jobs Completion
  pub unsent : Option Completion
  pub lines : List LogLine

-- a worker that has done nothing
abbrev pub opened : ℕ → PagePass → Done Job → Jobs Completion → WorkerState
opened number pass jobs done =
    record { number = number; pass = pass; kept = None; jobs = jobs; done = done; unsent = None; lines = [] }

-- ---- what a worker did since it was opened, with the oldest first

-- the jobs that it took
abbrev pub taken : WorkerState → List Job
taken w = received w.jobs

-- the completions of the jobs that it finished: those that it sent, and the one for which there was no room
abbrev pub finished : WorkerState → List Completion
finished w = sent w.done ++ option_to_list w.unsent

-- the events that its pass made
abbrev pub events : WorkerState → List PageEvent
events w = reverse (known_by w.pass).made

-- Of the jobs that the worker took, the finished ones come first: the k-th completion is of the k-th job, and the k-th event is the
-- one that it made. Then comes the job that is kept, if one is.
abbrev pub DoesJobs : WorkerState → Type 0
DoesJobs w = JobRun w.kept [] (taken w) (finished w) (events w)

-- ---- one call

-- the worker went on: it took some jobs, finished some and made some events
pub record WentOn (a b : WorkerState) : Type 0 where
  pub took : List Job
  pub told : List Completion
  pub made : List PageEvent
  pub gone : List Completion
  pub number : b.number ≡ a.number
  pub pass : (known_by b.pass).number ≡ (known_by a.pass).number
  pub jobs : SameDone a.jobs b.jobs
  pub done : SameJobs a.done b.done
  pub takes : taken b ≡ taken a ++ took
  pub tells : finished b ≡ finished a ++ told
  pub makes : events b ≡ events a ++ made
  pub sends : sent b.done ≡ sent a.done ++ gone
  pub room : free a.done + length (sent a.done) ≤ free b.done + length (sent b.done)
  pub lines : b.lines ≡ a.lines ++ map logged_page made
  pub does : DoesJobs a → DoesJobs b

-- no job is left that is known
abbrev pub IsIdle : WorkerState → Type 0
IsIdle w = (w.kept ≡ None) × (known w.jobs ≡ [])

-- the ring of completions has no room for one
abbrev pub IsFull : WorkerState → Type 0
IsFull w = (w.unsent ≢ None) × (free w.done ≡ 0)

-- the next job is the one that is kept, or where none is the next one of the ring
abbrev pub IsNext : WorkerState → WorkerState → Kept → Type 0
IsNext a b kept = ((a.kept ≡ Some kept) × (taken b ≡ taken a))
    ⊎ ((a.kept ≡ None) × ((job : Job) × (kept ≡ Fresh job) × (taken b ≡ taken a ++ job ∷ [])))

-- the worker keeps a job: the one that it kept, or where it kept none the next one of the ring
abbrev pub HasKept : WorkerState → WorkerState → Type 0
HasKept a b = (kept : Kept) × ((b.kept ≡ Some kept) × IsNext a b kept)

-- what is kept after a try, and what was told
abbrev pub kept_after : Kept → Tried → Option Kept
kept_after kept (Finished c) = None
kept_after kept (Begun left) = Some left
kept_after kept Refused = Some kept

abbrev pub told_by : Tried → List Completion
told_by (Finished c) = c ∷ []
told_by (Begun left) = []
told_by Refused = []

abbrev pub is_finished : Tried → Bool
is_finished (Finished c) = true
is_finished (Begun left) = false
is_finished Refused = false

-- the worker tried the job that it keeps once; it answers whether the job is finished
pub record TriedKept (pool : Opening) (a b : WorkerState) (over : Bool) : Type 0 where
  pub kept : Kept
  pub kept_is : a.kept ≡ Some kept
  pub tried : Tried
  pub line : Option LogLine
  pub tries : HasTried pool kept tried line (known_by a.pass) (known_by b.pass)
  pub left : b.kept ≡ kept_after kept tried
  pub tells : finished b ≡ finished a ++ told_by tried
  pub lines : b.lines ≡ a.lines ++ option_to_list line
  pub says : over ≡ is_finished tried
  pub number : b.number ≡ a.number
  pub jobs : b.jobs ≡ a.jobs
  pub done : SameJobs a.done b.done
  pub gone : List Completion
  pub sends : sent b.done ≡ sent a.done ++ gone
  pub room : free a.done + length (sent a.done) ≤ free b.done + length (sent b.done)
  pub full : b.unsent ≢ None → free b.done ≡ 0

-- the worker tried its next job once; it answers whether the job is finished
pub record TriedNext (pool : Opening) (a b : WorkerState) (over : Bool) : Type 0 where
  pub kept : Kept
  pub next : IsNext a b kept
  pub tried : Tried
  pub line : Option LogLine
  pub tries : HasTried pool kept tried line (known_by a.pass) (known_by b.pass)
  pub left : b.kept ≡ kept_after kept tried
  pub tells : finished b ≡ finished a ++ told_by tried
  pub lines : b.lines ≡ a.lines ++ option_to_list line
  pub says : over ≡ is_finished tried

-- no job was tried
pub record TriedNone (a b : WorkerState) : Type 0 where
  pub pass : b.pass ≡ a.pass
  pub tells : finished b ≡ finished a
  pub lines : b.lines ≡ a.lines

-- and none was taken
pub record TookNone (a b : WorkerState) : Type 0 where
  pub none : TriedNone a b
  pub kept : b.kept ≡ a.kept
  pub takes : taken b ≡ taken a
  pub knows : known b.jobs ≡ known a.jobs

-- what one call of a worker came to: its next job was tried once, and is finished or not; or there is none; or the completion of the
-- one before can't be sent yet
abbrev pub HasAnswered : Opening → One → WorkerState → WorkerState → Type 0
HasAnswered pool Did a b = TriedNext pool a b true
HasAnswered pool Held a b = TriedNext pool a b false
HasAnswered pool Idle a b = TookNone a b × IsIdle b
HasAnswered pool Full a b = TookNone a b × (IsFull a × IsFull b)

-- without memory no job was tried; the next one may be kept
pub record IsUntried (a b : WorkerState) : Type 0 where
  pub none : TriedNone a b
  pub next : ((b.kept ≡ a.kept) × (taken b ≡ taken a)) ⊎ HasKept a b

-- ---- one call of up to 16 jobs

-- so many jobs were finished one after another, each at its first try of this call
abbrev pub HasFinished : Opening → ℕ → WorkerState → WorkerState → Type 0
HasFinished pool zero a b = b ≡ a
HasFinished pool (suc n) a b = (w : WorkerState) × (HasAnswered pool Did a w × HasFinished pool n w b)

-- what comes after the finished jobs: nothing, since they are 16; or one more try whose job isn't finished, or no job, or no room; or
-- memory ran out
abbrev pub EndsRun : Opening → ℕ → Bool → WorkerState → WorkerState → Type 0
EndsRun pool n fed a b = ((n ≡ 16) × (b ≡ a)) ⊎ (HasAnswered pool Held a b ⊎ (HasAnswered pool Idle a b ⊎ (HasAnswered pool Full a b ⊎ ((fed ≡ false) × IsUntried a b))))

-- the tries of one call, one after another: so many jobs were finished
pub record HasTriedJobs (pool : Opening) (n : ℕ) (fed : Bool) (a b : WorkerState) : Type 0 where
  pub worker : WorkerState
  pub finished : HasFinished pool n a worker
  pub ends : EndsRun pool n fed worker b

-- the completion that waits, if one does
abbrev pub waits : WorkerState → ℕ
waits w = length (option_to_list w.unsent)

-- What a worker did when it was called: at most 16 jobs; fewer where none is left that is known, or one is refused, or the ring of
-- completions is full, or memory ran out. Where that ring had room for 16 more, all are sent.
pub record HasRun (pool : Opening) (fed : Bool) (a b : WorkerState) : Type 0 where
  pub went : WentOn a b
  pub most : length went.told ≤ 16
  pub tries : HasTriedJobs pool (length went.told) fed a b
  pub all : fed ≡ true → length went.told < 16 → IsIdle b ⊎ (b.kept ≢ None ⊎ IsFull b)
  pub sent : waits a + 16 ≤ free a.done → b.unsent ≡ None
