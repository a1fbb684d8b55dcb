-- A worker, and what a call leaves of it (this project's own).
use Rattle.std.specs.Prelude.{◌≡◌, ℕ, zero, suc, ◌≤◌, ◌<◌, ◌⊎◌, ◌++◌, Bool, true, false, option_to_list, Option, Some, None, List, [], ◌∷◌, length, map}
use Rattle.smbd_base.specs.declared.page_event.PageEvent.{PageEvent}
use Rattle.event_log.specs.declared.log_line.LogLine.{LogLine}
use Rattle.event_log.specs.Lines.{logged_page}
use Rattle.file_messages.specs.declared.job.Job.{Job}
use Rattle.file_messages.specs.declared.job.Completion.{Completion}
use Rattle.registration.specs.Regions.{RegionState}
use Rattle.page_workers.specs.declared.kept.Kept.{Kept}
use Rattle.page_workers.specs.declared.kept.Kept.TheVariants.{Fresh}
use Rattle.page_workers.specs.declared.kept.Tried.{Tried}
use Rattle.page_workers.specs.declared.kept.Tried.TheVariants.{Finished, Begun, Refused}
use Rattle.page_workers.specs.declared.answer.One.{One}
use Rattle.page_workers.specs.declared.answer.One.TheVariants.{Did, Held, Idle}
use Rattle.page_workers.specs.Tries.{HasTried, IsRefused, IsStep}
use Rattle.page_workers.specs.Runs.{JobRun}

-- the worker's number, its pass's, the job that it keeps, the jobs that wait, the completions that wait to be taken,
-- and the lines of its events that weren't told
pub record WorkerState : Type 0 where
  pub number : ℕ
  pub pass : ℕ
  pub kept : Option Kept
  pub waiting : List Job
  pub done : List Completion
  pub lines : List LogLine

-- a worker to which nothing was given
abbrev pub opened : ℕ → ℕ → WorkerState
opened number pass = record { number = number; pass = pass; kept = None; waiting = []; done = []; lines = [] }

abbrev pub with_next : Option Kept → List Job → WorkerState → WorkerState
with_next (Some kept) waiting w = w
with_next None [] w = w
with_next None (j ∷ waiting) w = record w { kept = Some (Fresh j); waiting = waiting }

-- where no job is kept, the next one that waits is
abbrev pub next_kept : WorkerState → WorkerState
next_kept w = with_next w.kept w.waiting w

-- the worker after one try of the job that it keeps
abbrev pub after_try : Tried → Option LogLine → WorkerState → WorkerState
after_try (Finished c) line w = record w { kept = None; done = w.done ++ c ∷ []; lines = w.lines ++ option_to_list line }
after_try (Begun kept) line w = record w { kept = Some kept; lines = w.lines ++ option_to_list line }
after_try Refused line w = record w { lines = w.lines ++ option_to_list line }

abbrev pub is_finished : Tried → Bool
is_finished (Finished c) = true
is_finished (Begun kept) = false
is_finished Refused = false

-- the worker tried the job that it keeps; it answers whether the job is finished
pub record TriedOnce (a b : WorkerState) (r s : RegionState) (finished : Bool) : Type 0 where
  pub kept : Kept
  pub kept_is : a.kept ≡ Some kept
  pub tried : Tried
  pub line : Option LogLine
  pub tries : HasTried kept tried line r s
  pub after : b ≡ after_try tried line a
  pub says : finished ≡ is_finished tried

-- a region after these events, the oldest first, each the next one of its page
abbrev pub AreSteps : List PageEvent → RegionState → RegionState → Type 0
AreSteps [] a b = b.pages ≡ a.pages
AreSteps (e ∷ made) a b = (between : RegionState) × IsStep e a between × AreSteps made between b

-- the worker went on: it sent some completions and made some events, which its jobs asked for
pub record WentOn (a b : WorkerState) (r s : RegionState) : Type 0 where
  pub sent : List Completion
  pub made : List PageEvent
  pub number : b.number ≡ a.number
  pub pass : b.pass ≡ a.pass
  pub done : b.done ≡ a.done ++ sent
  pub lines : b.lines ≡ a.lines ++ map logged_page made
  pub steps : AreSteps made r s
  pub runs : (jobs : List Job) (before : List Completion) (earlier : List PageEvent)
      → JobRun a.kept a.waiting jobs before earlier → JobRun b.kept b.waiting jobs (before ++ sent) (earlier ++ made)

-- no job is left
abbrev pub IsIdle : WorkerState → Type 0
IsIdle w = (w.kept ≡ None) × (w.waiting ≡ [])

-- the job that is kept is refused by the region as it is
pub record IsHeld (w : WorkerState) (s : RegionState) : Type 0 where
  pub kept : Kept
  pub kept_is : w.kept ≡ Some kept
  pub refused : IsRefused kept s

-- what one call of a worker came to: its next job was tried once, and is finished or not; or there is none
abbrev pub HasAnswered : One → WorkerState → WorkerState → RegionState → RegionState → Type 0
HasAnswered Did a b r s = TriedOnce (next_kept a) b r s true
HasAnswered Held a b r s = TriedOnce (next_kept a) b r s false
HasAnswered Idle a b r s = IsIdle a × (b ≡ a) × (s ≡ r)

-- without memory no job was tried; the next one may be kept
abbrev pub IsUntried : WorkerState → WorkerState → RegionState → RegionState → Type 0
IsUntried a b r s = ((b ≡ a) ⊎ (b ≡ next_kept a)) × (s ≡ r)

-- so many jobs were finished one after another, each at its first try
abbrev pub HasFinished : ℕ → WorkerState → WorkerState → RegionState → RegionState → Type 0
HasFinished zero a b r s = (b ≡ a) × (s ≡ r)
HasFinished (suc n) a b r s = (w : WorkerState) × (q : RegionState) × TriedOnce (next_kept a) w r q true × HasFinished n w b q s

-- what comes after the finished jobs: one more try whose job isn't finished; or none, since they are 16, or no job is left, or memory ran out
abbrev pub EndsRun : ℕ → Bool → WorkerState → WorkerState → RegionState → RegionState → Type 0
EndsRun n fed a b r s = ((n ≡ 16) × (b ≡ a) × (s ≡ r)) ⊎ HasAnswered Held a b r s ⊎ HasAnswered Idle a b r s ⊎ ((fed ≡ false) × IsUntried a b r s)

-- the tries of one call, one after another: so many jobs were finished
pub record HasTriedJobs (n : ℕ) (a b : WorkerState) (r s : RegionState) (fed : Bool) : Type 0 where
  pub worker : WorkerState
  pub region : RegionState
  pub finished : HasFinished n a worker r region
  pub ends : EndsRun n fed worker b region s

-- what a worker did when it was called: at most 16 jobs; fewer where none is left, or one is refused, or memory ran out
pub record HasRun (a b : WorkerState) (r s : RegionState) (fed : Bool) : Type 0 where
  pub went : WentOn a b r s
  pub most : length went.sent ≤ 16
  pub tries : HasTriedJobs (length went.sent) a b r s fed
  pub all : fed ≡ true → length went.sent < 16 → IsIdle b ⊎ IsHeld b s

-- the workers did their jobs in turn, each after those before it
abbrev pub HaveRun : List WorkerState → List WorkerState → RegionState → RegionState → Bool → Type 0
HaveRun [] [] r s fed = s ≡ r
HaveRun (a ∷ before) (b ∷ after) r s fed = (between : RegionState) × HasRun a b r between fed × HaveRun before after between s fed
HaveRun before after r s fed = ⊥
