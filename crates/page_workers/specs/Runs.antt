-- What became of the jobs of a worker (this project's own). All lists have the oldest first.
use Rattle.std.specs.Prelude.{◌≡◌, ℕ, Option, Some, None, List, [], ◌∷◌, length}
use Rattle.smbd_base.specs.declared.page_event.PageEvent.{PageEvent}
use Rattle.smbd_base.specs.declared.page_event.PageEvent.TheVariants as events
use Rattle.smbd_base.specs.declared.right.Right.{Right}
use Rattle.smbd_base.specs.Tokens.{PageToken, IsToken}
use Rattle.file_messages.specs.declared.job.Job.{Job}
use Rattle.file_messages.specs.declared.job.Completion.{Completion}
use Rattle.page_workers.specs.declared.kept.Kept.{Kept}
use Rattle.page_workers.specs.declared.kept.Kept.TheVariants as keeps
use Rattle.page_workers.specs.Jobs.{IsDone}
use Rattle.page_workers.specs.Tries.{load_job, unload_job}

-- a Load whose page is loaded under this token, and whose record isn't issued
pub record IsLoadedAlone (number : ℕ) (token : PageToken) (right : Right) (len : ℕ) (j : Job) (made : List PageEvent) : Type 0 where
  pub lawful : IsToken token
  pub bytes : List ℕ
  pub length_is : len ≡ length bytes
  pub job_is : j ≡ load_job number token.page right bytes
  pub made_is : made ≡ events.Load token right bytes ∷ []

-- the job that is kept, and the events that it made: none, but for a Load whose record isn't issued
abbrev pub IsKept : Kept → Job → List PageEvent → Type 0
IsKept (keeps.Fresh k) j made = (j ≡ k) × (made ≡ [])
IsKept (keeps.Loaded number token right len) j made = IsLoadedAlone number token right len j made
IsKept (keeps.Withdrawn number token) j made = (j ≡ unload_job number token) × (made ≡ [])

-- the jobs that aren't finished: the one that is kept, and those that wait
abbrev pub AreLeft : Option Kept → List Job → List Job → List PageEvent → Type 0
AreLeft None waiting jobs made = (jobs ≡ waiting) × (made ≡ [])
AreLeft (Some kept) waiting [] made = ⊥
AreLeft (Some kept) waiting (j ∷ jobs) made = IsKept kept j made × (jobs ≡ waiting)

-- Of the jobs that were given, the finished ones come first: the k-th completion is of the k-th job, and the k-th event is the
-- one that it made. Then comes the job that is kept, and then those that wait.
abbrev pub JobRun : Option Kept → List Job → List Job → List Completion → List PageEvent → Type 0
JobRun kept waiting jobs [] made = AreLeft kept waiting jobs made
JobRun kept waiting (j ∷ jobs) (c ∷ sent) (e ∷ made) = IsDone j c e × JobRun kept waiting jobs sent made
JobRun kept waiting jobs (c ∷ sent) made = ⊥
