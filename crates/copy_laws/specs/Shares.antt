-- Which jobs of a machine each worker of its end has, and what came of them (this project's own). All lists have the oldest first.
use Rattle.std.specs.Prelude.{ℕ, ◌+◌, ◌==◌, Bool, false, Option, Some, None, List, [], ◌∷◌, slice_get, if◌then◌else◌}
use Rattle.file_messages.specs.declared.job.Work.{Work}
use Rattle.file_messages.specs.declared.job.Job.{Job}
use Rattle.file_messages.specs.declared.job.Completion.{Completion}
use Rattle.page_workers.specs.Turns.{worker_number}

-- the work is for this worker, of so many
abbrev pub is_for : ℕ → ℕ → Work → Bool
is_for workers worker work = worker_number work workers == worker

-- the jobs of one worker, of so many, among these, the first of which has this number
abbrev pub jobs_for : ℕ → ℕ → ℕ → List Work → List Job
jobs_for workers worker number [] = []
jobs_for workers worker number (work ∷ later) =
    if is_for workers worker work then (record { number = number; work = work }) ∷ jobs_for workers worker (number + 1) later
    else jobs_for workers worker (number + 1) later

-- the job of a completion, of which its number tells, is this worker's
abbrev pub is_some_for : ℕ → ℕ → Option Work → Bool
is_some_for workers worker None = false
is_some_for workers worker (Some work) = is_for workers worker work

abbrev pub is_answer_of : ℕ → ℕ → List Work → Completion → Bool
is_answer_of workers worker works c = is_some_for workers worker (slice_get works c.number)

-- the completions of one worker's jobs among these
abbrev pub completions_of : ℕ → ℕ → List Work → List Completion → List Completion
completions_of workers worker works [] = []
completions_of workers worker works (c ∷ later) =
    if is_answer_of workers worker works c then c ∷ completions_of workers worker works later
    else completions_of workers worker works later
