-- Which worker of an end does a job (this project's own).
use Rattle.std.specs.Prelude.{ℕ, ◌+◌, ◌%◌}
use Rattle.file_messages.specs.declared.job.Work.{Work}
use Rattle.file_messages.specs.declared.job.Work.TheVariants.{Load, Fetch, Place, Unload}

-- the page that the work is on: the one that a Load names, and else that of the token
abbrev pub page_of_work : Work → ℕ
page_of_work (Load page right bytes) = page
page_of_work (Fetch d) = d.token % 256
page_of_work (Place d bytes) = d.token % 256
page_of_work (Unload token) = token.page

-- the number of the worker, of so many; so all work on one page is done by one worker
abbrev pub worker_number : Work → ℕ → ℕ
worker_number work workers = page_of_work work % workers + 1
