-- A worker that loads a page and takes it back, worked out.
use Rattle.std.specs.Prelude.{ℕ, List, [], ◌∷◌, ◌++◌, codes, replicate, Some, None}
use Rattle.smbd_base.specs.declared.right.Right.TheVariants as right
use Rattle.smbd_base.specs.declared.page_event.PageEvent.{PageEvent}
use Rattle.smbd_base.specs.declared.page_event.PageEvent.TheVariants as events
use Rattle.smbd_base.specs.Tokens.{PageToken}
use Rattle.file_messages.specs.declared.job.Job.{Job}
use Rattle.file_messages.specs.declared.job.Completion.{Completion}
use Rattle.file_messages.specs.declared.job.WorkResult.TheVariants.{Loaded, Fetched, Unloaded}
use Rattle.page_workers.specs.declared.kept.Kept.TheVariants as keeps
use Rattle.page_workers.specs.Tries.{load_job, unload_job, fetch_job}
use Rattle.page_workers.specs.Runs.{JobRun}

abbrev pub token : PageToken
token = record { page = 1; generation = 1 }

abbrev pub loads : Job
loads = load_job 7 1 right.Fetch (codes "abc")

-- the descriptor of the three bytes
abbrev pub loaded : Completion
loaded = record { number = 7; result = Loaded (record { offset = 4096; token = 257; length = 3 }) }

abbrev pub load : PageEvent
load = events.Load token right.Fetch (codes "abc")

abbrev pub page : List ℕ
page = codes "abc" ++ replicate 4093 0

abbrev pub unloads : Job
unloads = unload_job 8 token

abbrev pub unloaded : Completion
unloaded = record { number = 8; result = Unloaded page }

-- two bytes from the second on
abbrev pub fetches : Job
fetches = fetch_job 9 (record { offset = 4097; token = 257; length = 2 })

abbrev pub fetched : Completion
fetched = record { number = 9; result = Fetched (codes "bc") }

pub record WorksSo : Type 0 where
  pub none : JobRun None [] [] [] []
  pub both : JobRun None [] (loads ∷ unloads ∷ []) (loaded ∷ unloaded ∷ []) (load ∷ events.Unload token page ∷ [])
  pub access : JobRun None [] (fetches ∷ []) (fetched ∷ []) (events.Fetch token 1 (codes "bc") ∷ [])
  pub waits : JobRun None (unloads ∷ []) (loads ∷ unloads ∷ []) (loaded ∷ []) (load ∷ [])
  pub unissued : JobRun (Some (keeps.Loaded 7 token right.Fetch 3)) (unloads ∷ []) (loads ∷ unloads ∷ []) [] (load ∷ [])
  pub untried : JobRun (Some (keeps.Fresh loads)) [] (loads ∷ []) [] []

pub record WorksNotSo : Type 0 where
  pub out_of_turn : JobRun None [] (loads ∷ unloads ∷ []) (unloaded ∷ loaded ∷ []) (events.Unload token page ∷ load ∷ []) → ⊥
  pub dropped : JobRun None [] (loads ∷ unloads ∷ []) (loaded ∷ []) (load ∷ []) → ⊥
  pub no_event : JobRun None [] (loads ∷ []) (loaded ∷ []) [] → ⊥
  pub two_events : JobRun None [] (loads ∷ []) (loaded ∷ []) (load ∷ load ∷ []) → ⊥
  pub other_place : JobRun None [] (fetches ∷ []) (fetched ∷ []) (events.Fetch token 0 (codes "bc") ∷ []) → ⊥
  pub other_number : JobRun None [] (fetches ∷ []) (record { number = 8; result = Fetched (codes "bc") } ∷ []) (events.Fetch token 1 (codes "bc") ∷ []) → ⊥
