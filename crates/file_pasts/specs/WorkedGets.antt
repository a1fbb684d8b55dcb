-- Worked gets: what is due after each call, found by computation.
use Rattle.std.specs.Prelude.{◌≡◌, ℕ, zero, suc, ◌+◌, ◌==◌, true, false, Some, None, List, [], ◌∷◌, ◌++◌, replicate, length, option_map, if◌then◌else◌}
use Rattle.smbd_base.specs.Tokens.{PageToken}
use Rattle.smbd_base.specs.declared.right.Right.TheVariants as right
use Rattle.file_messages.specs.declared.kind.Channel.TheVariants as channels
use Rattle.file_messages.specs.declared.job.Work.TheVariants.{Load, Unload}
use Rattle.file_messages.specs.declared.job.WorkResult.TheVariants.{Loaded, Unloaded}
use Rattle.file_messages.specs.Messages.{reply_bytes, success}
use Rattle.file_messages.specs.Runs.{end_request, descriptor_of_load, read_of}
use Rattle.file_messages.specs.WorkedMessages.{abc, end_reply_abc, read_reply_abc}
use Rattle.file_pasts.specs.ClientPast.{ClientEvent, Sent, Replied, Gave, Completed, Received}
use Rattle.file_pasts.specs.GetDue.{next_request, next_job, next_group, is_finished}

-- ---- a get of `abc` without registered pages

abbrev pub read_abc : List ClientEvent
read_abc = Sent (read_of channels.None 1) ∷ []

abbrev pub came_abc : List ClientEvent
came_abc = Replied read_reply_abc ∷ read_abc

abbrev pub ended_abc : List ClientEvent
ended_abc = Sent (end_request 2 3) ∷ Received abc ∷ came_abc

pub record GetsSo : Type 0 where
  pub reads : next_request channels.None [] ≡ Some (read_of channels.None 1)
  pub no_job : next_job channels.None [] ≡ None
  pub one_read : next_request channels.None read_abc ≡ None
  pub nothing_yet : next_group channels.None read_abc ≡ None
  pub came : next_group channels.None came_abc ≡ Some abc
  pub came_once : next_group channels.None ended_abc ≡ None
  pub ends : next_request channels.None came_abc ≡ Some (end_request 2 3)
  pub ends_once : next_request channels.None ended_abc ≡ None
  pub unfinished : is_finished ended_abc ≡ false
  pub finished : is_finished (Replied end_reply_abc ∷ ended_abc) ≡ true
  -- what stands after the header of END's reply is no group
  pub no_bytes : next_group channels.None (Replied (end_reply_abc ++ 9 ∷ []) ∷ ended_abc) ≡ None
  -- of nothing: the READ gets no bytes, and no group comes
  pub nothing : next_group channels.None (Replied (reply_bytes (success (read_of channels.None 1) 0 [])) ∷ read_abc) ≡ None
  pub nothing_ends : next_request channels.None (Replied (reply_bytes (success (read_of channels.None 1) 0 [])) ∷ read_abc) ≡ Some (end_request 2 0)

-- ---- a whole get of `abc` over registered pages

abbrev pub zeros : List ℕ
zeros = replicate 4096 0

-- pages 0 to n - 1 are loaded by the jobs 0 to n - 1, for the server to place in
abbrev pub load_pages : ℕ → List ClientEvent → List ClientEvent
load_pages zero past = past
load_pages (suc i) past =
    Completed (record { number = i; result = Loaded (descriptor_of_load i 0 4096) }) ∷ Gave (Load i right.Place zeros) ∷ load_pages i past

-- what a page has in it after the READ
abbrev pub on_page : ℕ → List ℕ
on_page page = if page == 0 then abc ++ replicate 4093 0 else zeros

abbrev pub first_token : ℕ → PageToken
first_token page = record { page = page; generation = 1 }

-- pages 0 to n - 1 are unloaded by the jobs 16 to 15 + n
abbrev pub unload_pages : ℕ → List ClientEvent → List ClientEvent
unload_pages zero past = past
unload_pages (suc i) past =
    Completed (record { number = 16 + i; result = Unloaded (on_page i) }) ∷ Gave (Unload (first_token i)) ∷ unload_pages i past

abbrev pub loaded : List ClientEvent
loaded = load_pages 16 []

abbrev pub asked : List ClientEvent
asked = Sent (read_of channels.V1 1) ∷ loaded

abbrev pub replied : List ClientEvent
replied = Replied (reply_bytes (success (read_of channels.V1 1) 3 [])) ∷ asked

abbrev pub unloaded : List ClientEvent
unloaded = unload_pages 16 replied

abbrev pub ended : List ClientEvent
ended = Sent (end_request 2 3) ∷ Received abc ∷ unloaded

-- the READ gave its whole length, and its pages are unloaded
abbrev pub whole_round : List ClientEvent
whole_round = unload_pages 16 (Replied (reply_bytes (success (read_of channels.V1 1) 65536 [])) ∷ asked)

pub record PlacesSo : Type 0 where
  pub first_load : next_job channels.V1 [] ≡ Some (record { number = 0; work = Load 0 right.Place zeros })
  pub last_load : next_job channels.V1 (load_pages 15 []) ≡ Some (record { number = 15; work = Load 15 right.Place zeros })
  pub not_yet : next_request channels.V1 (load_pages 15 []) ≡ None
  pub not_completed : next_request channels.V1 (Gave (Load 15 right.Place zeros) ∷ load_pages 15 []) ≡ None
  pub reads : next_request channels.V1 loaded ≡ Some (read_of channels.V1 1)
  pub no_unload_yet : next_job channels.V1 asked ≡ None
  pub first_unload : next_job channels.V1 replied ≡ Some (record { number = 16; work = Unload (first_token 0) })
  pub no_end_yet : next_request channels.V1 replied ≡ None
  pub last_unload : next_job channels.V1 (unload_pages 15 replied) ≡ Some (record { number = 31; work = Unload (first_token 15) })
  pub not_come : next_group channels.V1 (unload_pages 15 replied) ≡ None
  pub came : next_group channels.V1 unloaded ≡ Some abc
  pub ends : next_request channels.V1 unloaded ≡ Some (end_request 2 3)
  pub no_more_jobs : next_job channels.V1 unloaded ≡ None
  pub came_once : next_group channels.V1 ended ≡ None
  pub finished : is_finished (Replied end_reply_abc ∷ ended) ≡ true
  -- after a whole round the next one begins
  pub next_round : next_job channels.V1 whole_round ≡ Some (record { number = 32; work = Load 0 right.Place zeros })
  pub next_read_waits : next_request channels.V1 whole_round ≡ None
  pub whole_came : option_map length (next_group channels.V1 whole_round) ≡ Some 65536
  -- a reply that is refused: nothing is due
  pub failed_job : next_job channels.V1 (Replied end_reply_abc ∷ asked) ≡ None
