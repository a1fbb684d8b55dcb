-- Worked puts over registered_pool pages: what is due after each call, found by computation.
use Rattle.std.specs.Prelude.{◌≡◌, Some, None, List, [], ◌∷◌, ◌++◌, replicate}
use Rattle.smbd_base.specs.declared.right.Right.TheVariants as right
use Rattle.file_messages.specs.declared.kind.Channel.TheVariants as channels
use Rattle.file_messages.specs.declared.job.Work.TheVariants.{Load, Unload}
use Rattle.file_messages.specs.declared.job.WorkResult.TheVariants.{Loaded, Unloaded}
use Rattle.file_messages.specs.declared.job.Completion.{Completion}
use Rattle.file_messages.specs.Runs.{registered_write, end_request, descriptor_of_load}
use Rattle.file_messages.specs.WorkedMessages.{abc, write_reply_abc}
use Rattle.file_pasts.specs.ClientPast.{ClientEvent, Sent, Replied, Gave, Completed}
use Rattle.file_pasts.specs.WorkedPuts.{handed}
use Rattle.file_pasts.specs.PutDue.{Setup, next_request, next_job}

abbrev pub registered_pool : Setup
registered_pool = record { channel = channels.V1; windows = 4 }

-- `abc` over page 0
abbrev pub loaded : Completion
loaded = record { number = 0; result = Loaded (descriptor_of_load 0 0 3) }

abbrev pub unloaded : Completion
unloaded = record { number = 1; result = Unloaded (abc ++ replicate 4093 0) }

abbrev pub on_page : List ClientEvent
on_page = Completed loaded ∷ Gave (Load 0 right.Fetch abc) ∷ handed

abbrev pub over_page : List ClientEvent
over_page = Replied write_reply_abc ∷ Sent (registered_write 1 0 abc (descriptor_of_load 0 0 3 ∷ [])) ∷ on_page

pub record RegistersSo : Type 0 where
  pub loads : next_job registered_pool handed ≡ Some (record { number = 0; work = Load 0 right.Fetch abc })
  pub not_yet : next_request registered_pool handed ≡ None
  pub once : next_job registered_pool (Gave (Load 0 right.Fetch abc) ∷ handed) ≡ None
  pub asks : next_request registered_pool on_page ≡ Some (registered_write 1 0 abc (descriptor_of_load 0 0 3 ∷ []))
  pub unloads : next_job registered_pool over_page ≡ Some (record { number = 1; work = Unload (record { page = 0; generation = 1 }) })
  pub ends : next_request registered_pool over_page ≡ Some (end_request 2 3)
  pub no_more : next_job registered_pool (Completed unloaded ∷ Gave (Unload (record { page = 0; generation = 1 })) ∷ over_page) ≡ None
