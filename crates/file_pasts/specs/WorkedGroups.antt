-- Worked copies of more than one group, found by computation.
use Rattle.std.specs.Prelude.{◌≡◌, ℕ, true, false, Some, None, List, [], ◌∷◌, ◌++◌, replicate, length, option_map}
use Rattle.smbd_base.specs.declared.right.Right.TheVariants as right
use Rattle.file_messages.specs.declared.kind.Channel.TheVariants as channels
use Rattle.file_messages.specs.declared.kind.CopyKind.TheVariants as kinds
use Rattle.file_messages.specs.declared.fault.FileFault.TheVariants.{Order}
use Rattle.file_messages.specs.declared.job.Work.TheVariants.{Load, Unload}
use Rattle.file_messages.specs.declared.job.WorkResult.TheVariants.{Loaded, Unloaded}
use Rattle.file_messages.specs.Messages.{request_bytes, reply_bytes, success}
use Rattle.file_messages.specs.Runs.{inline_write, registered_write, end_request, descriptor_of_load, read_of}
use Rattle.file_messages.specs.WorkedMessages.{abc}
use Rattle.file_messages.specs.WorkedCopies.{sevens}
use Rattle.file_pasts.specs.ClientPast.{ClientEvent, Group, End, Sent, Replied, Gave, Completed}
use Rattle.file_pasts.specs.PutDue.{Setup, jobs_due, next_job, wants_group}
use Rattle.file_pasts.specs.PutDue as put
use Rattle.file_pasts.specs.GetDue as get
use Rattle.file_pasts.specs.ServerDue as server

-- ---- puts

abbrev pub inline : Setup
inline = record { channel = channels.None; windows = 4 }

-- windows of 16 pages
abbrev pub over_windows : ℕ → Setup
over_windows w = record { channel = channels.V1; windows = w }

abbrev pub one_group : List ClientEvent
one_group = Group (sevens 65536) ∷ []

-- two groups, whose WRITEs were given
abbrev pub both_asked : List ClientEvent
both_asked =
    Sent (inline_write 2 65536 (sevens 34464)) ∷ Sent (inline_write 1 0 (sevens 65536)) ∷ End ∷ Group (sevens 34464) ∷ one_group

abbrev pub first_answered : List ClientEvent
first_answered = Replied (reply_bytes (success (inline_write 1 0 []) 65536 [])) ∷ both_asked

abbrev pub both_answered : List ClientEvent
both_answered = Replied (reply_bytes (success (inline_write 2 65536 []) 34464 [])) ∷ first_answered

-- two groups of one page each, over one window
abbrev pub waiting : List ClientEvent
waiting = Group abc ∷ Group abc ∷ []

abbrev pub page_loaded : List ClientEvent
page_loaded = Completed (record { number = 0; result = Loaded (descriptor_of_load 0 0 3) }) ∷ Gave (Load 0 right.Fetch abc) ∷ waiting

abbrev pub page_replied : List ClientEvent
page_replied =
    Replied (reply_bytes (success (inline_write 1 0 abc) 3 [])) ∷ Sent (registered_write 1 0 abc (descriptor_of_load 0 0 3 ∷ [])) ∷ page_loaded

abbrev pub page_unloaded : List ClientEvent
page_unloaded =
    Completed (record { number = 1; result = Unloaded (abc ++ replicate 4093 0) }) ∷ Gave (Unload (record { page = 0; generation = 1 })) ∷ page_replied

-- ---- gets

abbrev pub whole_read : List ClientEvent
whole_read = Replied (reply_bytes (success (read_of channels.None 1) 65536 (sevens 65536))) ∷ Sent (read_of channels.None 1) ∷ []

abbrev pub second_read : List ClientEvent
second_read =
    Replied (reply_bytes (success (read_of channels.None 2) 34464 (sevens 34464))) ∷ Sent (read_of channels.None 2) ∷ whole_read

pub record GroupsSo : Type 0 where
  -- without registered pages four WRITEs may be open, and END waits for each reply
  pub after_three : wants_group inline (Group (sevens 65536) ∷ Group (sevens 65536) ∷ one_group) ≡ true
  pub after_four : wants_group inline (Group (sevens 65536) ∷ Group (sevens 65536) ∷ Group (sevens 65536) ∷ one_group) ≡ false
  pub second_write : put.next_request inline (Sent (inline_write 1 0 (sevens 65536)) ∷ End ∷ Group (sevens 34464) ∷ one_group)
      ≡ Some (inline_write 2 65536 (sevens 34464))
  pub end_waits : put.next_request inline both_asked ≡ None
  pub end_waits_for_both : put.next_request inline first_answered ≡ None
  pub end_comes : put.next_request inline both_answered ≡ Some (end_request 3 100000)
  -- over registered pages each group has a window
  pub jobs : length (jobs_due 1 one_group) ≡ 16
  pub one_window : wants_group (over_windows 1) one_group ≡ false
  pub two_windows : wants_group (over_windows 2) one_group ≡ true
  -- a part waits until its page is unloaded, and then has the next generation
  pub one_load : jobs_due 1 waiting ≡ Load 0 right.Fetch abc ∷ []
  pub no_load_before : jobs_due 1 page_replied ≡ Load 0 right.Fetch abc ∷ Unload (record { page = 0; generation = 1 }) ∷ []
  pub load_after : next_job (over_windows 1) page_unloaded ≡ Some (record { number = 2; work = Load 0 right.Fetch abc })
  pub next_write : put.next_request (over_windows 1)
      (Completed (record { number = 2; result = Loaded (descriptor_of_load 0 1 3) }) ∷ Gave (Load 0 right.Fetch abc) ∷ page_unloaded)
      ≡ Some (registered_write 2 3 abc (descriptor_of_load 0 1 3 ∷ []))
  -- a get goes on after a READ of 65,536 bytes, and else ends
  pub goes_on : get.next_request channels.None whole_read ≡ Some (read_of channels.None 2)
  pub came : option_map length (get.next_group channels.None whole_read) ≡ Some 65536
  pub get_ends : get.next_request channels.None second_read ≡ Some (end_request 3 100000)
  -- the second READ at a server
  pub wants : server.wants_source kinds.Get
      (server.Asked (request_bytes (read_of channels.None 2)) ∷ server.Replied (success (read_of channels.None 1) 65536 (sevens 65536))
      ∷ server.Filled (sevens 65536) ∷ server.Asked (request_bytes (read_of channels.None 1)) ∷ []) ≡ Some 65536
  pub too_early : (server.requests kinds.Get
      (server.Asked (request_bytes (read_of channels.None 2)) ∷ server.Asked (request_bytes (read_of channels.None 1)) ∷ [])).fault ≡ Some Order
