-- A worked put without registered pages: what is due after each call, found by computation.
use Rattle.std.specs.Prelude.{◌≡◌, true, false, Some, None, List, [], ◌∷◌}
use Rattle.file_messages.specs.declared.kind.Channel.TheVariants as channels
use Rattle.file_messages.specs.declared.fault.FileFault.TheVariants.{Order}
use Rattle.file_messages.specs.declared.fault.ReplyFault.TheVariants.{File}
use Rattle.file_messages.specs.Runs.{inline_write, end_request}
use Rattle.file_messages.specs.WorkedMessages.{abc, write_reply_abc, end_reply_abc}
use Rattle.file_pasts.specs.ClientPast.{ClientEvent, Group, End, Sent, Replied, answers}
use Rattle.file_pasts.specs.PutDue.{Setup, next_request, next_job, wants_group, is_finished}

abbrev pub inline : Setup
inline = record { channel = channels.None; windows = 4 }

-- `abc` without registered pages
abbrev pub handed : List ClientEvent
handed = End ∷ Group abc ∷ []

abbrev pub asked : List ClientEvent
asked = Sent (inline_write 1 0 abc) ∷ handed

abbrev pub answered : List ClientEvent
answered = Replied write_reply_abc ∷ asked

abbrev pub closed : List ClientEvent
closed = Replied end_reply_abc ∷ Sent (end_request 2 3) ∷ answered

pub record PutsSo : Type 0 where
  pub at_first : next_request inline [] ≡ None
  pub wants : wants_group inline [] ≡ true
  pub short_is_last : wants_group inline (Group abc ∷ []) ≡ false
  pub asks : next_request inline handed ≡ Some (inline_write 1 0 abc)
  pub no_job : next_job inline handed ≡ None
  pub waits : next_request inline asked ≡ None
  pub ends : next_request inline answered ≡ Some (end_request 2 3)
  pub unfinished : is_finished answered ≡ false
  pub finished : is_finished closed ≡ true
  pub nothing : next_request inline closed ≡ None
  pub empty : next_request inline (End ∷ []) ≡ Some (end_request 1 0)
  pub wrong : (answers (Replied end_reply_abc ∷ answered)).fault ≡ Some (File Order)
  pub then_nothing : next_request inline (Replied abc ∷ asked) ≡ None
