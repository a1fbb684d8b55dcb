-- How the server's machine of a copy and its end stand to each other, and what a round of the end does. A past is a list of events, the
-- newest one first.
use Rattle.std.specs.Prelude.{◌≡◌, ℕ, Bool, true, Option, Some, None, List, ◌∷◌, map}
use Rattle.smbd_base.specs.declared.end_id.EndId.TheVariants.{Server}
use Rattle.smbd_base.specs.History.{messages_submitted}
use Rattle.sim_adapter.specs.declared.view.EndView.{EndView}
use Rattle.file_messages.specs.declared.kind.CopyKind.{CopyKind}
use Rattle.file_messages.specs.Messages.{reply_bytes}
use Rattle.file_pasts.specs.ServerDue.{ServerEvent, Asked, replies, next_reply}
use Rattle.file_pasts.specs.ServerLaws.{messages_asked}
use Rattle.file_server.specs.declared.server.FileServer.{FileServer}
use Rattle.file_server.specs.ServerStands.{CameBy}
use Rattle.copy_ends.specs.Ends.{RepliesFollow, GoesOnServing}
use Rattle.end_shares.specs.Turns.{delivered_by}

-- what the server's machine replied is what its end submitted, each reply after its request, and what the end delivered is what the
-- machine was handed
pub record ServerStands (kind : CopyKind) (past : List ServerEvent) (m : FileServer) (v : EndView) : Type 0 where
  pub came : CameBy kind past m
  pub sent : messages_submitted v.past ≡ map reply_bytes (replies past)
  pub heard : messages_asked past ≡ delivered_by Server v
  pub follows : RepliesFollow v.ends.server v.past

-- from this past the server went on serving, and then has no reply left if that was answered
pub record ServerGoesOn (kind : CopyKind) (past : List ServerEvent) (rests : Bool) (m : FileServer) (v : EndView) : Type 0 where
  pub later : List ServerEvent
  pub talked : GoesOnServing past later
  pub stands : ServerStands kind later m v
  pub at_rest : rests ≡ true → next_reply kind later ≡ None

-- the machine and its end fit together
pub record MayServe (m : FileServer) (v : EndView) : Type 0 where
  pub kind : CopyKind
  pub past : List ServerEvent
  pub stands : ServerStands kind past m v

-- no reply is due, and nothing has changed
pub record HasNoReply (kind : CopyKind) (past : List ServerEvent) (m : FileServer) (old new : EndView) : Type 0 where
  pub due : next_reply kind past ≡ None
  pub same : new ≡ old
  pub stands : ServerStands kind past m new

-- once a message was handed in as a request, where one was delivered
abbrev pub after_hearing : Option (List ℕ) → List ServerEvent → List ServerEvent
after_hearing None past = past
after_hearing (Some message) past = Asked message ∷ past
