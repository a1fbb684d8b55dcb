-- A server that is handed the requests of a copy in turn refuses none of them.
use Rattle.std.specs.Prelude.{◌≡◌, ℕ, Bool, None, List, [], ◌∷◌, length, take, map}
use mathlib.Core.List.{IsPrefix}
use Rattle.file_messages.specs.declared.kind.Channel.{Channel}
use Rattle.file_messages.specs.declared.kind.CopyKind.{CopyKind}
use Rattle.file_messages.specs.declared.kind.CopyKind.TheVariants as kinds
use Rattle.file_messages.specs.declared.message.Request.{Request}
use Rattle.file_messages.specs.Messages.{request_bytes}
use Rattle.file_messages.specs.Runs.{put_requests, get_requests}
use Rattle.file_messages.specs.Written.{IsCopyable, IsPool}
use Rattle.file_pasts.specs.ServerDue.{ServerEvent, Asked, Filled, Gave, Completed, Replied, Stored, replies, requests, IsServer}
use Rattle.file_pasts.specs.ServerLaws.{messages_asked, NothingRefused, FillsFrom}

-- each message that was handed in was accepted, as the request of the run in its place
pub record AcceptsAll (kind : CopyKind) (run : List Request) (past : List ServerEvent) : Type 0 where
  pub fault : (requests kind past).fault ≡ None
  pub accepted : (requests kind past).accepted ≡ take (length (messages_asked past)) run

-- each request was handed in when those before it had their replies
abbrev pub AsksAfterReplies : List ServerEvent → Type 0
AsksAfterReplies [] = Unit {0}
AsksAfterReplies (Asked m ∷ past) = (length (replies past) ≡ length (messages_asked past)) × AsksAfterReplies past
AsksAfterReplies (Filled bytes ∷ past) = AsksAfterReplies past
AsksAfterReplies (Gave work ∷ past) = AsksAfterReplies past
AsksAfterReplies (Completed c ∷ past) = AsksAfterReplies past
AsksAfterReplies (Replied r ∷ past) = AsksAfterReplies past
AsksAfterReplies (Stored bytes ∷ past) = AsksAfterReplies past

-- the requests of a put may come at any time
abbrev pub PutServersAccept : Type 0
PutServersAccept = (channel : Channel) (pages : ℕ) (ended : Bool) (bytes : List ℕ) (past : List ServerEvent) → IsPool pages → IsCopyable bytes
    → IsPrefix (messages_asked past) (map request_bytes (put_requests channel pages ended bytes))
    → AcceptsAll kinds.Put (put_requests channel pages ended bytes) past

-- those of a get one by one, where the READs are answered by the bytes
abbrev pub GetServersAccept : Type 0
GetServersAccept = (channel : Channel) (bytes : List ℕ) (past : List ServerEvent) → IsCopyable bytes → IsServer kinds.Get past
    → IsPrefix (messages_asked past) (map request_bytes (get_requests channel bytes)) → AsksAfterReplies past
    → NothingRefused past → FillsFrom kinds.Get bytes past → AcceptsAll kinds.Get (get_requests channel bytes) past
