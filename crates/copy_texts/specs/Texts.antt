-- What the text of a copy's log fixes (this project's own).
use Rattle.std.specs.Prelude.{◌≡◌, ℕ, ◌≤◌, Bool, List, ◌++◌, length}
use mathlib.Core.List.{IsPrefix}
use Rattle.smbd_base.specs.declared.end_id.EndId.TheVariants.{Client}
use Rattle.smbd_base.specs.Limits.{Limits}
use Rattle.smbd_base.specs.History.{messages_submitted}
use Rattle.smbd_base.specs.Delivery.{messages_delivered}
use Rattle.smbd_base.specs.Joint.{AreJoint}
use Rattle.smbd_base.specs.PagesFit.{PagesFit}
use Rattle.file_messages.specs.declared.kind.Channel.{Channel}
use Rattle.file_messages.specs.declared.kind.CopyKind.{CopyKind}
use Rattle.file_messages.specs.Written.{IsCopyable, IsPool}
use Rattle.copy_log.specs.CopyLogs.{Deeds, IsLog}
use Rattle.copy_runs.specs.Runs.{request_messages, reply_messages, UsesPages}

-- what is known of a copy beside its log: how it was made, its bytes, and whether their end was seen
pub record Setting : Type 0 where
  pub kind : CopyKind
  pub channel : Channel
  pub workers : ℕ
  pub limits : Limits
  pub bytes : List ℕ
  pub ended : Bool

-- What happened fits together, and is of such a copy. The pages are so few, and the bytes, that no two tokens have the same number, and
-- no two of their numbers the same text.
pub record IsOf (s : Setting) (d : Deeds) : Type 0 where
  pub few : s.workers ≤ 8
  pub pool : IsPool s.limits.pages
  pub copyable : IsCopyable s.bytes
  pub joint : AreJoint s.limits s.limits d.client d.server
  pub requests : IsPrefix (messages_submitted d.client) (request_messages s.kind s.channel s.limits.pages s.ended s.bytes)
  pub replies : IsPrefix (messages_submitted d.server) (reply_messages s.kind s.channel s.limits.pages s.ended s.bytes)
  pub clients : length d.clients ≡ s.workers
  pub servers : length d.servers ≡ s.workers
  pub fit : PagesFit 1 (d.clients ++ d.servers)
  pub pages : UsesPages s.kind s.channel s.limits.pages s.ended s.bytes (length (messages_submitted d.client)) (length (messages_submitted d.server))
      (length (messages_delivered Client s.limits d.client)) d.clients d.servers

-- One text is a log of one copy alone: it fixes both histories and the list of each worker. A log tells a submitted message and the bytes
-- of a page by their length, and a frame that is taken by its number; what they are follows from the bytes of the copy and from the frames
-- that were sent.
abbrev pub TextsFix : Type 0
TextsFix = (s : Setting) (d e : Deeds) (text : List ℕ) → IsOf s d → IsOf s e → IsLog d text → IsLog e text → d ≡ e
