-- How the groups of a put without registered pages stand after its past.
use Rattle.std.specs.Prelude.{◌≡◌, ℕ, ◌+◌, ◌<◌, List, length, take, drop, map}
use Rattle.file_messages.specs.declared.kind.Channel.TheVariants as channels
use Rattle.file_transfer.specs.declared.put_inline.InlineGroups.{InlineGroups}
use Rattle.file_transfer.specs.declared.put_requests.PutRequests.{PutRequests}
use Rattle.file_messages.specs.Messages.{request_bytes}
use Rattle.file_messages.specs.Runs.{writes_from}
use Rattle.file_pasts.specs.ClientPast.{ClientEvent, groups_in, requests_sent, total}
use Rattle.file_pasts.specs.PutDue.{Setup}
use Rattle.file_transfer.specs.PutStands.{RequestsStand}

-- a put without registered pages, whatever windows they would have
abbrev pub without_pages : ℕ → Setup
without_pages w = record { channel = channels.None; windows = w }

pub record InlineStands (past : List ClientEvent) (g : InlineGroups) : Type 0 where
  pub waiting : g.waiting.items ≡ map request_bytes
      (writes_from channels.None 0 (length (requests_sent past) + 1) (total (take (length (requests_sent past)) (groups_in past))) (drop (length (requests_sent past)) (groups_in past)))
  pub count : g.count ≡ length (groups_in past)
  pub bytes : g.bytes ≡ total (groups_in past)

pub record InlinePutStands (w : ℕ) (past : List ClientEvent) (q : PutRequests) (g : InlineGroups) : Type 0 where
  pub requests : RequestsStand (without_pages w) past q
  pub groups : InlineStands past g

-- the next request has a number
pub record MayAskInline (q : PutRequests) (g : InlineGroups) : Type 0 where
  pub windows : ℕ
  pub past : List ClientEvent
  pub stands : InlinePutStands windows past q g
  pub few : length (requests_sent past) < 4294967295
