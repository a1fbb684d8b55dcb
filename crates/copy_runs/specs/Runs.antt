-- The run of a copy, as the messages of its ends and the page events of its workers tell it (this project's own). It is of so many
-- pages, of these bytes, and their end was seen or not. In a list of page events the newest comes first.
use Rattle.std.specs.Prelude.{◌≡◌, ℕ, ◌/◌, ◌≤◌, Bool, true, false, List, [], length, take, map}
use mathlib.Core.List.{IsPrefix}
use Rattle.smbd_base.specs.declared.page_event.PageEvent.{PageEvent}
use Rattle.smbd_base.specs.PagesFit.{all_events}
use Rattle.file_messages.specs.declared.layout.TheConstants.{GROUP_SIZE}
use Rattle.file_messages.specs.declared.kind.Channel.{Channel}
use Rattle.file_messages.specs.declared.kind.Channel.TheVariants as channels
use Rattle.file_messages.specs.declared.kind.CopyKind.{CopyKind}
use Rattle.file_messages.specs.declared.kind.CopyKind.TheVariants as kinds
use Rattle.file_messages.specs.declared.message.Request.{Request}
use Rattle.file_messages.specs.Messages.{request_bytes, reply_bytes}
use Rattle.file_messages.specs.Runs.{windows, groups_of, reads_from, reads_count, put_requests, get_requests, replies_to}
use Rattle.copy_laws.specs.PagesOfCopies.{PutsUsePages, GetsUsePages}

-- ---- requests and replies

-- the requests: END is among them only where the end of the bytes was seen
abbrev pub requests_of : CopyKind → Channel → ℕ → Bool → List ℕ → List Request
requests_of kinds.Put channel pages ended bytes = put_requests channel pages ended bytes
requests_of kinds.Get channel pages true bytes = get_requests channel bytes
requests_of kinds.Get channel pages false bytes = reads_from channel (reads_count bytes) 1

-- Those that can be replied to. Where the end was not seen, the READ after the last group has no bytes to be replied to with.
abbrev pub requests_answered : CopyKind → Channel → ℕ → Bool → List ℕ → List Request
requests_answered kinds.Put channel pages ended bytes = put_requests channel pages ended bytes
requests_answered kinds.Get channel pages true bytes = get_requests channel bytes
requests_answered kinds.Get channel pages false bytes = reads_from channel (length bytes / GROUP_SIZE) 1

abbrev pub request_messages : CopyKind → Channel → ℕ → Bool → List ℕ → List (List ℕ)
request_messages kind channel pages ended bytes = map request_bytes (requests_of kind channel pages ended bytes)

abbrev pub reply_messages : CopyKind → Channel → ℕ → Bool → List ℕ → List (List ℕ)
reply_messages kind channel pages ended bytes = map reply_bytes (replies_to bytes (requests_answered kind channel pages ended bytes))

-- what the ends said to one another: the requests that the client submitted, the replies that the server submitted, and how many of
-- each the other end has delivered
pub record Messages : Type 0 where
  pub requests : List (List ℕ)
  pub replies : List (List ℕ)
  pub to_server : ℕ
  pub to_client : ℕ

-- ---- pages

-- What the workers of both ends do with pages, where so many requests were submitted, so many replied to, and so many of the replies
-- delivered: without registered pages nothing.
abbrev pub UsesPages : CopyKind → Channel → ℕ → Bool → List ℕ → ℕ → ℕ → ℕ → List (List PageEvent) → List (List PageEvent) → Type 0
UsesPages kind channels.None pages ended bytes asked replied heard clients servers = (all_events clients ≡ []) × (all_events servers ≡ [])
UsesPages kinds.Put channels.V1 pages ended bytes asked replied heard clients servers =
    PutsUsePages (windows pages) (groups_of bytes) (take asked (requests_of kinds.Put channels.V1 pages ended bytes))
    (take replied (requests_of kinds.Put channels.V1 pages ended bytes)) (take heard (requests_of kinds.Put channels.V1 pages ended bytes)) clients servers
UsesPages kinds.Get channels.V1 pages ended bytes asked replied heard clients servers =
    GetsUsePages bytes (take asked (requests_of kinds.Get channels.V1 pages ended bytes))
    (take replied (requests_of kinds.Get channels.V1 pages ended bytes)) (take heard (requests_of kinds.Get channels.V1 pages ended bytes)) clients servers

-- ---- the run

-- how many of the messages that bring a group were delivered: a put's WRITEs to the server, a get's replies to the client
abbrev pub brought_by : CopyKind → Messages → ℕ
brought_by kinds.Put m = m.to_server
brought_by kinds.Get m = m.to_client

-- the client submits the requests for the bytes, in order; the server the replies, in order, no more than it was asked for; the pages
-- are used as they have to be; and the groups of the bytes come out in order, each after the message that brought it was delivered
pub record IsRun (kind : CopyKind) (channel : Channel) (pages : ℕ) (ended : Bool) (bytes : List ℕ) (m : Messages) (clients servers : List (List PageEvent)) (groups : List (List ℕ)) : Type 0 where
  pub requests : IsPrefix m.requests (request_messages kind channel pages ended bytes)
  pub replies : IsPrefix m.replies (reply_messages kind channel pages ended bytes)
  pub follow : length m.replies ≤ m.to_server
  pub pages_used : UsesPages kind channel pages ended bytes (length m.requests) (length m.replies) m.to_client clients servers
  pub groups_are : IsPrefix groups (groups_of bytes)
  pub brought : length groups ≤ brought_by kind m
