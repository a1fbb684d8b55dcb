-- The pasts of the machines and workers of a copy, of either kind and over either channel. A past is a list of events, the newest one
-- first.
use Rattle.std.specs.Prelude.{ℕ, ◌≤◌, nat_lt, ◌||◌, Bool, false, Option, List, [], ◌∷◌, length, map}
use Rattle.smbd_base.specs.Pages.{PageState}
use Rattle.file_messages.specs.declared.layout.TheConstants.{GROUP_SIZE}
use Rattle.file_messages.specs.declared.kind.Channel.{Channel}
use Rattle.file_messages.specs.declared.kind.CopyKind.{CopyKind}
use Rattle.file_messages.specs.declared.kind.CopyKind.TheVariants as kinds
use Rattle.file_messages.specs.Messages.{request_bytes, reply_bytes}
use Rattle.file_messages.specs.Written.{IsCopyable, IsPool}
use Rattle.file_pasts.specs.ClientPast.{is_ended, requests_sent}
use Rattle.file_pasts.specs.PutLaws.{bytes_in}
use Rattle.file_pasts.specs.GetLaws.{replies_in, groups_taken, IsAnswered}
use Rattle.file_pasts.specs.ServerDue as server
use Rattle.file_pasts.specs.ServerDue.{ServerEvent, replies, IsServer}
use Rattle.file_pasts.specs.ServerLaws.{messages_asked, groups_given, FillsFrom}
use Rattle.page_workers.specs.Workers.{WorkerState}
use Rattle.copy_laws.specs.Kinds.{IsClient, group_due}
use Rattle.copy_laws.specs.Coupled.{Pasts, AreCoupled}
use Rattle.copy_laws.specs.Growing.{bytes_filled}
use Rattle.copy_laws.specs.Laws.{AreBetween}
use Rattle.copy_runs.specs.Runs.{Messages}

-- ---- the bytes of the copy

-- a READ was handed in fewer bytes than it asks for
abbrev pub is_short : List ServerEvent → Bool
is_short [] = false
is_short (server.Asked m ∷ past) = is_short past
is_short (server.Filled bytes ∷ past) = nat_lt (length bytes) GROUP_SIZE || is_short past
is_short (server.Gave work ∷ past) = is_short past
is_short (server.Completed c ∷ past) = is_short past
is_short (server.Replied r ∷ past) = is_short past
is_short (server.Stored bytes ∷ past) = is_short past

-- the bytes that the machine at their source was handed, and whether it was told their end
abbrev pub bytes_of : CopyKind → Pasts → List ℕ
bytes_of kinds.Put p = bytes_in p.client
bytes_of kinds.Get p = bytes_filled p.server

abbrev pub ended_of : CopyKind → Pasts → Bool
ended_of kinds.Put p = is_ended p.client
ended_of kinds.Get p = is_short p.server

-- the groups that the machine at their sink gave, the oldest first
abbrev pub groups_out : CopyKind → Pasts → List (List ℕ)
groups_out kinds.Put p = groups_given p.server
groups_out kinds.Get p = groups_taken p.client

-- the group that is there for the sink and was not given
abbrev pub group_left : CopyKind → Channel → Pasts → Option (List ℕ)
group_left kinds.Put channel p = server.next_group kinds.Put p.server
group_left kinds.Get channel p = group_due kinds.Get channel p.client

-- ---- the messages

abbrev pub messages_of : Pasts → Messages
messages_of p = record {
  requests = map request_bytes (requests_sent p.client);
  replies = map reply_bytes (replies p.server);
  to_server = length (messages_asked p.server);
  to_client = length (replies_in p.client);
}

-- ---- a copy

-- what is said of a get beside the rules of its machines: its READs are handed the bytes of the copy in turn, and its client hears the
-- replies to them
abbrev pub Carries : CopyKind → Channel → Pasts → Type 0
Carries kinds.Put channel p = Unit {0}
Carries kinds.Get channel p = FillsFrom kinds.Get (bytes_filled p.server) p.server × IsAnswered channel (bytes_filled p.server) p.client

-- the machines followed their rules, the messages of one came to the other, and the workers did their jobs on the pages
pub record IsCopy (kind : CopyKind) (channel : Channel) (workers count : ℕ) (p : Pasts) (pages : List PageState) (cs ss : List WorkerState) : Type 0 where
  pub some : 1 ≤ workers
  pub pool : IsPool count
  pub coupled : AreCoupled workers count p pages cs ss
  pub client : IsClient kind channel count p.client
  pub server : IsServer kind p.server
  pub copyable : IsCopyable (bytes_of kind p)
  pub between : AreBetween p
  pub carried : Carries kind channel p
