-- What follows of a copy's pasts (this project's own).
use Rattle.std.specs.Prelude.{◌≡◌, ℕ, ◌+◌, ◌/◌, ◌≤◌, Bool, true, false, Some, None, List, length}
use Rattle.smbd_base.specs.declared.page_event.PageEvent.{PageEvent}
use Rattle.smbd_base.specs.Pages.{PageState}
use Rattle.file_messages.specs.declared.layout.TheConstants.{GROUP_SIZE}
use Rattle.file_messages.specs.declared.kind.Channel.{Channel}
use Rattle.file_messages.specs.declared.kind.CopyKind.{CopyKind}
use Rattle.file_messages.specs.declared.kind.CopyKind.TheVariants as kinds
use Rattle.file_messages.specs.Runs.{groups_of}
use Rattle.file_pasts.specs.ClientPast.{ClientEvent}
use Rattle.file_pasts.specs.GetLaws.{replies_in}
use Rattle.file_pasts.specs.ServerDue.{ServerEvent, Follows, wants_source}
use Rattle.page_workers.specs.Workers.{WorkerState}
use Rattle.copy_laws.specs.Coupled.{Pasts}
use Rattle.copy_laws.specs.Kinds.{is_over}
use Rattle.copy_laws.specs.Laws.{AreBetween, client_lists, server_lists}
use Rattle.copy_laws.specs.Steps.{server_after}
use Rattle.copy_runs.specs.Runs.{Messages, reply_messages, IsRun}
use Rattle.copy_runs.specs.CopyPasts.{bytes_of, ended_of, groups_out, group_left, messages_of, is_short, Carries, IsCopy}

-- ---- the run

abbrev pub CopiesRun : Type 0
CopiesRun = (kind : CopyKind) (channel : Channel) (workers count : ℕ) (p : Pasts) (pages : List PageState) (cs ss : List WorkerState)
    → IsCopy kind channel workers count p pages cs ss
    → IsRun kind channel count (ended_of kind p) (bytes_of kind p) (messages_of p) (client_lists workers p) (server_lists workers p) (groups_out kind p)

-- it has no more requests than one for each group, a READ that gets fewer bytes, and END
abbrev pub RequestsAreFew : Type 0
RequestsAreFew = (kind : CopyKind) (channel : Channel) (pages : ℕ) (ended : Bool) (bytes : List ℕ) (m : Messages) (clients servers : List (List PageEvent)) (groups : List (List ℕ))
    → IsRun kind channel pages ended bytes m clients servers groups → length m.requests ≤ length bytes / GROUP_SIZE + 2

-- ---- how it goes on

-- whatever more the client's machine did, where it heard what the server replied
abbrev pub ClientsCarry : Type 0
ClientsCarry = (kind : CopyKind) (channel : Channel) (workers count : ℕ) (p : Pasts) (pages : List PageState) (cs ss : List WorkerState) (client : List ClientEvent)
    → IsCopy kind channel workers count p pages cs ss → AreBetween (record p { client = client }) → Carries kind channel (record p { client = client })

-- and whatever more the server's machine did
abbrev pub ServersCarry : Type 0
ServersCarry = (kind : CopyKind) (channel : Channel) (workers count : ℕ) (p : Pasts) (pages : List PageState) (cs ss : List WorkerState) (e : ServerEvent)
    → IsCopy kind channel workers count p pages cs ss → Follows kind e p.server → Carries kind channel (server_after e p)

-- the server of a get wants whole groups, until the end of the bytes was seen
pub record WantsWhole (most : ℕ) (past : List ServerEvent) : Type 0 where
  pub whole : most ≡ GROUP_SIZE
  pub goes_on : is_short past ≡ false

abbrev pub ServersWant : Type 0
ServersWant = (channel : Channel) (workers count : ℕ) (p : Pasts) (pages : List PageState) (cs ss : List WorkerState) (most : ℕ)
    → IsCopy kinds.Get channel workers count p pages cs ss → wants_source kinds.Get p.server ≡ Some most → WantsWhole most p.server

-- ---- how it ends

-- the end of the bytes was seen, all their groups came out, and each request of the copy has its reply
pub record IsWhole (kind : CopyKind) (channel : Channel) (count : ℕ) (p : Pasts) : Type 0 where
  pub ended : ended_of kind p ≡ true
  pub groups : groups_out kind p ≡ groups_of (bytes_of kind p)
  pub answered : replies_in p.client ≡ reply_messages kind channel count true (bytes_of kind p)

-- where the client has taken END's reply, and no group waits for the sink
abbrev pub CopiesEnd : Type 0
CopiesEnd = (kind : CopyKind) (channel : Channel) (workers count : ℕ) (p : Pasts) (pages : List PageState) (cs ss : List WorkerState)
    → IsCopy kind channel workers count p pages cs ss → is_over kind p.client ≡ true → group_left kind channel p ≡ None → IsWhole kind channel count p
