-- How the client's machine of a copy, of either kind, stands after its past.
use Rattle.std.specs.Prelude.{◌≡◌, ℕ, ◌<◌, ◌≤◌, true, List, length}
use Rattle.file_messages.specs.declared.layout.TheConstants.{GROUP_SIZE}
use Rattle.file_messages.specs.declared.kind.Channel.{Channel}
use Rattle.file_messages.specs.declared.kind.CopyKind.{CopyKind}
use Rattle.file_messages.specs.declared.kind.CopyKind.TheVariants as kinds
use Rattle.file_messages.specs.declared.job.Completion.{Completion}
use Rattle.file_pasts.specs.ClientPast.{ClientEvent, requests_sent, AnswersJob}
use Rattle.file_pasts.specs.PutLaws.{put_over}
use Rattle.file_transfer.specs.PutClientStands as put_client
use Rattle.file_transfer.specs.GetClientStands as get_client
use Rattle.copy_laws.specs.Kinds.{group_wanted}
use Rattle.copy_ends.specs.declared.client_machine.ClientMachine.{ClientMachine}
use Rattle.copy_ends.specs.declared.client_machine.ClientMachine.TheVariants.{Put, Get}

-- the machine of a copy of this kind, over this channel and a pool of so many pages, came to stand so by this past
abbrev pub ClientCameBy : CopyKind → Channel → ℕ → List ClientEvent → ClientMachine → Type 0
ClientCameBy kinds.Put channel pages past (Put m) = put_client.CameBy (put_over channel pages) past m
ClientCameBy kinds.Put channel pages past (Get m) = ⊥
ClientCameBy kinds.Get channel pages past (Put m) = ⊥
ClientCameBy kinds.Get channel pages past (Get m) = get_client.CameBy channel past m

-- ---- what the calls ask for

pub record HasCome (m : ClientMachine) : Type 0 where
  pub kind : CopyKind
  pub channel : Channel
  pub pages : ℕ
  pub past : List ClientEvent
  pub came : ClientCameBy kind channel pages past m

-- a group may be handed in: it is wanted, and has from 1 to 65,536 bytes
pub record MayHand (m : ClientMachine) (bytes : List ℕ) : Type 0 where
  pub kind : CopyKind
  pub channel : Channel
  pub pages : ℕ
  pub past : List ClientEvent
  pub came : ClientCameBy kind channel pages past m
  pub wanted : group_wanted kind channel pages past ≡ true
  pub some : 1 ≤ length bytes
  pub short : length bytes ≤ GROUP_SIZE

-- a completion answers a job that was given and is not completed
pub record MayComplete (m : ClientMachine) (c : Completion) : Type 0 where
  pub kind : CopyKind
  pub channel : Channel
  pub pages : ℕ
  pub past : List ClientEvent
  pub came : ClientCameBy kind channel pages past m
  pub answers_it : AnswersJob past c

-- the next request has a number
pub record MaySend (m : ClientMachine) : Type 0 where
  pub kind : CopyKind
  pub channel : Channel
  pub pages : ℕ
  pub past : List ClientEvent
  pub came : ClientCameBy kind channel pages past m
  pub few : length (requests_sent past) < 4294967295
