-- How the client's machine of a copy and its end stand to each other, and what a round of the end does. A past is a list of events, the
-- newest one first.
use Rattle.std.specs.Prelude.{◌≡◌, ℕ, ◌+◌, ◌<◌, ◌≤◌, Bool, true, Option, Some, None, List, ◌∷◌, length, map}
use Rattle.smbd_base.specs.declared.end_id.EndId.TheVariants.{Client}
use Rattle.smbd_base.specs.History.{messages_submitted}
use Rattle.sim_adapter.specs.declared.view.EndView.{EndView}
use Rattle.file_messages.specs.declared.kind.Channel.{Channel}
use Rattle.file_messages.specs.declared.kind.CopyKind.{CopyKind}
use Rattle.file_messages.specs.Messages.{request_bytes}
use Rattle.file_pasts.specs.ClientPast.{ClientEvent, Replied, requests_sent}
use Rattle.file_pasts.specs.GetLaws.{replies_in}
use Rattle.copy_laws.specs.Kinds.{request_due}
use Rattle.copy_ends.specs.declared.client_machine.ClientMachine.{ClientMachine}
use Rattle.copy_ends.specs.Clients.{ClientCameBy}
use Rattle.copy_ends.specs.Ends.{GoesOnTalking}
use Rattle.end_shares.specs.Turns.{delivered_by}

-- what the client's machine gave is what its end submitted, and what the end delivered is what the machine was handed
pub record ClientStands (kind : CopyKind) (channel : Channel) (pages : ℕ) (past : List ClientEvent) (m : ClientMachine) (v : EndView) : Type 0 where
  pub came : ClientCameBy kind channel pages past m
  pub sent : messages_submitted v.past ≡ map request_bytes (requests_sent past)
  pub heard : replies_in past ≡ delivered_by Client v

-- from this past the client went on talking, gave at most so many requests, and then has none left if that was answered
pub record ClientGoesOn (kind : CopyKind) (channel : Channel) (pages : ℕ) (past : List ClientEvent) (most : ℕ) (rests : Bool) (m : ClientMachine) (v : EndView) : Type 0 where
  pub later : List ClientEvent
  pub talked : GoesOnTalking past later
  pub few : length (requests_sent later) ≤ length (requests_sent past) + most
  pub stands : ClientStands kind channel pages later m v
  pub at_rest : rests ≡ true → request_due kind channel pages later ≡ None

-- the machine and its end fit together, and each of so many requests more has a number
pub record MayTalk (most : ℕ) (m : ClientMachine) (v : EndView) : Type 0 where
  pub kind : CopyKind
  pub channel : Channel
  pub pages : ℕ
  pub past : List ClientEvent
  pub stands : ClientStands kind channel pages past m v
  pub few : length (requests_sent past) + most < 4294967295

-- no request is due, and nothing has changed
pub record HasNoRequest (kind : CopyKind) (channel : Channel) (pages : ℕ) (past : List ClientEvent) (m : ClientMachine) (old new : EndView) : Type 0 where
  pub due : request_due kind channel pages past ≡ None
  pub same : new ≡ old
  pub stands : ClientStands kind channel pages past m new

-- once a message was handed in as a reply, where one was delivered
abbrev pub after_hearing : Option (List ℕ) → List ClientEvent → List ClientEvent
after_hearing None past = past
after_hearing (Some message) past = Replied message ∷ past
