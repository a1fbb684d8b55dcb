-- How the machines of a copy and the ends of its connection stand to one another, and what a round of an end does.
use Rattle.std.specs.Prelude.{◌≡◌, ℕ, ◌+◌, ◌<◌, ◌≤◌, Bool, true, false, None, Result, Err, List, [], ◌∷◌, ◌++◌, length, map}
use Rattle.smbd_base.specs.declared.end_id.EndId.TheVariants as side
use Rattle.smbd_base.specs.declared.event.Event.{Event}
use Rattle.smbd_base.specs.Limits.{Limits}
use Rattle.smbd_base.specs.Delivery.{messages_delivered}
use Rattle.smbd_base.specs.History.{messages_submitted}
use Rattle.world_core.specs.Run.{State}
use Rattle.file_messages.specs.declared.fault.FileFault.{FileFault}
use Rattle.file_messages.specs.declared.fault.FileFault.TheVariants as faults
use Rattle.file_messages.specs.declared.kind.Channel.{Channel}
use Rattle.file_messages.specs.declared.kind.CopyKind.{CopyKind}
use Rattle.file_messages.specs.Messages.{request_bytes, reply_bytes}
use Rattle.file_pasts.specs.ClientPast as client
use Rattle.file_pasts.specs.ClientPast.{ClientEvent, requests_sent}
use Rattle.file_pasts.specs.GetLaws.{replies_in}
use Rattle.file_pasts.specs.ServerDue as server
use Rattle.file_pasts.specs.ServerDue.{ServerEvent, replies, next_reply}
use Rattle.file_pasts.specs.ServerLaws.{messages_asked}
use Rattle.file_server.specs.declared.server.FileServer.{FileServer}
use Rattle.file_server.specs.ServerStands.{CameBy}
use Rattle.copy_ends.specs.declared.client_machine.ClientMachine.{ClientMachine}
use Rattle.copy_ends.specs.Clients.{ClientCameBy}
use Rattle.copy_laws.specs.Kinds.{request_due}
use Rattle.copy_ends.specs.Turns.{IsUp, IsAtRest}

-- ---- the client

-- what the client's machine gave is what its end submitted, and what the end delivered is what the machine was handed
pub record ClientStands (kind : CopyKind) (channel : Channel) (pages : ℕ) (past : List ClientEvent) (m : ClientMachine) (world : State) : Type 0 where
  pub came : ClientCameBy kind channel pages past m
  pub sent : messages_submitted world.client ≡ map request_bytes (requests_sent past)
  pub heard : replies_in past ≡ messages_delivered side.Client world.client_limits world.client

-- requests that were given, and replies that were handed in, alone
abbrev pub IsTalk : List ClientEvent → Type 0
IsTalk [] = Unit {0}
IsTalk (client.Group bytes ∷ past) = ⊥
IsTalk (client.End ∷ past) = ⊥
IsTalk (client.Sent r ∷ past) = IsTalk past
IsTalk (client.Replied m ∷ past) = IsTalk past
IsTalk (client.Gave work ∷ past) = ⊥
IsTalk (client.Completed c ∷ past) = ⊥
IsTalk (client.Received bytes ∷ past) = ⊥

-- the past went on by these alone
pub record GoesOnTalking (past later : List ClientEvent) : Type 0 where
  pub talk : List ClientEvent
  pub only : IsTalk talk
  pub is : later ≡ talk ++ past

-- nothing comes next at the client's end, it has taken each frame, and no request is due
pub record ClientRests (kind : CopyKind) (channel : Channel) (pages : ℕ) (past : List ClientEvent) (world : State) : Type 0 where
  pub end : IsAtRest side.Client world
  pub due : request_due kind channel pages past ≡ None

-- from this past the client went on talking, gave at most so many requests, and then rests if that was answered
pub record ClientGoesOn (kind : CopyKind) (channel : Channel) (pages : ℕ) (past : List ClientEvent) (most : ℕ) (rests : Bool) (m : ClientMachine) (world : State) : Type 0 where
  pub later : List ClientEvent
  pub talked : GoesOnTalking past later
  pub few : length (requests_sent later) ≤ length (requests_sent past) + most
  pub stands : ClientStands kind channel pages later m world
  pub at_rest : rests ≡ true → ClientRests kind channel pages later world

-- nothing is cut, the machine and its end fit together, and each of so many requests more has a number
pub record MayTalk (most : ℕ) (m : ClientMachine) (world : State) : Type 0 where
  pub up : IsUp world
  pub kind : CopyKind
  pub channel : Channel
  pub pages : ℕ
  pub past : List ClientEvent
  pub stands : ClientStands kind channel pages past m world
  pub few : length (requests_sent past) + most < 4294967295

-- no request is due, and nothing has changed
pub record HasNoRequest (kind : CopyKind) (channel : Channel) (pages : ℕ) (past : List ClientEvent) (m : ClientMachine) (old new : State) : Type 0 where
  pub due : request_due kind channel pages past ≡ None
  pub same : new ≡ old
  pub stands : ClientStands kind channel pages past m new

-- ---- the server

-- each reply follows its request: at every moment of the server's past, no more replies were submitted than requests delivered
abbrev pub RepliesFollow : Limits → List Event → Type 0
RepliesFollow limits [] = Unit {0}
RepliesFollow limits (e ∷ past) = (length (messages_submitted (e ∷ past)) ≤ length (messages_delivered side.Server limits (e ∷ past))) × RepliesFollow limits past

-- what the server's machine replied is what its end submitted, each reply after its request, and what the end delivered is what the
-- machine was handed
pub record ServerStands (kind : CopyKind) (past : List ServerEvent) (m : FileServer) (world : State) : Type 0 where
  pub came : CameBy kind past m
  pub sent : messages_submitted world.server ≡ map reply_bytes (replies past)
  pub heard : messages_asked past ≡ messages_delivered side.Server world.server_limits world.server
  pub follows : RepliesFollow world.server_limits world.server

-- requests that were handed in, and replies that were given, alone
abbrev pub IsServing : List ServerEvent → Type 0
IsServing [] = Unit {0}
IsServing (server.Asked m ∷ past) = IsServing past
IsServing (server.Filled bytes ∷ past) = ⊥
IsServing (server.Gave work ∷ past) = ⊥
IsServing (server.Completed c ∷ past) = ⊥
IsServing (server.Replied r ∷ past) = IsServing past
IsServing (server.Stored bytes ∷ past) = ⊥

pub record GoesOnServing (past later : List ServerEvent) : Type 0 where
  pub talk : List ServerEvent
  pub only : IsServing talk
  pub is : later ≡ talk ++ past

-- nothing comes next at the server's end, it has taken each frame, and no reply is due
pub record ServerRests (kind : CopyKind) (past : List ServerEvent) (world : State) : Type 0 where
  pub end : IsAtRest side.Server world
  pub due : next_reply kind past ≡ None

pub record ServerGoesOn (kind : CopyKind) (past : List ServerEvent) (rests : Bool) (m : FileServer) (world : State) : Type 0 where
  pub later : List ServerEvent
  pub talked : GoesOnServing past later
  pub stands : ServerStands kind later m world
  pub at_rest : rests ≡ true → ServerRests kind later world

pub record MayServe (m : FileServer) (world : State) : Type 0 where
  pub up : IsUp world
  pub kind : CopyKind
  pub past : List ServerEvent
  pub stands : ServerStands kind past m world

-- no reply is due, and nothing has changed
pub record HasNoReply (kind : CopyKind) (past : List ServerEvent) (m : FileServer) (old new : State) : Type 0 where
  pub due : next_reply kind past ≡ None
  pub same : new ≡ old
  pub stands : ServerStands kind past m new

-- the request was not taken for want of memory
abbrev pub lacks_memory : Result Unit FileFault → Bool
lacks_memory (Err faults.NoMemory) = true
lacks_memory answer = false
