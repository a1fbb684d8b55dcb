-- How the parts of a copy stand: both ends, the machines above them, and the workers with their pages. A past is a list of events, the
-- newest one first.
use Rattle.std.specs.Prelude.{◌≡◌, ℕ, Bool, is_some, None, length, map}
use Rattle.smbd_base.specs.declared.end_id.EndId.TheVariants.{Client, Server}
use Rattle.smbd_base.specs.Limits as limits
use Rattle.smbd_base.specs.History.{messages_submitted}
use Rattle.smbd_base.specs.Delivery.{messages_delivered}
use Rattle.world_core.specs.Run.{State, AreJointIn, AreDelivered}
use Rattle.file_messages.specs.declared.kind.CopyKind.{CopyKind}
use Rattle.file_messages.specs.declared.kind.CopyKind.TheVariants as kinds
use Rattle.file_messages.specs.declared.kind.Channel.{Channel}
use Rattle.file_messages.specs.Messages.{request_bytes, reply_bytes}
use Rattle.file_messages.specs.Written.{IsCopyable}
use Rattle.file_pasts.specs.ClientPast.{requests_sent}
use Rattle.file_pasts.specs.GetLaws.{replies_in}
use Rattle.file_pasts.specs.ServerDue as server
use Rattle.file_pasts.specs.ServerDue.{replies, IsServer}
use Rattle.file_pasts.specs.ServerLaws.{messages_asked}
use Rattle.file_server.specs.ServerStands.{CameBy}
use Rattle.copy_laws.specs.Coupled.{Pasts}
use Rattle.copy_laws.specs.Kinds.{job_due, group_wanted, IsClient}
use Rattle.copy_runs.specs.CopyPasts.{bytes_of, Carries}
use Rattle.copy_ends.specs.Clients.{ClientCameBy}
use Rattle.copy_ends.specs.Ends.{RepliesFollow}
use Rattle.copy_ends.specs.Cuts.{frames_sent, AreLeft}
use Rattle.page_crew.specs.Crews.{CrewState, IsSized, IsCrewOf}
use Rattle.copy_parts.specs.Cuts.{EmitsFewer, IsLinked}
use Rattle.copy_parts.specs.declared.options.CopyOptions.{CopyOptions}
use Rattle.copy_parts.specs.declared.parts.Parts.{Parts}

-- The link is cut only as was asked, and both ends have the limits of the copy.
pub record IsConnected (o : CopyOptions) (world : State) : Type 0 where
  pub link : IsLinked o world
  pub few : EmitsFewer o.cut world.client
  pub client_limits : world.client_limits ≡ o.limits
  pub server_limits : world.server_limits ≡ o.limits
  pub lawful : limits.IsLawful o.limits
  pub joint : AreJointIn world
  pub delivered : AreDelivered world
  pub follows : RepliesFollow world.server_limits world.server

-- what the machines said is what the ends submitted, and what they were handed is what the ends delivered
pub record AreTied (p : Pasts) (world : State) : Type 0 where
  pub sent : messages_submitted world.client ≡ map request_bytes (requests_sent p.client)
  pub heard : replies_in p.client ≡ messages_delivered Client world.client_limits world.client
  pub replied : messages_submitted world.server ≡ map reply_bytes (replies p.server)
  pub asked : messages_asked p.server ≡ messages_delivered Server world.server_limits world.server

-- the workers and their pages are those of the copy, and did what its machines gave them
pub record AreManned (o : CopyOptions) (p : Pasts) (crew : CrewState) : Type 0 where
  pub sized : IsSized crew
  pub workers : length crew.clients ≡ o.workers
  pub pages : length crew.region.pages ≡ o.limits.pages
  pub coupled : IsCrewOf p crew

-- the machines followed their rules, for bytes of which a copy can be made
pub record AreRuled (o : CopyOptions) (p : Pasts) : Type 0 where
  pub client : IsClient o.kind o.channel o.limits.pages p.client
  pub server : IsServer o.kind p.server
  pub copyable : IsCopyable (bytes_of o.kind p)
  pub carried : Carries o.kind o.channel p

pub record IsUnderWay (o : CopyOptions) (p : Pasts) (world : State) (crew : CrewState) : Type 0 where
  pub connected : IsConnected o world
  pub tied : AreTied p world
  pub manned : AreManned o p crew
  pub ruled : AreRuled o p

-- and the machines came to stand by these pasts, and the client may send so many frames before the link is cut
pub record Stands (o : CopyOptions) (p : Pasts) (parts : Parts) : Type 0 where
  pub under_way : IsUnderWay o p parts.world parts.crew
  pub client : ClientCameBy o.kind o.channel o.limits.pages p.client parts.client
  pub server : CameBy o.kind p.server parts.server
  pub left : AreLeft o.cut (frames_sent parts.world.client) parts.left

-- the machine at the source of the bytes wants more of them
abbrev pub wants_bytes : CopyKind → Channel → ℕ → Pasts → Bool
wants_bytes kinds.Put channel pages p = group_wanted kinds.Put channel pages p.client
wants_bytes kinds.Get channel pages p = is_some (server.wants_source kinds.Get p.server)

-- no job is due that was not given
pub record NoJobsDue (o : CopyOptions) (p : Pasts) : Type 0 where
  pub client : job_due o.kind o.channel o.limits.pages p.client ≡ None
  pub server : server.next_job o.kind p.server ≡ None
