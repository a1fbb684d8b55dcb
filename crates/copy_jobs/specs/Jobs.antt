-- Jobs and their completions, between the machines of a copy and its workers (this project's own). A past is a list of events, the newest
-- one first.
use Rattle.std.specs.Prelude.{◌≡◌, ℕ, None, List, [], ◌∷◌}
use Rattle.smbd_base.specs.declared.end_id.EndId.{EndId}
use Rattle.file_messages.specs.declared.kind.Channel.{Channel}
use Rattle.file_messages.specs.declared.kind.CopyKind.{CopyKind}
use Rattle.file_messages.specs.declared.job.Work.{Work}
use Rattle.file_messages.specs.declared.job.Completion.{Completion}
use Rattle.file_pasts.specs.ClientPast as client
use Rattle.file_pasts.specs.ClientPast.{ClientEvent}
use Rattle.file_pasts.specs.ServerDue as server
use Rattle.file_pasts.specs.ServerDue.{ServerEvent}
use Rattle.file_server.specs.declared.server.FileServer.{FileServer}
use Rattle.file_server.specs.ServerStands.{CameBy}
use Rattle.copy_laws.specs.Coupled.{Pasts}
use Rattle.copy_ends.specs.declared.client_machine.ClientMachine.{ClientMachine}
use Rattle.copy_ends.specs.Clients.{ClientCameBy}
use Rattle.copy_laws.specs.Kinds.{job_due}
use Rattle.page_crew.specs.Crews.{CrewState, IsCrewOf, workers_of, with_workers, lines_of}

-- the client's machine came to stand so by its past, and the workers and pages by those of the copy
pub record ClientWith (kind : CopyKind) (channel : Channel) (pages : ℕ) (p : Pasts) (m : ClientMachine) (crew : CrewState) : Type 0 where
  pub came : ClientCameBy kind channel pages p.client m
  pub coupled : IsCrewOf p crew

-- and so the server's
pub record ServerWith (kind : CopyKind) (p : Pasts) (m : FileServer) (crew : CrewState) : Type 0 where
  pub came : CameBy kind p.server m
  pub coupled : IsCrewOf p crew

pub record MayWorkForClient (m : ClientMachine) (crew : CrewState) : Type 0 where
  pub kind : CopyKind
  pub channel : Channel
  pub pages : ℕ
  pub past : Pasts
  pub stands : ClientWith kind channel pages past m crew

pub record MayWorkForServer (m : FileServer) (crew : CrewState) : Type 0 where
  pub kind : CopyKind
  pub past : Pasts
  pub stands : ServerWith kind past m crew

-- nothing has changed but the workers of this end, and of these no line
pub record IsSameBut (end : EndId) (a b : CrewState) : Type 0 where
  pub others : b ≡ with_workers end (workers_of end b) a
  pub lines : lines_of (workers_of end b) ≡ lines_of (workers_of end a)

-- ---- completions

-- the past after these completions, the newest one first
abbrev pub client_completed : List Completion → List ClientEvent → List ClientEvent
client_completed [] past = past
client_completed (c ∷ later) past = client.Completed c ∷ client_completed later past

abbrev pub server_completed : List Completion → List ServerEvent → List ServerEvent
server_completed [] past = past
server_completed (c ∷ later) past = server.Completed c ∷ server_completed later past

-- some completions were handed in
pub record ClientHanded (kind : CopyKind) (channel : Channel) (pages : ℕ) (p : Pasts) (m : ClientMachine) (crew : CrewState) : Type 0 where
  pub completions : List Completion
  pub stands : ClientWith kind channel pages (record p { client = client_completed completions p.client }) m crew

pub record ServerHanded (kind : CopyKind) (p : Pasts) (m : FileServer) (crew : CrewState) : Type 0 where
  pub completions : List Completion
  pub stands : ServerWith kind (record p { server = server_completed completions p.server }) m crew

-- ---- jobs

-- the past after these jobs, the newest one first
abbrev pub client_gave : List Work → List ClientEvent → List ClientEvent
client_gave [] past = past
client_gave (work ∷ later) past = client.Gave work ∷ client_gave later past

abbrev pub server_gave : List Work → List ServerEvent → List ServerEvent
server_gave [] past = past
server_gave (work ∷ later) past = server.Gave work ∷ server_gave later past

-- all jobs that were due were given
pub record ClientGiven (kind : CopyKind) (channel : Channel) (pages : ℕ) (p : Pasts) (m : ClientMachine) (crew : CrewState) : Type 0 where
  pub works : List Work
  pub stands : ClientWith kind channel pages (record p { client = client_gave works p.client }) m crew
  pub none : job_due kind channel pages (client_gave works p.client) ≡ None

pub record ServerGiven (kind : CopyKind) (p : Pasts) (m : FileServer) (crew : CrewState) : Type 0 where
  pub works : List Work
  pub stands : ServerWith kind (record p { server = server_gave works p.server }) m crew
  pub none : server.next_job kind (server_gave works p.server) ≡ None
