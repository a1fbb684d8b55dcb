-- A completion that is taken of a worker and handed to its machine.
use Rattle.std.proofs.Common.{ℕ, List, ◌∷◌}
use Rattle.smbd_base.specs.declared.end_id.EndId.TheVariants as side
use Rattle.file_messages.specs.declared.kind.Channel.{Channel}
use Rattle.file_messages.specs.declared.kind.CopyKind.{CopyKind}
use Rattle.file_messages.specs.declared.job.Completion.{Completion}
use Rattle.file_pasts.specs.ClientPast as client
use Rattle.file_pasts.specs.ClientPast.{ClientEvent}
use Rattle.file_pasts.specs.ServerDue as server
use Rattle.file_pasts.specs.ServerDue.{ServerEvent}
use Rattle.file_server.specs.declared.server.FileServer.{FileServer}
use Rattle.file_server.specs.ServerStands as serving
use Rattle.copy_laws.specs.Coupled.{Pasts}
use Rattle.copy_ends.specs.declared.client_machine.ClientMachine.{ClientMachine}
use Rattle.copy_ends.specs.Clients.{ClientCameBy, MayComplete}
use Rattle.page_crew.specs.Crews.{CrewState, HasTaken}
use Rattle.copy_jobs.specs.Jobs.{ClientWith, MayWorkForClient, ClientHanded, client_completed, ServerWith, MayWorkForServer, ServerHanded, server_completed}

-- ---- the client's

-- by each past of the copy from which it began, some completions were handed in
abbrev pub ClientHandsOn : ClientMachine → CrewState → ClientMachine → CrewState → Type 0
ClientHandsOn m a n b = (kind : CopyKind) (channel : Channel) (pages : ℕ) (p : Pasts) → ClientWith kind channel pages p m a → ClientHanded kind channel pages p n b

pub client-may : (m n : ClientMachine) (a b v : CrewState) (c : Completion) → MayWorkForClient m a → ClientHandsOn m a n b → HasTaken side.Client c b v → MayComplete n c
client-may m n a b v c may on t =
    let h = on may.kind may.channel may.pages may.past may.stands in
    record {
      kind = may.kind;
      channel = may.channel;
      pages = may.pages;
      past = client_completed h.completions may.past.client;
      came = h.stands.came;
      answers_it = (t.handed (record may.past { client = client_completed h.completions may.past.client }) h.stands.coupled).0;
    }

pub client-hands : (m n k : ClientMachine) (a b v : CrewState) (c : Completion) → ClientHandsOn m a n b → HasTaken side.Client c b v
    → ((kind : CopyKind) (channel : Channel) (pages : ℕ) (past : List ClientEvent) → ClientCameBy kind channel pages past n → client.AnswersJob past c
    → ClientCameBy kind channel pages (client.Completed c ∷ past) k) → ClientHandsOn m a k v
client-hands m n k a b v c on t completed = λ kind channel pages p w.
    let h = on kind channel pages p w in
    let x = t.handed (record p { client = client_completed h.completions p.client }) h.stands.coupled in
    record {
      completions = c ∷ h.completions;
      stands = record { came = completed kind channel pages (client_completed h.completions p.client) h.stands.came x.0; coupled = x.1 };
    }

-- ---- the server's

abbrev pub ServerHandsOn : FileServer → CrewState → FileServer → CrewState → Type 0
ServerHandsOn m a n b = (kind : CopyKind) (p : Pasts) → ServerWith kind p m a → ServerHanded kind p n b

pub server-may : (m n : FileServer) (a b v : CrewState) (c : Completion) → MayWorkForServer m a → ServerHandsOn m a n b → HasTaken side.Server c b v → serving.MayComplete n c
server-may m n a b v c may on t =
    let h = on may.kind may.past may.stands in
    record {
      kind = may.kind;
      past = server_completed h.completions may.past.server;
      came = h.stands.came;
      answers = (t.handed may.kind (record may.past { server = server_completed h.completions may.past.server }) h.stands.came.in_turn.lawful h.stands.coupled).0;
    }

pub server-hands : (m n k : FileServer) (a b v : CrewState) (c : Completion) → ServerHandsOn m a n b → HasTaken side.Server c b v
    → ((kind : CopyKind) (past : List ServerEvent) → serving.CameBy kind past n → server.AnswersJob kind past c → serving.CameBy kind (server.Completed c ∷ past) k)
    → ServerHandsOn m a k v
server-hands m n k a b v c on t completed = λ kind p w.
    let h = on kind p w in
    let x = t.handed kind (record p { server = server_completed h.completions p.server }) h.stands.came.in_turn.lawful h.stands.coupled in
    record {
      completions = c ∷ h.completions;
      stands = record { came = completed kind (server_completed h.completions p.server) h.stands.came x.0; coupled = x.1 };
    }
