-- A job that is due at a machine and given to a worker.
use Rattle.std.proofs.Common.{◌≡◌, ℕ, ◌<◌, Bool, true, false, cond, Option, Some, None, List, ◌∷◌, length, sym, ap, subst}
use Rattle.std.specs.Prelude.{slice_get}
use Rattle.smbd_base.specs.declared.end_id.EndId.TheVariants as side
use Rattle.file_messages.specs.declared.kind.Channel.{Channel}
use Rattle.file_messages.specs.declared.kind.Channel.TheVariants as channels
use Rattle.file_messages.specs.declared.kind.CopyKind.{CopyKind}
use Rattle.file_messages.specs.declared.kind.CopyKind.TheVariants as kinds
use Rattle.file_messages.specs.declared.job.Work.{Work}
use Rattle.file_messages.specs.declared.job.Job.{Job}
use Rattle.file_pasts.specs.ClientPast.{ClientEvent, jobs_given, has_failed}
use Rattle.file_pasts.specs.PutDue as puts
use Rattle.file_pasts.specs.PutDue.{numbered}
use Rattle.file_pasts.specs.PutLaws.{put_over}
use Rattle.file_pasts.specs.GetDue as gets
use Rattle.file_pasts.specs.ServerDue as server
use Rattle.file_pasts.specs.ServerDue.{ServerEvent}
use Rattle.file_transfer.specs.ClientJobs.{after_giving}
use Rattle.file_server.specs.declared.server.FileServer.{FileServer}
use Rattle.file_server.specs.ServerStands as serving
use Rattle.copy_laws.specs.ClientDone.{JobsAnswered}
use Rattle.copy_laws.specs.Coupled.{Pasts}
use Rattle.copy_laws.specs.Kinds.{job_due}
use Rattle.copy_laws.proofs.StepsClients.{puts-answer, gets-answer}
use Rattle.copy_ends.specs.declared.client_machine.ClientMachine.{ClientMachine}
use Rattle.copy_ends.specs.declared.client_machine.ClientMachine.TheVariants.{Put, Get}
use Rattle.copy_ends.specs.Clients.{ClientCameBy, HasCome}
use Rattle.page_crew.specs.Crews.{CrewState, HasGiven}
use Rattle.copy_jobs.specs.Jobs.{ClientWith, MayWorkForClient, ClientGiven, client_gave, ServerWith, MayWorkForServer, ServerGiven, server_gave}
use Rattle.copy_jobs.proofs.JobsLeft.{jobs_left, fewer-left, server_left, fewer-served}

number-in : (n : ℕ) (o : Option Work) (job : Job) → numbered n o ≡ Some job → job.number ≡ n
number-in n None job e = absurd (let b : ⊥ = cc in b)
number-in n (Some work) job e = ap (λ (o : Option Job). elim o [ None ↦ job.number | Some j ↦ j.number ]) (sym e)

-- ---- what is known of a client's past

number-due : (failed : Bool) (channel : Channel) (n : ℕ) (o : Option Work) (job : Job)
    → cond failed None (elim channel [ channels.None ↦ None | channels.V1 ↦ numbered n o ]) ≡ Some job → job.number ≡ n
number-due true channel n o job e = absurd (let b : ⊥ = cc in b)
number-due false channels.None n o job e = absurd (let b : ⊥ = cc in b)
number-due false channels.V1 n o job e = number-in n o job e

next-number : (kind : CopyKind) (channel : Channel) (pages : ℕ) (past : List ClientEvent) (job : Job) → job_due kind channel pages past ≡ Some job → job.number ≡ length (jobs_given past)
next-number kinds.Put channel pages past job e =
    number-due (has_failed past) channel (length (jobs_given past)) (slice_get (puts.jobs_due (put_over channel pages).windows past) (length (jobs_given past))) job e
next-number kinds.Get channel pages past job e = number-due (has_failed past) channel (length (jobs_given past)) (slice_get (gets.jobs_due past) (length (jobs_given past))) job e

answered : (kind : CopyKind) (channel : Channel) (pages : ℕ) (past : List ClientEvent) (m : ClientMachine) → ClientCameBy kind channel pages past m → JobsAnswered past
answered kinds.Put channel pages past (Put m) came = puts-answer (put_over channel pages) past came.requests.lawful
answered kinds.Put channel pages past (Get m) came = absurd came
answered kinds.Get channel pages past (Put m) came = absurd came
answered kinds.Get channel pages past (Get m) came = gets-answer channel past came.requests.lawful

-- ---- the client's

-- some jobs were given
pub record ClientGave (kind : CopyKind) (channel : Channel) (pages : ℕ) (p : Pasts) (m : ClientMachine) (crew : CrewState) : Type 0 where
  pub works : List Work
  pub stands : ClientWith kind channel pages (record p { client = client_gave works p.client }) m crew

-- by each past of the copy from which it began
abbrev pub ClientGivesOn : ClientMachine → CrewState → ClientMachine → CrewState → Type 0
ClientGivesOn m a n b = (kind : CopyKind) (channel : Channel) (pages : ℕ) (p : Pasts) → ClientWith kind channel pages p m a → ClientGave kind channel pages p n b

-- what the machine's call for its next job tells
abbrev pub ClientDue : ClientMachine → Option Job → Type 0
ClientDue m o = (kind : CopyKind) (channel : Channel) (pages : ℕ) (past : List ClientEvent) → ClientCameBy kind channel pages past m → o ≡ job_due kind channel pages past

abbrev pub ClientAfter : ClientMachine → ClientMachine → Type 0
ClientAfter m n = (kind : CopyKind) (channel : Channel) (pages : ℕ) (past : List ClientEvent) → ClientCameBy kind channel pages past m
    → ClientCameBy kind channel pages (after_giving (job_due kind channel pages past) past) n

pub client-may : (m n : ClientMachine) (a b : CrewState) → MayWorkForClient m a → ClientGivesOn m a n b → HasCome n
client-may m n a b may on =
    let g = on may.kind may.channel may.pages may.past may.stands in
    record { kind = may.kind; channel = may.channel; pages = may.pages; past = client_gave g.works may.past.client; came = g.stands.came }

came-after : (kind : CopyKind) (channel : Channel) (pages : ℕ) (past : List ClientEvent) (n k : ClientMachine) (o : Option Job) → ClientDue n o → ClientAfter n k
    → ClientCameBy kind channel pages past n → ClientCameBy kind channel pages (after_giving o past) k
came-after kind channel pages past n k o due after came =
    subst (λ (x : Option Job). ClientCameBy kind channel pages (after_giving x past) k) (sym (due kind channel pages past came)) (after kind channel pages past came)

pub client-fewer : (m n k : ClientMachine) (a b : CrewState) (job : Job) → MayWorkForClient m a → ClientGivesOn m a n b → ClientDue n (Some job) → ClientAfter n k
    → jobs_left k < jobs_left n
client-fewer m n k a b job may on due after =
    let h = client-may m n a b may on in
    fewer-left h.kind h.channel h.pages h.past job n k h.came (came-after h.kind h.channel h.pages h.past n k (Some job) due after h.came) (sym (due h.kind h.channel h.pages h.past h.came))

pub client-gives : (m n k : ClientMachine) (a b v : CrewState) (job : Job) → ClientGivesOn m a n b → ClientDue n (Some job) → ClientAfter n k → HasGiven side.Client job b v
    → ClientGivesOn m a k v
client-gives m n k a b v job on due after given = λ kind channel pages p w.
    let g = on kind channel pages p w in
    let past : List ClientEvent = client_gave g.works p.client in
    record {
      works = job.work ∷ g.works;
      stands = record {
        came = came-after kind channel pages past n k (Some job) due after g.stands.came;
        coupled = given (record p { client = past })
            (answered kind channel pages past n g.stands.came, next-number kind channel pages past job (sym (due kind channel pages past g.stands.came))) g.stands.coupled;
      };
    }

pub client-given : (m n k : ClientMachine) (a b : CrewState) → ClientGivesOn m a n b → ClientDue n None → ClientAfter n k
    → (kind : CopyKind) (channel : Channel) (pages : ℕ) (p : Pasts) → ClientWith kind channel pages p m a → ClientGiven kind channel pages p k b
client-given m n k a b on due after kind channel pages p w =
    let g = on kind channel pages p w in
    record {
      works = g.works;
      stands = record { came = came-after kind channel pages (client_gave g.works p.client) n k None due after g.stands.came; coupled = g.stands.coupled };
      none = sym (due kind channel pages (client_gave g.works p.client) g.stands.came);
    }

-- ---- the server's

pub record ServerGave (kind : CopyKind) (p : Pasts) (m : FileServer) (crew : CrewState) : Type 0 where
  pub works : List Work
  pub stands : ServerWith kind (record p { server = server_gave works p.server }) m crew

abbrev pub ServerGivesOn : FileServer → CrewState → FileServer → CrewState → Type 0
ServerGivesOn m a n b = (kind : CopyKind) (p : Pasts) → ServerWith kind p m a → ServerGave kind p n b

abbrev pub ServerDue : FileServer → Option Job → Type 0
ServerDue m o = (kind : CopyKind) (past : List ServerEvent) → serving.CameBy kind past m → o ≡ server.next_job kind past

abbrev pub ServerAfter : FileServer → FileServer → Type 0
ServerAfter m n = (kind : CopyKind) (past : List ServerEvent) → serving.CameBy kind past m → serving.CameBy kind (serving.after_giving (server.next_job kind past) past) n

pub server-may : (m n : FileServer) (a b : CrewState) → MayWorkForServer m a → ServerGivesOn m a n b → serving.HasCome n
server-may m n a b may on =
    let g = on may.kind may.past may.stands in
    record { kind = may.kind; past = server_gave g.works may.past.server; came = g.stands.came }

served-after : (kind : CopyKind) (past : List ServerEvent) (n k : FileServer) (o : Option Job) → ServerDue n o → ServerAfter n k → serving.CameBy kind past n
    → serving.CameBy kind (serving.after_giving o past) k
served-after kind past n k o due after came = subst (λ (x : Option Job). serving.CameBy kind (serving.after_giving x past) k) (sym (due kind past came)) (after kind past came)

pub server-fewer : (m n k : FileServer) (a b : CrewState) (job : Job) → MayWorkForServer m a → ServerGivesOn m a n b → ServerDue n (Some job) → ServerAfter n k
    → server_left k < server_left n
server-fewer m n k a b job may on due after =
    let h = server-may m n a b may on in
    fewer-served h.kind h.past job.work n k h.came (served-after h.kind h.past n k (Some job) due after h.came)

pub server-gives : (m n k : FileServer) (a b v : CrewState) (job : Job) → ServerGivesOn m a n b → ServerDue n (Some job) → ServerAfter n k → HasGiven side.Server job b v
    → ServerGivesOn m a k v
server-gives m n k a b v job on due after given = λ kind p w.
    let g = on kind p w in
    let past : List ServerEvent = server_gave g.works p.server in
    record {
      works = job.work ∷ g.works;
      stands = record {
        came = served-after kind past n k (Some job) due after g.stands.came;
        coupled = given (record p { server = past }) (
          (kind, g.stands.came.in_turn.lawful),
          number-in (server.jobs_given past) (slice_get (server.jobs_due kind past) (server.jobs_in_hand past)) job (sym (due kind past g.stands.came)),
        ) g.stands.coupled;
      };
    }

pub server-given : (m n k : FileServer) (a b : CrewState) → ServerGivesOn m a n b → ServerDue n None → ServerAfter n k
    → (kind : CopyKind) (p : Pasts) → ServerWith kind p m a → ServerGiven kind p k b
server-given m n k a b on due after kind p w =
    let g = on kind p w in
    record {
      works = g.works;
      stands = record { came = served-after kind (server_gave g.works p.server) n k None due after g.stands.came; coupled = g.stands.coupled };
      none = sym (due kind (server_gave g.works p.server) g.stands.came);
    }
