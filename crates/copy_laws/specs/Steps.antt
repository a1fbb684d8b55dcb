-- What each thing that happens in a copy leaves of how its machines, workers and pages go together (this project's own).
use Rattle.std.specs.Prelude.{◌≡◌, ℕ, zero, suc, ◌+◌, ◌%◌, ◌≤◌, Some, List, [], ◌∷◌, ◌++◌, length, replicate, slice_get, slice_set}
use Rattle.smbd_base.specs.Pages.{PageState, opened_page}
use Rattle.file_messages.specs.declared.kind.Channel.{Channel}
use Rattle.file_messages.specs.declared.kind.CopyKind.{CopyKind}
use Rattle.file_messages.specs.declared.job.Work.{Work}
use Rattle.file_messages.specs.declared.job.Job.{Job}
use Rattle.file_messages.specs.declared.job.Completion.{Completion}
use Rattle.file_pasts.specs.ClientPast.{ClientEvent, Group, End, Sent, Replied, Gave, Completed, Received, jobs_given, AnswersJob}
use Rattle.file_pasts.specs.PutDue.{Setup, IsPut}
use Rattle.file_pasts.specs.GetDue.{IsGet}
use Rattle.file_pasts.specs.ServerDue as server
use Rattle.file_pasts.specs.ServerDue.{ServerEvent, IsServer}
use Rattle.file_pasts.specs.ServerLaws.{NothingRefused}
use Rattle.registration.specs.Regions.{RegionState}
use Rattle.page_workers.specs.Turns.{page_of_work}
use Rattle.page_workers.specs.Workers.{WorkerState, opened, WentOn}
use Rattle.page_workers.specs.Laws.{with_events}
use Rattle.copy_laws.specs.ClientDone.{JobsAnswered}
use Rattle.copy_laws.specs.Coupled.{Pasts, AreCoupled}

-- ---- a copy begins

abbrev pub opened_pasts : Pasts
opened_pasts = record { client = []; server = []; pool = [] }

-- so many workers of an end to which nothing was given; their passes have the numbers from the first one on
abbrev pub workers_opened : ℕ → ℕ → List WorkerState
workers_opened first zero = []
workers_opened first (suc count) = workers_opened first count ++ opened (count + 1) (first + count) ∷ []

-- both ends have so many workers, and no page was ever loaded
abbrev pub Opens : Type 0
Opens = (workers count : ℕ) → AreCoupled workers count opened_pasts (replicate count (opened_page 1)) (workers_opened 0 workers) (workers_opened workers workers)

-- ---- one more event of a machine

abbrev pub client_after : ClientEvent → Pasts → Pasts
client_after e p = record p { client = e ∷ p.client }

abbrev pub server_after : ServerEvent → Pasts → Pasts
server_after e p = record p { server = e ∷ p.server }

-- no job is given, and none is completed
abbrev pub IsClientTalk : ClientEvent → Type 0
IsClientTalk (Group bytes) = Unit {0}
IsClientTalk End = Unit {0}
IsClientTalk (Sent r) = Unit {0}
IsClientTalk (Replied m) = Unit {0}
IsClientTalk (Gave work) = ⊥
IsClientTalk (Completed c) = ⊥
IsClientTalk (Received bytes) = Unit {0}

abbrev pub IsServerTalk : ServerEvent → Type 0
IsServerTalk (server.Asked m) = Unit {0}
IsServerTalk (server.Filled bytes) = Unit {0}
IsServerTalk (server.Gave work) = ⊥
IsServerTalk (server.Completed c) = ⊥
IsServerTalk (server.Replied r) = Unit {0}
IsServerTalk (server.Stored bytes) = Unit {0}

-- so it concerns no worker
abbrev pub ClientTalks : Type 0
ClientTalks = (workers count : ℕ) (p : Pasts) (pages : List PageState) (cs ss : List WorkerState) (e : ClientEvent) → IsClientTalk e
    → AreCoupled workers count p pages cs ss → AreCoupled workers count (client_after e p) pages cs ss

abbrev pub ServerTalks : Type 0
ServerTalks = (workers count : ℕ) (p : Pasts) (pages : List PageState) (cs ss : List WorkerState) (e : ServerEvent) → IsServerTalk e
    → AreCoupled workers count p pages cs ss → AreCoupled workers count (server_after e p) pages cs ss

-- ---- jobs

abbrev pub PutsAnswer : Type 0
PutsAnswer = (s : Setup) (past : List ClientEvent) → IsPut s past → JobsAnswered past

abbrev pub GetsAnswer : Type 0
GetsAnswer = (channel : Channel) (past : List ClientEvent) → IsGet channel past → JobsAnswered past

-- the worker has one more job, which waits behind the others
abbrev pub with_job : Job → WorkerState → WorkerState
with_job j w = record w { waiting = w.waiting ++ j ∷ [] }

-- a job goes to the worker of its page
abbrev pub ClientGives : Type 0
ClientGives = (workers count : ℕ) (p : Pasts) (pages : List PageState) (cs ss : List WorkerState) (work : Work) (w : WorkerState)
    → AreCoupled workers count p pages cs ss → JobsAnswered p.client → slice_get cs (page_of_work work % workers) ≡ Some w
    → AreCoupled workers count (client_after (Gave work) p) pages
    (slice_set cs (page_of_work work % workers) (with_job (record { number = length (jobs_given p.client); work = work }) w)) ss

abbrev pub ServerGives : Type 0
ServerGives = (kind : CopyKind) (workers count : ℕ) (p : Pasts) (pages : List PageState) (cs ss : List WorkerState) (work : Work) (w : WorkerState)
    → AreCoupled workers count p pages cs ss → IsServer kind p.server → slice_get ss (page_of_work work % workers) ≡ Some w
    → AreCoupled workers count (server_after (server.Gave work) p) pages cs
    (slice_set ss (page_of_work work % workers) (with_job (record { number = server.jobs_given p.server; work = work }) w))

-- ---- completions

-- the worker has these completions left
abbrev pub with_done : List Completion → WorkerState → WorkerState
with_done done w = record w { done = done }

-- the oldest completion of a worker answers a job of its machine, to which it is handed
abbrev pub ClientTakes : Type 0
ClientTakes = (workers count : ℕ) (p : Pasts) (pages : List PageState) (cs ss : List WorkerState) (place : ℕ) (w : WorkerState) (c : Completion) (rest : List Completion)
    → AreCoupled workers count p pages cs ss → slice_get cs place ≡ Some w → w.done ≡ c ∷ rest
    → AnswersJob p.client c × AreCoupled workers count (client_after (Completed c) p) pages (slice_set cs place (with_done rest w)) ss

abbrev pub ServerTakes : Type 0
ServerTakes = (kind : CopyKind) (workers count : ℕ) (p : Pasts) (pages : List PageState) (cs ss : List WorkerState) (place : ℕ) (w : WorkerState) (c : Completion) (rest : List Completion)
    → AreCoupled workers count p pages cs ss → IsServer kind p.server → slice_get ss place ≡ Some w → w.done ≡ c ∷ rest
    → server.AnswersJob kind p.server c × AreCoupled workers count (server_after (server.Completed c) p) pages cs (slice_set ss place (with_done rest w))

-- a worker refuses nothing
abbrev pub NoneRefused : Type 0
NoneRefused = (kind : CopyKind) (workers count : ℕ) (p : Pasts) (pages : List PageState) (cs ss : List WorkerState) → 1 ≤ workers
    → AreCoupled workers count p pages cs ss → IsServer kind p.server → NothingRefused p.server

-- ---- workers go on

-- the events that a worker makes are the next ones of the pages
abbrev pub ClientWorks : Type 0
ClientWorks = (workers count : ℕ) (p : Pasts) (pages : List PageState) (cs ss : List WorkerState) (place : ℕ) (w v : WorkerState) (r s : RegionState)
    → AreCoupled workers count p pages cs ss → slice_get cs place ≡ Some w → (went : WentOn w v r s) → r.pages ≡ pages
    → AreCoupled workers count (record p { pool = with_events w.pass went.made p.pool }) s.pages (slice_set cs place v) ss

abbrev pub ServerWorks : Type 0
ServerWorks = (workers count : ℕ) (p : Pasts) (pages : List PageState) (cs ss : List WorkerState) (place : ℕ) (w v : WorkerState) (r s : RegionState)
    → AreCoupled workers count p pages cs ss → slice_get ss place ≡ Some w → (went : WentOn w v r s) → r.pages ≡ pages
    → AreCoupled workers count (record p { pool = with_events w.pass went.made p.pool }) s.pages cs (slice_set ss place v)
