-- The jobs that a machine has and has not given: each one that is given leaves fewer.
use Rattle.std.proofs.Common.{◌≡◌, ℕ, ◌+◌, ◌-◌, ◌<◌, ◌≤◌, Bool, true, false, cond, Option, Some, None, List, [], ◌∷◌, ◌++◌, length, refl, ap, ◌∙◌, arith}
use Rattle.std.proofs.lemmas.List.{length-drop, length_push}
use Rattle.file_messages.specs.declared.kind.Channel.{Channel}
use Rattle.file_messages.specs.declared.kind.Channel.TheVariants as channels
use Rattle.file_messages.specs.declared.kind.CopyKind.{CopyKind}
use Rattle.file_messages.specs.declared.kind.CopyKind.TheVariants as kinds
use Rattle.file_messages.specs.declared.message.Request.{Request}
use Rattle.file_messages.specs.declared.job.Work.{Work}
use Rattle.file_messages.specs.declared.job.Job.{Job}
use Rattle.file_pasts.specs.ClientPast.{ClientEvent, Gave, jobs_given, has_failed}
use Rattle.file_pasts.specs.PutDue as puts
use Rattle.file_pasts.specs.PutDue.{Setup}
use Rattle.file_pasts.specs.PutLaws.{put_over}
use Rattle.file_pasts.specs.GetDue as gets
use Rattle.file_pasts.specs.ServerDue as server
use Rattle.file_pasts.specs.ServerDue.{ServerEvent, jobs_in_hand, jobs_if_handled, handled}
use Rattle.file_transfer.specs.declared.client_jobs.Jobs.{Jobs}
use Rattle.file_transfer.specs.declared.put_client.Groups.{Groups}
use Rattle.file_transfer.specs.declared.put_client.Groups.TheVariants.{Inline, Registered}
use Rattle.file_transfer.specs.declared.get_registered.GetRounds.{GetRounds}
use Rattle.file_transfer.specs.ClientJobs.{JobsStand}
use Rattle.file_transfer.specs.PutClientStands.{GroupsCame}
use Rattle.file_transfer.specs.GetClientStands.{RoundsIfAny}
use Rattle.file_transfer.proofs.PutClientLemmas.{no_job}
use Rattle.file_server.specs.declared.server.FileServer.{FileServer}
use Rattle.file_server.specs.ServerStands as serving
use Rattle.copy_ends.specs.declared.client_machine.ClientMachine.{ClientMachine}
use Rattle.copy_ends.specs.declared.client_machine.ClientMachine.TheVariants.{Put, Get}
use Rattle.copy_ends.specs.Clients.{ClientCameBy}
use Rattle.copy_laws.specs.Kinds.{job_due}

none_some : {A : Type 0} (o : Option A) (x : A) → o ≡ None → o ≡ Some x → ⊥
none_some o x e f = cc

-- ---- the client's machine

abbrev pub groups_left : Groups → ℕ
groups_left (Inline groups) = 0
groups_left (Registered groups) = length groups.jobs.due.items

abbrev pub rounds_left : Option GetRounds → ℕ
rounds_left None = 0
rounds_left (Some rounds) = length rounds.jobs.due.items

abbrev pub jobs_left : ClientMachine → ℕ
jobs_left (Put m) = groups_left m.groups
jobs_left (Get m) = rounds_left m.rounds

fewer-due : (came_due : List Work) (past : List ClientEvent) (work : Work) (q r : Jobs) → JobsStand came_due past q → JobsStand came_due (Gave work ∷ past) r
    → length r.due.items < length q.due.items
fewer-due came_due past work q r was now =
    let before : length q.due.items ≡ length came_due - length (jobs_given past) =
    ap (λ (works : List Work). length works) was.due ∙ length-drop (length (jobs_given past)) came_due in
    let after : length r.due.items ≡ length came_due - length (jobs_given past ++ work ∷ []) =
    ap (λ (works : List Work). length works) now.due ∙ length-drop (length (jobs_given past ++ work ∷ [])) came_due in
    let one : length (jobs_given past ++ work ∷ []) ≡ length (jobs_given past) + 1 = length_push (jobs_given past) work in
    let within : length (jobs_given past ++ work ∷ []) ≤ length came_due = now.in_turn in
    omega arith

fewer-groups : (s : Setup) (past : List ClientEvent) (job : Job) (g h : Groups) → GroupsCame s past g → GroupsCame s (Gave job.work ∷ past) h → puts.next_job s past ≡ Some job
    → groups_left h < groups_left g
fewer-groups s past job (Inline g) h was now due = absurd (none_some (puts.next_job s past) job (no_job s past was.setup) due)
fewer-groups s past job (Registered g) (Inline h) was now due = absurd (none_some (puts.next_job s past) job (no_job s past now.setup) due)
fewer-groups s past job (Registered g) (Registered h) was now due =
    fewer-due (puts.jobs_due s.windows past) past job.work g.jobs h.jobs was.stands.due now.stands.due

no_rounds : (channel : Channel) (past : List ClientEvent) → channel ≡ channels.None → gets.next_job channel past ≡ None
no_rounds channel past e = ap (λ (k : Channel). gets.next_job k past) e ∙ by_test (has_failed past) where
  by_test : (t : Bool) → cond {A = Option Job} t None None ≡ None
  by_test true = refl
  by_test false = refl

fewer-rounds : (channel : Channel) (past : List ClientEvent) (job : Job) (g h : Option GetRounds) → RoundsIfAny channel past g → RoundsIfAny channel (Gave job.work ∷ past) h
    → gets.next_job channel past ≡ Some job → rounds_left h < rounds_left g
fewer-rounds channel past job None h was now due = absurd (none_some (gets.next_job channel past) job (no_rounds channel past was) due)
fewer-rounds channel past job (Some g) None was now due = absurd (none_some (gets.next_job channel past) job (no_rounds channel past now) due)
fewer-rounds channel past job (Some g) (Some h) was now due =
    fewer-due (gets.jobs_due past) past job.work g.jobs h.jobs was.stands.jobs now.stands.jobs

pub fewer-left : (kind : CopyKind) (channel : Channel) (pages : ℕ) (past : List ClientEvent) (job : Job) (m n : ClientMachine)
    → ClientCameBy kind channel pages past m → ClientCameBy kind channel pages (Gave job.work ∷ past) n → job_due kind channel pages past ≡ Some job
    → jobs_left n < jobs_left m
fewer-left kinds.Put channel pages past job (Put m) (Put n) was now due = fewer-groups (put_over channel pages) past job m.groups n.groups was.groups now.groups due
fewer-left kinds.Put channel pages past job (Put m) (Get n) was now due = absurd now
fewer-left kinds.Put channel pages past job (Get m) n was now due = absurd was
fewer-left kinds.Get channel pages past job (Put m) n was now due = absurd was
fewer-left kinds.Get channel pages past job (Get m) (Put n) was now due = absurd now
fewer-left kinds.Get channel pages past job (Get m) (Get n) was now due = fewer-rounds channel past job m.rounds n.rounds was.rounds now.rounds due

-- ---- the server's

abbrev pub server_left : FileServer → ℕ
server_left m = length m.turn.due.items

due-gave : (kind : CopyKind) (work : Work) (past : List ServerEvent) → server.jobs_due kind (server.Gave work ∷ past) ≡ server.jobs_due kind past
due-gave kind work past = by_handled (handled kind past) where
  by_handled : (o : Option Request) → jobs_if_handled kind o (server.Gave work ∷ past) ≡ jobs_if_handled kind o past
  by_handled None = refl
  by_handled (Some r) = refl

pub fewer-served : (kind : CopyKind) (past : List ServerEvent) (work : Work) (m n : FileServer) → serving.CameBy kind past m → serving.CameBy kind (server.Gave work ∷ past) n
    → server_left n < server_left m
fewer-served kind past work m n was now =
    let before : length m.turn.due.items ≡ length (server.jobs_due kind past) - jobs_in_hand past =
    ap (λ (works : List Work). length works) was.turn.due ∙ length-drop (jobs_in_hand past) (server.jobs_due kind past) in
    let after : length n.turn.due.items ≡ length (server.jobs_due kind (server.Gave work ∷ past)) - (jobs_in_hand past + 1) =
    ap (λ (works : List Work). length works) now.turn.due ∙ length-drop (jobs_in_hand past + 1) (server.jobs_due kind (server.Gave work ∷ past)) in
    let as_many : length (server.jobs_due kind (server.Gave work ∷ past)) ≡ length (server.jobs_due kind past) = ap (λ (works : List Work). length works) (due-gave kind work past) in
    let within : jobs_in_hand past + 1 ≤ length (server.jobs_due kind (server.Gave work ∷ past)) = now.in_turn.in_hand in
    omega arith
