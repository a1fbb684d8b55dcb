-- A client of a copy of either kind: what is due there, by its past (this project's own).
use Rattle.std.specs.Prelude.{ℕ, Bool, false, Option, None, List, ◌∷◌}
use Rattle.file_messages.specs.declared.kind.Channel.{Channel}
use Rattle.file_messages.specs.declared.kind.CopyKind.{CopyKind}
use Rattle.file_messages.specs.declared.kind.CopyKind.TheVariants as kinds
use Rattle.file_messages.specs.declared.message.Request.{Request}
use Rattle.file_messages.specs.declared.job.Job.{Job}
use Rattle.file_pasts.specs.ClientPast.{ClientEvent, End}
use Rattle.file_pasts.specs.PutDue as puts
use Rattle.file_pasts.specs.GetDue as gets
use Rattle.file_pasts.specs.PutLaws.{put_over}

-- ---- what is due

-- the request that is due and was not given
abbrev pub request_due : CopyKind → Channel → ℕ → List ClientEvent → Option Request
request_due kinds.Put channel pages past = puts.next_request (put_over channel pages) past
request_due kinds.Get channel pages past = gets.next_request channel past

-- the job that is due and was not given
abbrev pub job_due : CopyKind → Channel → ℕ → List ClientEvent → Option Job
job_due kinds.Put channel pages past = puts.next_job (put_over channel pages) past
job_due kinds.Get channel pages past = gets.next_job channel past

-- a group may be handed in
abbrev pub group_wanted : CopyKind → Channel → ℕ → List ClientEvent → Bool
group_wanted kinds.Put channel pages past = puts.wants_group (put_over channel pages) past
group_wanted kinds.Get channel pages past = false

-- the group that came and was not given
abbrev pub group_due : CopyKind → Channel → List ClientEvent → Option (List ℕ)
group_due kinds.Put channel past = None
group_due kinds.Get channel past = gets.next_group channel past

-- the reply to END was taken
abbrev pub is_over : CopyKind → List ClientEvent → Bool
is_over kinds.Put past = puts.is_finished past
is_over kinds.Get past = gets.is_finished past

-- no more groups come: a get is handed none
abbrev pub after_end : CopyKind → List ClientEvent → List ClientEvent
after_end kinds.Put past = End ∷ past
after_end kinds.Get past = past

-- a lawful past of such a client
abbrev pub IsClient : CopyKind → Channel → ℕ → List ClientEvent → Type 0
IsClient kinds.Put channel pages past = puts.IsPut (put_over channel pages) past
IsClient kinds.Get channel pages past = gets.IsGet channel past
