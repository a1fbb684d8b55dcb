-- The request that a server handles: its jobs, what came of them, and what is to be replied.
use Rattle.std.specs.Prelude.{◌≡◌, ℕ, ◌+◌, ◌-◌, ◌==◌, ◌≤◌, ◌&&◌, ◌||◌, not, Bool, true, false, Option, Some, None, option_map, option_to_list, List, [], ◌∷◌, length, map, if◌then◌else◌}
use Rattle.std.specs.Vec.{vec_capacity}
use Rattle.file_messages.specs.declared.layout.TheConstants.{GROUP_SIZE}
use Rattle.buffer_descriptor.specs.declared.descriptor.Descriptor.{Descriptor}
use Rattle.file_messages.specs.declared.kind.CopyKind.{CopyKind}
use Rattle.file_messages.specs.declared.message.Request.{Request}
use Rattle.file_messages.specs.declared.message.Reply.{Reply}
use Rattle.file_messages.specs.declared.job.Work.{Work}
use Rattle.file_messages.specs.declared.job.Work.TheVariants.{Fetch}
use Rattle.file_messages.specs.declared.job.WorkResult.{WorkResult}
use Rattle.file_messages.specs.Messages.{WRITE, READ, sum_of_lengths, reply_bytes, success, refusal}
use Rattle.file_pasts.specs.ServerDue.{ServerEvent, jobs_given, jobs_in_hand, jobs_due, result_in_front, result_at, status_in, fetched, read_reply, Fits}
use Rattle.file_server.specs.declared.server_turn.Filled.{Filled}
use Rattle.file_server.specs.declared.server_turn.Start.{Start}
use Rattle.file_server.specs.declared.server_reply.ReplyHeader.{ReplyHeader}
use Rattle.file_server.specs.declared.server_course.Course.{Course}

-- ---- what came of the jobs

-- what came of these jobs, the first of which has this number: none for each that is not completed
abbrev pub outcomes_of : ℕ → List Work → List ServerEvent → List (Option WorkResult)
outcomes_of number [] past = []
outcomes_of number (work ∷ later) past = result_at number past ∷ outcomes_of (number + 1) later past

-- what came of the jobs of the request that is handled
abbrev pub outcomes_so_far : CopyKind → List ServerEvent → List (Option WorkResult)
outcomes_so_far kind past = outcomes_of (jobs_given past - jobs_in_hand past) (jobs_due kind past) past

-- all of them: none as long as one is missing
abbrev pub all_of : List (Option WorkResult) → Option (List WorkResult)
all_of [] = Some []
all_of (o ∷ later) = result_in_front o (all_of later)

-- the status after this result, where it stood so before: that of the first refusal stays
abbrev pub status_then : ℕ → WorkResult → ℕ
status_then status r = if status == 0 then status_in r else status

-- the status to which they come
abbrev pub status_from : ℕ → List (Option WorkResult) → Option ℕ
status_from status [] = Some status
status_from status (None ∷ later) = None
status_from status (Some r ∷ later) = status_from (status_then status r) later

-- the bytes that a Fetch brought
abbrev pub fetched_in : Option WorkResult → List ℕ
fetched_in None = []
fetched_in (Some r) = fetched r

abbrev pub outcome_bytes : List (Option WorkResult) → ℕ
outcome_bytes [] = 0
outcome_bytes (o ∷ later) = length (fetched_in o) + outcome_bytes later

-- each of them is of its job's kind
abbrev pub FitsIfThere : Work → Option WorkResult → Type 0
FitsIfThere work None = Unit {0}
FitsIfThere work (Some r) = Fits work r

abbrev pub AreFitting : List Work → List (Option WorkResult) → Type 0
AreFitting [] [] = Unit {0}
AreFitting (work ∷ later) (o ∷ os) = FitsIfThere work o × AreFitting later os
AreFitting works os = ⊥

-- how many bytes a Fetch is to bring
abbrev pub bytes_fetched_by : Work → ℕ
bytes_fetched_by (Fetch d) = d.length
bytes_fetched_by work = 0

abbrev pub total_in : List Work → ℕ
total_in [] = 0
total_in (work ∷ later) = bytes_fetched_by work + total_in later

-- ---- the turn of a request

abbrev pub is_fetched : Request → Bool
is_fetched r = r.op == WRITE && not (r.channel == 0)

-- what every request has that bytes say
pub record IsWithinBounds (r : Request) : Type 0 where
  pub op : r.op ≤ 3
  pub short : r.length ≤ GROUP_SIZE
  pub few : length r.descriptors ≤ 16
  pub some : is_fetched r ≡ true → 1 ≤ length r.descriptors
  pub plain : (r.op == WRITE && r.channel == 0) ≡ true → r.descriptors ≡ []
  pub whole : is_fetched r ≡ true → sum_of_lengths r.descriptors ≡ r.length

abbrev pub AreAsked : List Request → Type 0
AreAsked [] = Unit {0}
AreAsked (r ∷ rs) = IsWithinBounds r × AreAsked rs

-- the jobs that are due as soon as it is handled, where each later request is answered with this status
abbrev pub first_jobs : ℕ → Request → List Work
first_jobs status r = if status == 0 then (if r.op == WRITE then map (λ (d : Descriptor). Fetch d) r.descriptors else []) else []

-- the group that is there as soon as it is handled
abbrev pub first_group : ℕ → Request → List (List ℕ)
first_group status r = if status == 0 then (if r.op == WRITE && r.channel == 0 then r.inline ∷ [] else []) else []

abbrev pub jobs_at_start : ℕ → Option Request → List Work
jobs_at_start status None = []
jobs_at_start status (Some r) = first_jobs status r

abbrev pub group_at_start : ℕ → Option Request → List (List ℕ)
group_at_start status None = []
group_at_start status (Some r) = first_group status r

-- how the turn of this request starts, after this status, with this number for its first job
pub record StartsAs (r : Option Request) (status first : ℕ) (s : Start) : Type 0 where
  pub first_is : s.turn.first ≡ first
  pub due : s.turn.due.items ≡ jobs_at_start status r
  pub outcomes : s.turn.outcomes.items ≡ map (λ (w : Work). None) (jobs_at_start status r)
  pub filled : s.turn.filled ≡ None
  pub empty : s.turn.room.items ≡ []
  pub room : total_in (jobs_at_start status r) ≤ vec_capacity s.turn.room
  pub group : option_to_list s.group ≡ group_at_start status r

-- what is kept of the bytes for a READ
abbrev pub filled_with : Request → List ℕ → Filled
filled_with r bytes = record { count = length bytes; reply = reply_bytes (read_reply r bytes) }

abbrev pub filled_for : Option Request → Option (List ℕ) → Option Filled
filled_for None source = None
filled_for (Some r) source = option_map (filled_with r) source

-- a request has not the next number, or comes after END
abbrev pub is_late : Course → Request → Bool
is_late c r = not (r.id == c.accepted + 1) || c.ended

-- a reply without its bytes
abbrev pub header_in : Reply → ReplyHeader
header_in r = record { op = r.op; status = r.status; id = r.id; count = r.count }

-- every job is completed, and none was refused
abbrev pub is_success : Option ℕ → Bool
is_success None = false
is_success (Some status) = status == 0

-- the count of the reply of success, once it is known
abbrev pub count_of : Request → Option Filled → Option ℕ
count_of r filled = if r.op == WRITE then Some r.length else if r.op == READ then option_map (λ (f : Filled). f.count) filled else Some 0

abbrev pub status_now : ℕ → List (Option WorkResult) → Option ℕ
status_now status os = if status == 0 then status_from 0 os else Some status

abbrev pub header_with : Request → Option Filled → Option ℕ → Option ReplyHeader
header_with r filled None = None
header_with r filled (Some status) =
    if status == 0 then option_map (λ (count : ℕ). header_in (success r count [])) (count_of r filled) else Some (header_in (refusal r status))

-- the header of the reply to a request, after this status of an earlier one, with these outcomes of its jobs
abbrev pub header_of : Request → ℕ → List (Option WorkResult) → Option Filled → Option ReplyHeader
header_of r status os filled = header_with r filled (status_now status os)
