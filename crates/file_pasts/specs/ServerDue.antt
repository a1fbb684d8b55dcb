-- What happened at the server's machine, and what is due there. A past is a list of the calls that it had and of what it
-- gave, the newest first.
use Rattle.std.specs.Prelude.{◌≡◌, ℕ, ◌+◌, ◌-◌, ◌==◌, ◌<◌, ◌≤◌, not, ◌&&◌, ◌||◌, Bool, false, is_none, Option, Some, None, option_map, Result, Ok, Err, List, [], ◌∷◌, ◌++◌, length, take, drop, map, slice_get, if◌then◌else◌}
use Rattle.std.specs.List.{flat_map}
use Rattle.buffer_descriptor.specs.declared.descriptor.Descriptor.{Descriptor}
use Rattle.file_messages.specs.declared.kind.CopyKind.{CopyKind}
use Rattle.file_messages.specs.declared.kind.CopyKind.TheVariants as kinds
use Rattle.file_messages.specs.declared.fault.FileFault.{FileFault}
use Rattle.file_messages.specs.declared.fault.FileFault.TheVariants.{Order}
use Rattle.file_messages.specs.declared.message.Request.{Request}
use Rattle.file_messages.specs.declared.message.Reply.{Reply}
use Rattle.file_messages.specs.declared.job.Work.{Work}
use Rattle.file_messages.specs.declared.job.Work.TheVariants.{Fetch, Place}
use Rattle.file_messages.specs.declared.job.WorkResult.{WorkResult}
use Rattle.file_messages.specs.declared.job.WorkResult.TheVariants.{Loaded, Fetched, Placed, Unloaded, Refused}
use Rattle.file_messages.specs.declared.job.Job.{Job}
use Rattle.file_messages.specs.declared.job.Completion.{Completion}
use Rattle.file_messages.specs.Messages.{WRITE, READ, END, request_of, success, refusal}
use Rattle.file_pasts.specs.PutDue.{numbered}

pub data ServerEvent : Type 0 where
  -- this message was handed in as a request
  Asked : (message : List ℕ) → ServerEvent
  -- these bytes were handed in for a READ
  Filled : (bytes : List ℕ) → ServerEvent
  -- this job was given, and this completion handed in
  Gave : (work : Work) → ServerEvent
  Completed : (completion : Completion) → ServerEvent
  -- this reply was given
  Replied : (reply : Reply) → ServerEvent
  -- this group was given
  Stored : (bytes : List ℕ) → ServerEvent

-- ---- what was given and handed in

-- the replies, the oldest first
abbrev pub replies : List ServerEvent → List Reply
replies [] = []
replies (Asked m ∷ past) = replies past
replies (Filled bytes ∷ past) = replies past
replies (Gave work ∷ past) = replies past
replies (Completed c ∷ past) = replies past
replies (Replied r ∷ past) = replies past ++ r ∷ []
replies (Stored bytes ∷ past) = replies past

-- how many jobs were given, and how many of them since the last reply
abbrev pub jobs_given : List ServerEvent → ℕ
jobs_given [] = 0
jobs_given (Asked m ∷ past) = jobs_given past
jobs_given (Filled bytes ∷ past) = jobs_given past
jobs_given (Gave work ∷ past) = jobs_given past + 1
jobs_given (Completed c ∷ past) = jobs_given past
jobs_given (Replied r ∷ past) = jobs_given past
jobs_given (Stored bytes ∷ past) = jobs_given past

abbrev pub jobs_in_hand : List ServerEvent → ℕ
jobs_in_hand [] = 0
jobs_in_hand (Asked m ∷ past) = jobs_in_hand past
jobs_in_hand (Filled bytes ∷ past) = jobs_in_hand past
jobs_in_hand (Gave work ∷ past) = jobs_in_hand past + 1
jobs_in_hand (Completed c ∷ past) = jobs_in_hand past
jobs_in_hand (Replied r ∷ past) = 0
jobs_in_hand (Stored bytes ∷ past) = jobs_in_hand past

-- what came of the job with this number
abbrev pub result_at : ℕ → List ServerEvent → Option WorkResult
result_at number [] = None
result_at number (Asked m ∷ past) = result_at number past
result_at number (Filled bytes ∷ past) = result_at number past
result_at number (Gave work ∷ past) = result_at number past
result_at number (Completed c ∷ past) = if c.number == number then Some c.result else result_at number past
result_at number (Replied r ∷ past) = result_at number past
result_at number (Stored bytes ∷ past) = result_at number past

-- the bytes that were handed in since the last reply
abbrev pub source_in_hand : List ServerEvent → Option (List ℕ)
source_in_hand [] = None
source_in_hand (Asked m ∷ past) = source_in_hand past
source_in_hand (Filled bytes ∷ past) = Some bytes
source_in_hand (Gave work ∷ past) = source_in_hand past
source_in_hand (Completed c ∷ past) = source_in_hand past
source_in_hand (Replied r ∷ past) = None
source_in_hand (Stored bytes ∷ past) = source_in_hand past

abbrev pub groups_stored : List ServerEvent → ℕ
groups_stored [] = 0
groups_stored (Asked m ∷ past) = groups_stored past
groups_stored (Filled bytes ∷ past) = groups_stored past
groups_stored (Gave work ∷ past) = groups_stored past
groups_stored (Completed c ∷ past) = groups_stored past
groups_stored (Replied r ∷ past) = groups_stored past
groups_stored (Stored bytes ∷ past) = groups_stored past + 1

-- ---- requests

-- the requests that were accepted, the oldest first, and the fault of one that was refused
pub record Requests : Type 0 where
  pub accepted : List Request
  pub fault : Option FileFault

abbrev pub has_ended : List Request → Bool
has_ended [] = false
has_ended (r ∷ rs) = r.op == END || has_ended rs

abbrev pub written : List Request → ℕ
written [] = 0
written (r ∷ rs) = (if r.op == WRITE then r.length else 0) + written rs

abbrev pub counted : List Reply → ℕ
counted [] = 0
counted (r ∷ rs) = r.count + counted rs

-- a request that does not come in its turn, after these were accepted and these replies given
abbrev pub is_out_of_order : CopyKind → List Request → List Reply → Request → Bool
is_out_of_order kinds.Put accepted given r =
    not (r.id == length accepted + 1) || has_ended accepted || r.op == READ || not (r.offset == written accepted)
is_out_of_order kinds.Get accepted given r =
    not (r.id == length accepted + 1) || has_ended accepted || r.op == WRITE || not (r.offset == counted given)
    || not (length given == length accepted)

abbrev pub judged : CopyKind → List Request → List Reply → Result Request FileFault → Result Request FileFault
judged kind accepted given (Err fault) = Err fault
judged kind accepted given (Ok r) = if is_out_of_order kind accepted given r then Err Order else Ok r

-- a fault lasts: each later request gets it too
abbrev pub judged_after : Option FileFault → Result Request FileFault → Result Request FileFault
judged_after (Some fault) found = Err fault
judged_after None found = found

-- what a message comes to as the next request
abbrev pub judgement : CopyKind → Requests → List Reply → List ℕ → Result Request FileFault
judgement kind q given message = judged_after q.fault (judged kind q.accepted given (request_of message))

abbrev pub with_judged : Result Request FileFault → Requests → Requests
with_judged (Ok r) q = record { accepted = q.accepted ++ r ∷ []; fault = q.fault }
with_judged (Err fault) q = record { accepted = q.accepted; fault = Some fault }

abbrev pub requests : CopyKind → List ServerEvent → Requests
requests kind [] = record { accepted = []; fault = None }
requests kind (Asked m ∷ past) = with_judged (judgement kind (requests kind past) (replies past) m) (requests kind past)
requests kind (Filled bytes ∷ past) = requests kind past
requests kind (Gave work ∷ past) = requests kind past
requests kind (Completed c ∷ past) = requests kind past
requests kind (Replied r ∷ past) = requests kind past
requests kind (Stored bytes ∷ past) = requests kind past

-- the request that is handled: the oldest accepted one without a reply
abbrev pub handled : CopyKind → List ServerEvent → Option Request
handled kind past = slice_get (requests kind past).accepted (length (replies past))

-- the status with which a request was refused, or 0
abbrev pub first_status : List Reply → ℕ
first_status [] = 0
first_status (r ∷ rs) = if r.status == 0 then first_status rs else r.status

abbrev pub standing_status : List ServerEvent → ℕ
standing_status past = first_status (replies past)

-- ---- the jobs of a request

-- the Places of these bytes: each descriptor is filled before the next
abbrev pub places_of : List Descriptor → List ℕ → List Work
places_of [] bytes = []
places_of (d ∷ later) [] = []
places_of (d ∷ later) (b ∷ bytes) =
    Place (record d { length = length (take d.length (b ∷ bytes)) }) (take d.length (b ∷ bytes)) ∷ places_of later (drop d.length (b ∷ bytes))

abbrev pub places_in_hand : Request → Option (List ℕ) → List Work
places_in_hand r None = []
places_in_hand r (Some bytes) = places_of r.descriptors bytes

-- the jobs of the request that is handled: the Fetches of a WRITE, and the Places of a READ once its bytes are there
abbrev pub jobs_of : Request → List ServerEvent → List Work
jobs_of r past =
    if r.op == WRITE then map (λ (d : Descriptor). Fetch d) r.descriptors
    else if r.op == READ then places_in_hand r (source_in_hand past)
    else []

abbrev pub jobs_if_handled : CopyKind → Option Request → List ServerEvent → List Work
jobs_if_handled kind None past = []
jobs_if_handled kind (Some r) past = if standing_status past == 0 then jobs_of r past else []

abbrev pub jobs_due : CopyKind → List ServerEvent → List Work
jobs_due kind past = jobs_if_handled kind (handled kind past) past

abbrev pub next_job : CopyKind → List ServerEvent → Option Job
next_job kind past = numbered (jobs_given past) (slice_get (jobs_due kind past) (jobs_in_hand past))

-- ---- their results: none as long as one of them is not completed

abbrev pub result_in_front : Option WorkResult → Option (List WorkResult) → Option (List WorkResult)
result_in_front None later = None
result_in_front (Some r) None = None
result_in_front (Some r) (Some later) = Some (r ∷ later)

abbrev pub results_from : ℕ → List Work → List ServerEvent → Option (List WorkResult)
results_from number [] past = Some []
results_from number (work ∷ later) past = result_in_front (result_at number past) (results_from (number + 1) later past)

abbrev pub results : CopyKind → List ServerEvent → Option (List WorkResult)
results kind past = results_from (jobs_given past - jobs_in_hand past) (jobs_due kind past) past

abbrev pub status_in : WorkResult → ℕ
status_in (Loaded d) = 0
status_in (Fetched bytes) = 0
status_in Placed = 0
status_in (Unloaded bytes) = 0
status_in (Refused status) = status

-- the first of the refused jobs gives the status
abbrev pub status_of : List WorkResult → ℕ
status_of [] = 0
status_of (r ∷ later) = if status_in r == 0 then status_of later else status_in r

abbrev pub fetched : WorkResult → List ℕ
fetched (Loaded d) = []
fetched (Fetched bytes) = bytes
fetched Placed = []
fetched (Unloaded bytes) = []
fetched (Refused status) = []

-- ---- replies

abbrev pub read_reply : Request → List ℕ → Reply
read_reply r bytes = success r (length bytes) (if r.channel == 0 then bytes else [])

abbrev pub reply_by_works : Request → Option (List ℕ) → List WorkResult → Option Reply
reply_by_works r source works =
    if not (status_of works == 0) then Some (refusal r (status_of works))
    else if r.op == WRITE then Some (success r r.length [])
    else if r.op == READ then option_map (read_reply r) source
    else Some (success r 0 [])

abbrev pub answer_with : Request → Option (List ℕ) → Option (List WorkResult) → Option Reply
answer_with r source None = None
answer_with r source (Some works) = reply_by_works r source works

abbrev pub reply_if_handled : CopyKind → Option Request → List ServerEvent → Option Reply
reply_if_handled kind None past = None
reply_if_handled kind (Some r) past =
    if standing_status past == 0 then answer_with r (source_in_hand past) (results kind past)
    else Some (refusal r (standing_status past))

-- the reply that is due and was not given
abbrev pub next_reply : CopyKind → List ServerEvent → Option Reply
next_reply kind past = reply_if_handled kind (handled kind past) past

-- ---- bytes

-- the bytes that are wanted for the READ that is handled
abbrev pub source_for : Option Request → List ServerEvent → Option ℕ
source_for None past = None
source_for (Some r) past =
    if r.op == READ && standing_status past == 0 && is_none (source_in_hand past) then Some r.length else None

abbrev pub wants_source : CopyKind → List ServerEvent → Option ℕ
wants_source kind past = source_for (handled kind past) past

-- what a WRITE brought, if none of its Fetches was refused
abbrev pub group_of : Request → Option (List WorkResult) → List (List ℕ)
group_of r None = []
group_of r (Some works) =
    if r.op == WRITE && status_of works == 0
    then (if r.channel == 0 then r.inline else flat_map fetched works) ∷ []
    else []

abbrev pub group_if_handled : CopyKind → Option Request → List ServerEvent → List (List ℕ)
group_if_handled kind None past = []
group_if_handled kind (Some r) past = if standing_status past == 0 then group_of r (results kind past) else []

-- the group of the request that is handled, once it is there
abbrev pub group_in_hand : CopyKind → List ServerEvent → List (List ℕ)
group_in_hand kind past = group_if_handled kind (handled kind past) past

-- the groups of the requests that were replied to
abbrev pub groups_replied : CopyKind → List ServerEvent → List (List ℕ)
groups_replied kind [] = []
groups_replied kind (Asked m ∷ past) = groups_replied kind past
groups_replied kind (Filled bytes ∷ past) = groups_replied kind past
groups_replied kind (Gave work ∷ past) = groups_replied kind past
groups_replied kind (Completed c ∷ past) = groups_replied kind past
groups_replied kind (Replied r ∷ past) = groups_replied kind past ++ group_in_hand kind past
groups_replied kind (Stored bytes ∷ past) = groups_replied kind past

-- the group that is there and was not given
abbrev pub next_group : CopyKind → List ServerEvent → Option (List ℕ)
next_group kind past = slice_get (groups_replied kind past ++ group_in_hand kind past) (groups_stored past)

-- ---- a lawful past

-- a result of the job's kind, or a refusal
abbrev pub Fits : Work → WorkResult → Type 0
Fits work (Refused status) = (1 ≤ status) × (status ≤ 6)
Fits (Fetch d) (Fetched bytes) = length bytes ≡ d.length
Fits (Place d bytes) Placed = Unit {0}
Fits work result = ⊥

-- the job of this number, which was given since the last reply and not completed
pub record AnswersJob (kind : CopyKind) (past : List ServerEvent) (c : Completion) : Type 0 where
  pub place : ℕ
  pub number : c.number ≡ jobs_given past - jobs_in_hand past + place
  pub given : place < jobs_in_hand past
  pub uncompleted : result_at c.number past ≡ None
  pub work : Work
  pub work_is : slice_get (jobs_due kind past) place ≡ Some work
  pub fits : Fits work c.result

abbrev pub Follows : CopyKind → ServerEvent → List ServerEvent → Type 0
Follows kind (Asked m) past = Unit {0}
Follows kind (Filled bytes) past = (most : ℕ) × (wants_source kind past ≡ Some most) × (length bytes ≤ most)
Follows kind (Gave work) past = next_job kind past ≡ Some (record { number = jobs_given past; work = work })
Follows kind (Completed c) past = AnswersJob kind past c
Follows kind (Replied r) past = next_reply kind past ≡ Some r
Follows kind (Stored bytes) past = next_group kind past ≡ Some bytes

abbrev pub IsServer : CopyKind → List ServerEvent → Type 0
IsServer kind [] = Unit {0}
IsServer kind (e ∷ past) = Follows kind e past × IsServer kind past
