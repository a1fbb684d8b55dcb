-- What happened at a client's machine: the calls that it had and what it answered. A past is a list of these, the newest
-- first.
use Rattle.std.specs.Prelude.{◌≡◌, ℕ, ◌+◌, ◌*◌, ◌/◌, ◌%◌, ◌==◌, ◌≤◌, Bool, true, false, is_some, Option, Some, None, Result, Ok, Err, List, [], ◌∷◌, ◌++◌, length, drop, if◌then◌else◌}
use Rattle.smbd_base.specs.declared.token.TheConstants.{PAGE_SIZE}
use Rattle.smbd_base.specs.Tokens.{PageToken}
use Rattle.buffer_descriptor.specs.declared.descriptor.Descriptor.{Descriptor}
use Rattle.file_messages.specs.declared.fault.FileFault.{FileFault}
use Rattle.file_messages.specs.declared.fault.FileFault.TheVariants.{Order}
use Rattle.file_messages.specs.declared.fault.ReplyFault.{ReplyFault}
use Rattle.file_messages.specs.declared.fault.ReplyFault.TheVariants.{File, Status}
use Rattle.file_messages.specs.declared.message.Request.{Request}
use Rattle.file_messages.specs.declared.message.Reply.{Reply}
use Rattle.file_messages.specs.declared.job.Work.{Work}
use Rattle.file_messages.specs.declared.job.Work.TheVariants.{Load, Fetch, Place, Unload}
use Rattle.file_messages.specs.declared.job.WorkResult.{WorkResult}
use Rattle.file_messages.specs.declared.job.WorkResult.TheVariants.{Loaded, Fetched, Placed, Unloaded, Refused}
use Rattle.file_messages.specs.declared.job.Job.{Job}
use Rattle.file_messages.specs.declared.job.Completion.{Completion}
use Rattle.file_messages.specs.Messages.{asked_by, reply_of}

pub data ClientEvent : Type 0 where
  -- a group of bytes was handed in, or their end
  Group : (bytes : List ℕ) → ClientEvent
  End : ClientEvent
  -- this request was given
  Sent : (request : Request) → ClientEvent
  -- this message was handed in as a reply
  Replied : (message : List ℕ) → ClientEvent
  -- this job was given, and this completion handed in
  Gave : (work : Work) → ClientEvent
  Completed : (completion : Completion) → ClientEvent
  -- a group that came was given
  Received : (bytes : List ℕ) → ClientEvent

-- ---- what was handed in and given, the oldest first

-- the groups
abbrev pub groups_in : List ClientEvent → List (List ℕ)
groups_in [] = []
groups_in (Group bytes ∷ past) = groups_in past ++ bytes ∷ []
groups_in (End ∷ past) = groups_in past
groups_in (Sent r ∷ past) = groups_in past
groups_in (Replied m ∷ past) = groups_in past
groups_in (Gave work ∷ past) = groups_in past
groups_in (Completed c ∷ past) = groups_in past
groups_in (Received bytes ∷ past) = groups_in past

-- their end
abbrev pub is_ended : List ClientEvent → Bool
is_ended [] = false
is_ended (Group bytes ∷ past) = is_ended past
is_ended (End ∷ past) = true
is_ended (Sent r ∷ past) = is_ended past
is_ended (Replied m ∷ past) = is_ended past
is_ended (Gave work ∷ past) = is_ended past
is_ended (Completed c ∷ past) = is_ended past
is_ended (Received bytes ∷ past) = is_ended past

-- the requests
abbrev pub requests_sent : List ClientEvent → List Request
requests_sent [] = []
requests_sent (Group bytes ∷ past) = requests_sent past
requests_sent (End ∷ past) = requests_sent past
requests_sent (Sent r ∷ past) = requests_sent past ++ r ∷ []
requests_sent (Replied m ∷ past) = requests_sent past
requests_sent (Gave work ∷ past) = requests_sent past
requests_sent (Completed c ∷ past) = requests_sent past
requests_sent (Received bytes ∷ past) = requests_sent past

-- the jobs: the one with number n stands at place n
abbrev pub jobs_given : List ClientEvent → List Work
jobs_given [] = []
jobs_given (Group bytes ∷ past) = jobs_given past
jobs_given (End ∷ past) = jobs_given past
jobs_given (Sent r ∷ past) = jobs_given past
jobs_given (Replied m ∷ past) = jobs_given past
jobs_given (Gave work ∷ past) = jobs_given past ++ work ∷ []
jobs_given (Completed c ∷ past) = jobs_given past
jobs_given (Received bytes ∷ past) = jobs_given past

-- the bytes that lists of bytes have together
abbrev pub total : List (List ℕ) → ℕ
total [] = 0
total (bytes ∷ later) = length bytes + total later

-- ---- requests and their replies

-- the requests without a reply, the oldest first, and the fault of a reply that was refused
pub record Answers : Type 0 where
  pub unanswered : List Request
  pub fault : Option ReplyFault

abbrev pub fault_of_reading : Result Reply FileFault → Option ReplyFault
fault_of_reading (Err fault) = Some (File fault)
fault_of_reading (Ok reply) = if reply.status == 0 then None else Some (Status reply.status)

-- why a message is no reply of success to the oldest of these requests
abbrev pub fault_of_reply : List Request → List ℕ → Option ReplyFault
fault_of_reply [] message = Some (File Order)
fault_of_reply (r ∷ later) message = fault_of_reading (reply_of (asked_by r) message)

-- a fault lasts: each later reply gets it too
abbrev pub lasting_or : Option ReplyFault → Option ReplyFault → Option ReplyFault
lasting_or (Some fault) found = Some fault
lasting_or None found = found

-- how a message is refused as a reply, if it is
abbrev pub reply_fault : Answers → List ℕ → Option ReplyFault
reply_fault a message = lasting_or a.fault (fault_of_reply a.unanswered message)

abbrev pub replied : Option ReplyFault → Answers → Answers
replied (Some fault) a = record { unanswered = a.unanswered; fault = Some fault }
replied None a = record { unanswered = drop 1 a.unanswered; fault = None }

abbrev pub answers : List ClientEvent → Answers
answers [] = record { unanswered = []; fault = None }
answers (Group bytes ∷ past) = answers past
answers (End ∷ past) = answers past
answers (Sent r ∷ past) = record { unanswered = (answers past).unanswered ++ r ∷ []; fault = (answers past).fault }
answers (Replied m ∷ past) = replied (reply_fault (answers past) m) (answers past)
answers (Gave work ∷ past) = answers past
answers (Completed c ∷ past) = answers past
answers (Received bytes ∷ past) = answers past

-- a reply was refused: nothing is due from then on
abbrev pub has_failed : List ClientEvent → Bool
has_failed past = is_some (answers past).fault

-- each request has its reply
abbrev pub are_answered : List ClientEvent → Bool
are_answered past = length (answers past).unanswered == 0

-- ---- registered pages

-- the token of a descriptor
abbrev pub token_of_descriptor : Descriptor → PageToken
token_of_descriptor d = record { page = d.token % 256; generation = d.token / 256 }

abbrev pub loaded_by : ℕ → WorkResult → List Descriptor
loaded_by page (Loaded d) = if (token_of_descriptor d).page == page then d ∷ [] else []
loaded_by page (Fetched bytes) = []
loaded_by page Placed = []
loaded_by page (Unloaded bytes) = []
loaded_by page (Refused status) = []

-- the descriptors under which a page was loaded, the oldest first
abbrev pub descriptors_on : ℕ → List ClientEvent → List Descriptor
descriptors_on page [] = []
descriptors_on page (Group bytes ∷ past) = descriptors_on page past
descriptors_on page (End ∷ past) = descriptors_on page past
descriptors_on page (Sent r ∷ past) = descriptors_on page past
descriptors_on page (Replied m ∷ past) = descriptors_on page past
descriptors_on page (Gave work ∷ past) = descriptors_on page past
descriptors_on page (Completed c ∷ past) = descriptors_on page past ++ loaded_by page c.result
descriptors_on page (Received bytes ∷ past) = descriptors_on page past

-- the page that a job takes back
abbrev pub page_unloaded : Option Work → Option ℕ
page_unloaded None = None
page_unloaded (Some (Load page right bytes)) = None
page_unloaded (Some (Fetch d)) = None
page_unloaded (Some (Place d bytes)) = None
page_unloaded (Some (Unload token)) = Some token.page

abbrev pub is_page : ℕ → Option ℕ → Bool
is_page page None = false
is_page page (Some p) = p == page

-- the job with this number among these
abbrev pub job_at : ℕ → List Job → Option Work
job_at number [] = None
job_at number (job ∷ later) = if job.number == number then Some job.work else job_at number later

abbrev pub without_job : ℕ → List Job → List Job
without_job number [] = []
without_job number (job ∷ later) = if job.number == number then later else job ∷ without_job number later

-- the jobs that were given and are not completed
abbrev pub open_jobs : List ClientEvent → List Job
open_jobs [] = []
open_jobs (Group bytes ∷ past) = open_jobs past
open_jobs (End ∷ past) = open_jobs past
open_jobs (Sent r ∷ past) = open_jobs past
open_jobs (Replied m ∷ past) = open_jobs past
open_jobs (Gave work ∷ past) = open_jobs past ++ (record { number = length (jobs_given past); work = work }) ∷ []
open_jobs (Completed c ∷ past) = without_job c.number (open_jobs past)
open_jobs (Received bytes ∷ past) = open_jobs past

-- the page that was unloaded by the open job that this completion answers
abbrev pub page_freed : Completion → List ClientEvent → Option ℕ
page_freed c past = page_unloaded (job_at c.number (open_jobs past))

-- how often a page was unloaded
abbrev pub unloads_on : ℕ → List ClientEvent → ℕ
unloads_on page [] = 0
unloads_on page (Group bytes ∷ past) = unloads_on page past
unloads_on page (End ∷ past) = unloads_on page past
unloads_on page (Sent r ∷ past) = unloads_on page past
unloads_on page (Replied m ∷ past) = unloads_on page past
unloads_on page (Gave work ∷ past) = unloads_on page past
unloads_on page (Completed c ∷ past) = if is_page page (page_freed c past) then unloads_on page past + 1 else unloads_on page past
unloads_on page (Received bytes ∷ past) = unloads_on page past

-- ---- completions

-- a result of the job's kind, which is no refusal
abbrev pub IsOfKind : Work → WorkResult → Type 0
IsOfKind (Load page right bytes) (Loaded d) = (d.offset ≡ page * PAGE_SIZE) × ((token_of_descriptor d).page ≡ page) × (256 ≤ d.token) × (d.length ≡ length bytes)
IsOfKind (Fetch d) (Fetched bytes) = length bytes ≡ d.length
IsOfKind (Place d bytes) Placed = Unit {0}
IsOfKind (Unload token) (Unloaded bytes) = length bytes ≡ PAGE_SIZE
IsOfKind work result = ⊥

-- a completion answers an open job by the job's kind
pub record AnswersJob (past : List ClientEvent) (c : Completion) : Type 0 where
  pub work : Work
  pub is_open : job_at c.number (open_jobs past) ≡ Some work
  pub fits : IsOfKind work c.result
