-- What is due at the client of a get, by all that happened there. A READ is round k where it is the k-th request; with
-- registered pages each round has 32 jobs, 16 Loads and then 16 Unloads, and they are numbered round by round.
use Rattle.std.specs.Prelude.{◌≡◌, ℕ, zero, suc, ◌+◌, ◌-◌, ◌*◌, ◌==◌, nat_le, not, ◌&&◌, ◌||◌, Bool, false, Option, Some, None, option_map, List, [], ◌∷◌, ◌++◌, length, take, drop, slice_get, replicate, if◌then◌else◌}
use Rattle.smbd_base.specs.declared.token.TheConstants.{PAGE_SIZE}
use Rattle.file_messages.specs.declared.layout.TheConstants.{GROUP_SIZE}
use Rattle.smbd_base.specs.Fields.{u32_at}
use Rattle.smbd_base.specs.declared.right.Right.TheVariants as right
use Rattle.buffer_descriptor.specs.declared.descriptor.Descriptor.{Descriptor}
use Rattle.file_messages.specs.declared.kind.Channel.{Channel}
use Rattle.file_messages.specs.declared.kind.Channel.TheVariants as channels
use Rattle.file_messages.specs.declared.message.Request.{Request}
use Rattle.file_messages.specs.declared.job.Work.{Work}
use Rattle.file_messages.specs.declared.job.Work.TheVariants.{Load}
use Rattle.file_messages.specs.declared.job.WorkResult.{WorkResult}
use Rattle.file_messages.specs.declared.job.WorkResult.TheVariants.{Loaded, Fetched, Placed, Unloaded, Refused}
use Rattle.file_messages.specs.declared.job.Job.{Job}
use Rattle.file_messages.specs.Messages.{READ, END}
use Rattle.file_messages.specs.Runs.{end_request}
use Rattle.file_pasts.specs.ClientPast.{ClientEvent, Group, End, Sent, Replied, Gave, Completed, Received, requests_sent, jobs_given, reply_fault, answers, has_failed, are_answered, descriptors_on, AnswersJob}
use Rattle.file_pasts.specs.PutDue.{in_front, numbered, if_taken, unloads_of_first}

-- ---- what replies and completions told

-- the counts of the replies that were taken, the oldest first
abbrev pub counts_taken : List ClientEvent → List ℕ
counts_taken [] = []
counts_taken (Group bytes ∷ past) = counts_taken past
counts_taken (End ∷ past) = counts_taken past
counts_taken (Sent r ∷ past) = counts_taken past
counts_taken (Replied m ∷ past) = counts_taken past ++ (elim (reply_fault (answers past) m) [ None ↦ u32_at 8 m ∷ [] | Some fault ↦ [] ])
counts_taken (Gave work ∷ past) = counts_taken past
counts_taken (Completed c ∷ past) = counts_taken past
counts_taken (Received bytes ∷ past) = counts_taken past

abbrev pub sum_of : List ℕ → ℕ
sum_of [] = 0
sum_of (n ∷ ns) = n + sum_of ns

-- how many jobs were completed
abbrev pub jobs_completed : List ClientEvent → ℕ
jobs_completed [] = 0
jobs_completed (Group bytes ∷ past) = jobs_completed past
jobs_completed (End ∷ past) = jobs_completed past
jobs_completed (Sent r ∷ past) = jobs_completed past
jobs_completed (Replied m ∷ past) = jobs_completed past
jobs_completed (Gave work ∷ past) = jobs_completed past
jobs_completed (Completed c ∷ past) = jobs_completed past + 1
jobs_completed (Received bytes ∷ past) = jobs_completed past

-- the bytes of the page that the job of this number took back
abbrev pub page_bytes : WorkResult → List ℕ
page_bytes (Loaded d) = []
page_bytes (Fetched bytes) = []
page_bytes Placed = []
page_bytes (Unloaded bytes) = bytes
page_bytes (Refused status) = []

abbrev pub unloaded_by : ℕ → List ClientEvent → List ℕ
unloaded_by number [] = []
unloaded_by number (Group bytes ∷ past) = unloaded_by number past
unloaded_by number (End ∷ past) = unloaded_by number past
unloaded_by number (Sent r ∷ past) = unloaded_by number past
unloaded_by number (Replied m ∷ past) = unloaded_by number past
unloaded_by number (Gave work ∷ past) = unloaded_by number past
unloaded_by number (Completed c ∷ past) = if c.number == number then page_bytes c.result else unloaded_by number past
unloaded_by number (Received bytes ∷ past) = unloaded_by number past

-- the bytes of so many pages, which the jobs from this number on took back
abbrev pub pages_back : ℕ → ℕ → List ClientEvent → List ℕ
pages_back zero number past = []
pages_back (suc count) number past = unloaded_by number past ++ pages_back count (number + 1) past

-- ---- rounds

-- the READs and END that were sent
abbrev pub sent : List ClientEvent → ℕ
sent past = length (requests_sent past)

-- the count of the last reply
abbrev pub last_count : List ℕ → ℕ
last_count [] = GROUP_SIZE
last_count (n ∷ []) = n
last_count (n ∷ (m ∷ ns)) = last_count (m ∷ ns)

-- the last READ gave its whole length, or there was none
abbrev pub goes_on : List ClientEvent → Bool
goes_on past = last_count (counts_taken past) == GROUP_SIZE

abbrev pub has_ended : List Request → Bool
has_ended [] = false
has_ended (r ∷ rs) = r.op == END || has_ended rs

-- each READ has its reply, and its pages are unloaded
abbrev pub is_between_rounds : Channel → List ClientEvent → Bool
is_between_rounds channels.None past = are_answered past
is_between_rounds channels.V1 past = are_answered past && (sent past == 0 || nat_le (32 * sent past) (jobs_completed past))

-- ---- requests

-- the descriptors of so many pages, from the i-th on, in the round after so many
abbrev pub descriptors_loaded : ℕ → ℕ → ℕ → List ClientEvent → Option (List Descriptor)
descriptors_loaded zero i rounds past = Some []
descriptors_loaded (suc count) i rounds past =
    in_front (slice_get (descriptors_on i past) rounds) (descriptors_loaded count (i + 1) rounds past)

abbrev pub read_request : ℕ → ℕ → ℕ → List Descriptor → Request
read_request channel k offset descriptors = record {
  op = READ;
  channel = channel;
  id = k;
  offset = offset;
  length = GROUP_SIZE;
  descriptors = descriptors;
  inline = [];
}

-- the next READ, once its Loads are completed
abbrev pub read_due : Channel → List ClientEvent → Option Request
read_due channels.None past = Some (read_request 0 (sent past + 1) (sum_of (counts_taken past)) [])
read_due channels.V1 past =
    option_map (read_request 1 (sent past + 1) (sum_of (counts_taken past))) (descriptors_loaded 16 0 (sent past) past)

-- the request that is due and was not given
abbrev pub next_request : Channel → List ClientEvent → Option Request
next_request channel past =
    if has_failed past || has_ended (requests_sent past) then None
    else if not (is_between_rounds channel past) then None
    else if goes_on past then read_due channel past
    else Some (end_request (sent past + 1) (sum_of (counts_taken past)))

-- ---- jobs

-- the Loads of so many pages from the i-th on, for the server to place in
abbrev pub page_loads : ℕ → ℕ → List Work
page_loads zero i = []
page_loads (suc count) i = Load i right.Place (replicate PAGE_SIZE 0) ∷ page_loads count (i + 1)

-- the last page of a round is unloaded by this completion, and the round gave its whole length
abbrev pub begins_round : List ClientEvent → Bool
begins_round past = jobs_completed past + 1 == 32 * sent past && goes_on past

-- the jobs of a get over registered pages that ever came due, in the order in which they did
abbrev pub jobs_due : List ClientEvent → List Work
jobs_due [] = page_loads 16 0
jobs_due (Group bytes ∷ past) = jobs_due past
jobs_due (End ∷ past) = jobs_due past
jobs_due (Sent r ∷ past) = jobs_due past
jobs_due (Replied m ∷ past) = jobs_due past ++ if_taken (reply_fault (answers past) m) (unloads_of_first (answers past).unanswered)
jobs_due (Gave work ∷ past) = jobs_due past
jobs_due (Completed c ∷ past) = jobs_due past ++ (if begins_round past then page_loads 16 0 else [])
jobs_due (Received bytes ∷ past) = jobs_due past

abbrev pub next_job : Channel → List ClientEvent → Option Job
next_job channel past =
    if has_failed past then None
    else elim channel [
      | channels.None ↦ None
      | channels.V1 ↦ numbered (length (jobs_given past)) (slice_get (jobs_due past) (length (jobs_given past)))
    ]

-- ---- bytes

abbrev pub some_bytes : List ℕ → List (List ℕ)
some_bytes [] = []
some_bytes (b ∷ bytes) = (b ∷ bytes) ∷ []

-- the bytes that a reply carries: as many as it counts. Whatever else stands after a header is ignored
abbrev pub bytes_carried : List ℕ → List ℕ
bytes_carried m = take (u32_at 8 m) (drop 12 m)

-- the groups that came: without registered pages in the replies; else from the pages, once they are unloaded
abbrev pub groups_came : Channel → List ClientEvent → List (List ℕ)
groups_came channel [] = []
groups_came channel (Group bytes ∷ past) = groups_came channel past
groups_came channel (End ∷ past) = groups_came channel past
groups_came channel (Sent r ∷ past) = groups_came channel past
groups_came channel (Replied m ∷ past) =
    groups_came channel past ++ (elim channel [
      | channels.None ↦ elim (reply_fault (answers past) m) [ None ↦ some_bytes (bytes_carried m) | Some fault ↦ [] ]
      | channels.V1 ↦ []
    ])
groups_came channel (Gave work ∷ past) = groups_came channel past
groups_came channel (Completed c ∷ past) =
    groups_came channel past
    ++ (if jobs_completed past + 1 == 32 * sent past
    then some_bytes (take (last_count (counts_taken past)) (pages_back 16 (jobs_completed past + 1 - 16) (Completed c ∷ past)))
    else [])
groups_came channel (Received bytes ∷ past) = groups_came channel past

abbrev pub groups_received : List ClientEvent → ℕ
groups_received [] = 0
groups_received (Group bytes ∷ past) = groups_received past
groups_received (End ∷ past) = groups_received past
groups_received (Sent r ∷ past) = groups_received past
groups_received (Replied m ∷ past) = groups_received past
groups_received (Gave work ∷ past) = groups_received past
groups_received (Completed c ∷ past) = groups_received past
groups_received (Received bytes ∷ past) = groups_received past + 1

-- the group that came and was not given
abbrev pub next_group : Channel → List ClientEvent → Option (List ℕ)
next_group channel past = if has_failed past then None else slice_get (groups_came channel past) (groups_received past)

-- END's reply was taken
abbrev pub is_finished : List ClientEvent → Bool
is_finished past = has_ended (requests_sent past) && are_answered past

-- ---- a lawful past

abbrev pub Follows : Channel → ClientEvent → List ClientEvent → Type 0
Follows channel (Group bytes) past = ⊥
Follows channel End past = ⊥
Follows channel (Sent r) past = next_request channel past ≡ Some r
Follows channel (Replied m) past = Unit {0}
Follows channel (Gave work) past = next_job channel past ≡ Some (record { number = length (jobs_given past); work = work })
Follows channel (Completed c) past = AnswersJob past c
Follows channel (Received bytes) past = next_group channel past ≡ Some bytes

abbrev pub IsGet : Channel → List ClientEvent → Type 0
IsGet channel [] = Unit {0}
IsGet channel (e ∷ past) = Follows channel e past × IsGet channel past
