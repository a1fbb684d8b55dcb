-- What is due at the client of a put, by all that happened there.
use Rattle.std.specs.Prelude.{◌≡◌, ℕ, ◌+◌, ◌-◌, ◌/◌, ◌%◌, ◌==◌, ◌≤◌, nat_lt, nat_le, not, ◌&&◌, Bool, true, Option, Some, None, option_map, option_to_list, List, [], ◌∷◌, ◌++◌, length, take, map, slice_get, if◌then◌else◌}
use Rattle.file_messages.specs.declared.layout.TheConstants.{GROUP_SIZE}
use Rattle.smbd_base.specs.declared.right.Right.TheVariants as right
use Rattle.buffer_descriptor.specs.declared.descriptor.Descriptor.{Descriptor}
use Rattle.file_messages.specs.declared.kind.Channel.{Channel}
use Rattle.file_messages.specs.declared.kind.Channel.TheVariants as channels
use Rattle.file_messages.specs.declared.fault.ReplyFault.{ReplyFault}
use Rattle.file_messages.specs.declared.message.Request.{Request}
use Rattle.file_messages.specs.declared.job.Work.{Work}
use Rattle.file_messages.specs.declared.job.Work.TheVariants.{Load, Unload}
use Rattle.file_messages.specs.declared.job.Job.{Job}
use Rattle.file_messages.specs.Runs.{page_of, turn_of, pages_of, inline_write, registered_write, end_request}
use Rattle.file_pasts.specs.ClientPast.{ClientEvent, Group, End, Sent, Replied, Gave, Completed, Received, groups_in, is_ended, requests_sent, jobs_given, total, reply_fault, answers, has_failed, are_answered, token_of_descriptor, descriptors_on, page_freed, unloads_on, AnswersJob}

-- how a put goes: its channel, and how many groups may be under way with registered pages
pub record Setup : Type 0 where
  pub channel : Channel
  pub windows : ℕ

-- ---- requests

abbrev pub in_front : Option Descriptor → Option (List Descriptor) → Option (List Descriptor)
in_front None later = None
in_front (Some d) None = None
in_front (Some d) (Some later) = Some (d ∷ later)

-- how many of these descriptors name this page
abbrev pub names_page : ℕ → List Descriptor → ℕ
names_page page [] = 0
names_page page (d ∷ later) = if (token_of_descriptor d).page == page then names_page page later + 1 else names_page page later

-- how often a WRITE has named a load of this page
abbrev pub named_on : ℕ → List ClientEvent → ℕ
named_on page [] = 0
named_on page (Group bytes ∷ past) = named_on page past
named_on page (End ∷ past) = named_on page past
named_on page (Sent r ∷ past) = named_on page past + names_page page r.descriptors
named_on page (Replied m ∷ past) = named_on page past
named_on page (Gave work ∷ past) = named_on page past
named_on page (Completed c ∷ past) = named_on page past
named_on page (Received bytes ∷ past) = named_on page past

-- the descriptors under which the pages of so many parts, from this page on, were loaded, and which no WRITE has named yet;
-- none as long as one of the Loads is not completed
abbrev pub descriptors_for : ℕ → List (List ℕ) → List ClientEvent → Option (List Descriptor)
descriptors_for page [] past = Some []
descriptors_for page (part ∷ parts) past =
    in_front (slice_get (descriptors_on page past) (named_on page past)) (descriptors_for (page + 1) parts past)

-- the bytes before the k-th group
abbrev pub bytes_before : ℕ → List ClientEvent → ℕ
bytes_before k past = total (take (k - 1) (groups_in past))

-- the WRITE of the k-th group, once its Loads are completed
abbrev pub write_due : Setup → ℕ → List ℕ → List ClientEvent → Option Request
write_due s k group past =
    elim s.channel [
      | channels.None ↦ Some (inline_write k (bytes_before k past) group)
      | channels.V1 ↦ option_map (registered_write k (bytes_before k past) group) (descriptors_for (page_of s.windows k 0) (pages_of group) past)
    ]

-- the request after so many: the WRITE of the next group, or else END, once the groups have ended and each request has
-- its reply
abbrev pub request_after : Setup → ℕ → Option (List ℕ) → List ClientEvent → Option Request
request_after s sent (Some group) past = write_due s (sent + 1) group past
request_after s sent None past =
    if is_ended past && sent == length (groups_in past) && are_answered past
    then Some (end_request (sent + 1) (total (groups_in past)))
    else None

-- the request that is due and was not given
abbrev pub next_request : Setup → List ClientEvent → Option Request
next_request s past =
    if has_failed past then None
    else request_after s (length (requests_sent past)) (slice_get (groups_in past) (length (requests_sent past))) past

-- ---- jobs

-- the part of a group that a page takes, where so many groups came before it: each group uses 16 pages
abbrev pub part_on : ℕ → ℕ → ℕ → List ℕ → List (List ℕ)
part_on w page before bytes =
    if page / 16 == before % w then option_to_list (slice_get (pages_of bytes) (page % 16)) else []

-- the parts that a page takes, the oldest first
abbrev pub parts_on : ℕ → ℕ → List ClientEvent → List (List ℕ)
parts_on w page [] = []
parts_on w page (Group bytes ∷ past) = parts_on w page past ++ part_on w page (length (groups_in past)) bytes
parts_on w page (End ∷ past) = parts_on w page past
parts_on w page (Sent r ∷ past) = parts_on w page past
parts_on w page (Replied m ∷ past) = parts_on w page past
parts_on w page (Gave work ∷ past) = parts_on w page past
parts_on w page (Completed c ∷ past) = parts_on w page past
parts_on w page (Received bytes ∷ past) = parts_on w page past

-- every earlier part of the page was unloaded
abbrev pub is_free : ℕ → ℕ → List ClientEvent → Bool
is_free w page past = nat_le (length (parts_on w page past)) (unloads_on page past)

-- the Loads of these parts, each on the next page from this one on, but for pages that are not free
abbrev pub loads_on_free_pages : ℕ → ℕ → List (List ℕ) → List ClientEvent → List Work
loads_on_free_pages w page [] past = []
loads_on_free_pages w page (part ∷ parts) past =
    (if is_free w page past then Load page right.Fetch part ∷ [] else []) ++ loads_on_free_pages w (page + 1) parts past

-- the Load of a part that waited for its page to be unloaded
abbrev pub load_of_part : ℕ → Option (List ℕ) → List Work
load_of_part page None = []
load_of_part page (Some part) = Load page right.Fetch part ∷ []

abbrev pub load_after : ℕ → Option ℕ → List ClientEvent → List Work
load_after w None past = []
load_after w (Some page) past = load_of_part page (slice_get (parts_on w page past) (unloads_on page past + 1))

-- the Unloads of what a request named
abbrev pub unloads_of : List Descriptor → List Work
unloads_of descriptors = map (λ (d : Descriptor). Unload (token_of_descriptor d)) descriptors

abbrev pub unloads_of_first : List Request → List Work
unloads_of_first [] = []
unloads_of_first (r ∷ later) = unloads_of r.descriptors

abbrev pub if_taken : Option ReplyFault → List Work → List Work
if_taken None works = works
if_taken (Some fault) works = []

-- the jobs of a put over registered pages that ever came due, in the order in which they did
abbrev pub jobs_due : ℕ → List ClientEvent → List Work
jobs_due w [] = []
jobs_due w (Group bytes ∷ past) = jobs_due w past ++ loads_on_free_pages w (page_of w (length (groups_in past) + 1) 0) (pages_of bytes) past
jobs_due w (End ∷ past) = jobs_due w past
jobs_due w (Sent r ∷ past) = jobs_due w past
jobs_due w (Replied m ∷ past) =
    jobs_due w past ++ if_taken (reply_fault (answers past) m) (unloads_of_first (answers past).unanswered)
jobs_due w (Gave work ∷ past) = jobs_due w past
jobs_due w (Completed c ∷ past) = jobs_due w past ++ load_after w (page_freed c past) past
jobs_due w (Received bytes ∷ past) = jobs_due w past

abbrev pub numbered : ℕ → Option Work → Option Job
numbered n None = None
numbered n (Some work) = Some (record { number = n; work = work })

-- the oldest job that came due and was not given
abbrev pub job_in_turn : ℕ → List ClientEvent → Option Job
job_in_turn w past = numbered (length (jobs_given past)) (slice_get (jobs_due w past) (length (jobs_given past)))

-- the job that is due
abbrev pub next_job : Setup → List ClientEvent → Option Job
next_job s past =
    if has_failed past then None
    else elim s.channel [ channels.None ↦ None | channels.V1 ↦ job_in_turn s.windows past ]

-- ---- groups

-- each page of these parts of the k-th group was loaded for it and unloaded again
abbrev pub are_unloaded : ℕ → ℕ → ℕ → List (List ℕ) → List ClientEvent → Bool
are_unloaded w k i [] past = true
are_unloaded w k i (part ∷ parts) past =
    nat_lt (turn_of w k) (unloads_on (page_of w k i) past) && are_unloaded w k (i + 1) parts past

-- of these groups, the first of them the k-th, those whose pages are not unloaded
abbrev pub groups_on_pages : ℕ → ℕ → List (List ℕ) → List ClientEvent → ℕ
groups_on_pages w k [] past = 0
groups_on_pages w k (group ∷ groups) past =
    if are_unloaded w k 0 (pages_of group) past then groups_on_pages w (k + 1) groups past
    else groups_on_pages w (k + 1) groups past + 1

-- the WRITEs that are prepared or not answered
abbrev pub writes_open : List ClientEvent → ℕ
writes_open past = length (groups_in past) - length (requests_sent past) + length (answers past).unanswered

abbrev pub has_room : Setup → List ClientEvent → Bool
has_room s past =
    elim s.channel [
      | channels.None ↦ nat_lt (writes_open past) 4
      | channels.V1 ↦ nat_lt (groups_on_pages s.windows 1 (groups_in past) past) s.windows
    ]

-- no group was shorter than 65,536 bytes
abbrev pub are_whole : List (List ℕ) → Bool
are_whole [] = true
are_whole (group ∷ groups) = length group == GROUP_SIZE && are_whole groups

-- a group may be handed in
abbrev pub wants_group : Setup → List ClientEvent → Bool
wants_group s past = not (is_ended past) && are_whole (groups_in past) && has_room s past

-- END's reply was taken
abbrev pub is_finished : List ClientEvent → Bool
is_finished past = length (requests_sent past) == length (groups_in past) + 1 && are_answered past

-- ---- a lawful past: what was handed in was asked for, and what was given was due

abbrev pub Follows : Setup → ClientEvent → List ClientEvent → Type 0
Follows s (Group bytes) past = (wants_group s past ≡ true) × (1 ≤ length bytes) × (length bytes ≤ GROUP_SIZE)
Follows s End past = Unit {0}
Follows s (Sent r) past = next_request s past ≡ Some r
Follows s (Replied m) past = Unit {0}
Follows s (Gave work) past = next_job s past ≡ Some (record { number = length (jobs_given past); work = work })
Follows s (Completed c) past = AnswersJob past c
Follows s (Received bytes) past = ⊥

abbrev pub IsPut : Setup → List ClientEvent → Type 0
IsPut s [] = Unit {0}
IsPut s (e ∷ past) = Follows s e past × IsPut s past
