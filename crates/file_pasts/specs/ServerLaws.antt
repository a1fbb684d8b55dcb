-- A server answers the requests of a copy by the replies of that copy, fetches what they name, and stores what they bring.
use Rattle.std.specs.Prelude.{◌≡◌, ℕ, ◌+◌, ◌==◌, ◌≤◌, Bool, Some, List, [], ◌∷◌, ◌++◌, length, take, map, if◌then◌else◌}
use Rattle.std.specs.List.{flat_map}
use mathlib.Core.List.{IsPrefix}
use Rattle.buffer_descriptor.specs.declared.descriptor.Descriptor.{Descriptor}
use Rattle.file_messages.specs.declared.kind.Channel.{Channel}
use Rattle.file_messages.specs.declared.kind.Channel.TheVariants as channels
use Rattle.file_messages.specs.declared.kind.CopyKind.{CopyKind}
use Rattle.file_messages.specs.declared.kind.CopyKind.TheVariants as kinds
use Rattle.file_messages.specs.declared.message.Request.{Request}
use Rattle.file_messages.specs.declared.job.Work.{Work}
use Rattle.file_messages.specs.declared.job.Work.TheVariants.{Fetch}
use Rattle.file_messages.specs.declared.job.WorkResult.{WorkResult}
use Rattle.file_messages.specs.declared.job.WorkResult.TheVariants.{Loaded, Fetched, Placed, Unloaded, Refused}
use Rattle.file_messages.specs.Messages.{WRITE, READ, request_bytes}
use Rattle.file_messages.specs.Runs.{groups_of, pages_of, page_of, turn_of, descriptor_of_load, windows, put_requests, get_requests, replies_to, bytes_read}
use Rattle.file_messages.specs.Written.{AllReadBack, IsCopyable, IsPool}
use Rattle.file_pasts.specs.ServerDue.{ServerEvent, Asked, Filled, Gave, Completed, Replied, Stored, replies, handled, places_of, AnswersJob, IsServer}

-- ---- what was handed in and given, the oldest first

abbrev pub messages_asked : List ServerEvent → List (List ℕ)
messages_asked [] = []
messages_asked (Asked m ∷ past) = messages_asked past ++ m ∷ []
messages_asked (Filled bytes ∷ past) = messages_asked past
messages_asked (Gave work ∷ past) = messages_asked past
messages_asked (Completed c ∷ past) = messages_asked past
messages_asked (Replied r ∷ past) = messages_asked past
messages_asked (Stored bytes ∷ past) = messages_asked past

abbrev pub groups_given : List ServerEvent → List (List ℕ)
groups_given [] = []
groups_given (Asked m ∷ past) = groups_given past
groups_given (Filled bytes ∷ past) = groups_given past
groups_given (Gave work ∷ past) = groups_given past
groups_given (Completed c ∷ past) = groups_given past
groups_given (Replied r ∷ past) = groups_given past
groups_given (Stored bytes ∷ past) = groups_given past ++ bytes ∷ []

-- ---- what its caller did

abbrev pub IsDone : WorkResult → Type 0
IsDone (Loaded d) = Unit {0}
IsDone (Fetched bytes) = Unit {0}
IsDone Placed = Unit {0}
IsDone (Unloaded bytes) = Unit {0}
IsDone (Refused status) = ⊥

-- no access was refused
abbrev pub NothingRefused : List ServerEvent → Type 0
NothingRefused [] = Unit {0}
NothingRefused (Asked m ∷ past) = NothingRefused past
NothingRefused (Filled bytes ∷ past) = NothingRefused past
NothingRefused (Gave work ∷ past) = NothingRefused past
NothingRefused (Completed c ∷ past) = IsDone c.result × NothingRefused past
NothingRefused (Replied r ∷ past) = NothingRefused past
NothingRefused (Stored bytes ∷ past) = NothingRefused past

-- what was handed in for a READ are the bytes of the copy from its place on
abbrev pub FillsFrom : CopyKind → List ℕ → List ServerEvent → Type 0
FillsFrom kind bytes [] = Unit {0}
FillsFrom kind bytes (Asked m ∷ past) = FillsFrom kind bytes past
FillsFrom kind bytes (Filled b ∷ past) = ((r : Request) → handled kind past ≡ Some r → b ≡ bytes_read bytes r) × FillsFrom kind bytes past
FillsFrom kind bytes (Gave work ∷ past) = FillsFrom kind bytes past
FillsFrom kind bytes (Completed c ∷ past) = FillsFrom kind bytes past
FillsFrom kind bytes (Replied r ∷ past) = FillsFrom kind bytes past
FillsFrom kind bytes (Stored b ∷ past) = FillsFrom kind bytes past

-- what the i-th job of a request brought is what its i-th descriptor names
abbrev pub FetchesFrom : CopyKind → (Descriptor → List ℕ) → List ServerEvent → Type 0
FetchesFrom kind content [] = Unit {0}
FetchesFrom kind content (Asked m ∷ past) = FetchesFrom kind content past
FetchesFrom kind content (Filled b ∷ past) = FetchesFrom kind content past
FetchesFrom kind content (Gave work ∷ past) = FetchesFrom kind content past
FetchesFrom kind content (Completed c ∷ past) =
    ((a : AnswersJob kind past c) (d : Descriptor) (b : List ℕ) → a.work ≡ Fetch d → c.result ≡ Fetched b → b ≡ content d) × FetchesFrom kind content past
FetchesFrom kind content (Replied r ∷ past) = FetchesFrom kind content past
FetchesFrom kind content (Stored b ∷ past) = FetchesFrom kind content past

-- ---- replies

-- the messages handed in are a front of the requests of a run, each of which reads back
pub record AsksFor (run : List Request) (past : List ServerEvent) : Type 0 where
  pub asked : IsPrefix (messages_asked past) (map request_bytes run)
  pub read : AllReadBack run

abbrev pub ServersReply : Type 0
ServersReply = (kind : CopyKind) (bytes : List ℕ) (run : List Request) (past : List ServerEvent) → IsServer kind past → AsksFor run past
    → NothingRefused past → FillsFrom kind bytes past
    → IsPrefix (replies past) (replies_to bytes run) × (length (replies past) ≤ length (messages_asked past))

abbrev pub PutServersReply : Type 0
PutServersReply = (channel : Channel) (pages : ℕ) (ended : Bool) (bytes : List ℕ) (past : List ServerEvent) → IsPool pages → IsCopyable bytes → IsServer kinds.Put past
    → IsPrefix (messages_asked past) (map request_bytes (put_requests channel pages ended bytes)) → NothingRefused past → FillsFrom kinds.Put bytes past
    → IsPrefix (replies past) (replies_to bytes (put_requests channel pages ended bytes))

abbrev pub GetServersReply : Type 0
GetServersReply = (channel : Channel) (bytes : List ℕ) (past : List ServerEvent) → IsCopyable bytes → IsServer kinds.Get past
    → IsPrefix (messages_asked past) (map request_bytes (get_requests channel bytes)) → NothingRefused past → FillsFrom kinds.Get bytes past
    → IsPrefix (replies past) (replies_to bytes (get_requests channel bytes))

-- ---- groups

-- the group that a request brings, where descriptors name these bytes
abbrev pub group_carried : (Descriptor → List ℕ) → Request → List (List ℕ)
group_carried content r = if r.op == WRITE then (if r.channel == 0 then r.inline else flat_map content r.descriptors) ∷ [] else []

abbrev pub ServersStore : Type 0
ServersStore = (kind : CopyKind) (bytes : List ℕ) (content : Descriptor → List ℕ) (run : List Request) (past : List ServerEvent) → IsServer kind past → AsksFor run past
    → NothingRefused past → FillsFrom kind bytes past → FetchesFrom kind content past
    → IsPrefix (groups_given past) (flat_map (group_carried content) run)

-- the bytes that the descriptors of a put's WRITEs name are their parts
abbrev pub PartsNamed : (Descriptor → List ℕ) → ℕ → ℕ → ℕ → List (List ℕ) → Type 0
PartsNamed content w k i [] = Unit {0}
PartsNamed content w k i (part ∷ parts) = (content (descriptor_of_load (page_of w k i) (turn_of w k) (length part)) ≡ part) × PartsNamed content w k (i + 1) parts

abbrev pub GroupsNamed : (Descriptor → List ℕ) → ℕ → ℕ → List (List ℕ) → Type 0
GroupsNamed content w k [] = Unit {0}
GroupsNamed content w k (g ∷ gs) = PartsNamed content w k 0 (pages_of g) × GroupsNamed content w (k + 1) gs

abbrev pub NamesGroups : Channel → (Descriptor → List ℕ) → ℕ → List (List ℕ) → Type 0
NamesGroups channels.None content w groups = Unit {0}
NamesGroups channels.V1 content w groups = GroupsNamed content w 1 groups

abbrev pub PutServersStore : Type 0
PutServersStore = (channel : Channel) (pages : ℕ) (ended : Bool) (bytes : List ℕ) (content : Descriptor → List ℕ) (past : List ServerEvent) → IsPool pages → IsCopyable bytes
    → IsServer kinds.Put past → IsPrefix (messages_asked past) (map request_bytes (put_requests channel pages ended bytes))
    → NothingRefused past → FillsFrom kinds.Put bytes past → FetchesFrom kinds.Put content past → NamesGroups channel content (windows pages) (groups_of bytes)
    → IsPrefix (groups_given past) (groups_of bytes)

-- ---- jobs

-- every job that was given, the oldest first
abbrev pub works_given : List ServerEvent → List Work
works_given [] = []
works_given (Asked m ∷ past) = works_given past
works_given (Filled bytes ∷ past) = works_given past
works_given (Gave work ∷ past) = works_given past ++ work ∷ []
works_given (Completed c ∷ past) = works_given past
works_given (Replied r ∷ past) = works_given past
works_given (Stored bytes ∷ past) = works_given past

-- the jobs that a request of a copy of these bytes needs: a Fetch of each descriptor of a WRITE, and the Places of what a
-- READ gets
abbrev pub jobs_needed : List ℕ → Request → List Work
jobs_needed bytes r =
    if r.op == WRITE then map (λ (d : Descriptor). Fetch d) r.descriptors
    else if r.op == READ then places_of r.descriptors (bytes_read bytes r)
    else []

-- the jobs are those of the requests, in order, each once, and all of the requests that were replied to
pub record JobsServe (bytes : List ℕ) (run : List Request) (past : List ServerEvent) : Type 0 where
  pub given : IsPrefix (works_given past) (flat_map (jobs_needed bytes) run)
  pub replied : IsPrefix (flat_map (jobs_needed bytes) (take (length (replies past)) run)) (works_given past)

abbrev pub ServersFetch : Type 0
ServersFetch = (kind : CopyKind) (bytes : List ℕ) (run : List Request) (past : List ServerEvent) → IsServer kind past → AsksFor run past
    → NothingRefused past → FillsFrom kind bytes past → JobsServe bytes run past
