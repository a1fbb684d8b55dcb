-- A get asks for the READs of its bytes, in order, and END after them.
use Rattle.std.specs.Prelude.{◌≡◌, ℕ, ◌<◌, Some, List, [], ◌∷◌, ◌++◌, map, replicate, slice_get}
use Rattle.smbd_base.specs.declared.token.TheConstants.{PAGE_SIZE}
use Rattle.smbd_base.specs.declared.right.Right.TheVariants as right
use Rattle.buffer_descriptor.specs.declared.descriptor.Descriptor.{Descriptor}
use Rattle.file_messages.specs.declared.job.Work.{Work}
use Rattle.file_messages.specs.declared.job.Work.TheVariants.{Load, Fetch, Place, Unload}
use mathlib.Core.List.{IsPrefix}
use Rattle.file_messages.specs.declared.kind.Channel.{Channel}
use Rattle.file_messages.specs.declared.kind.Channel.TheVariants as channels
use Rattle.file_messages.specs.Messages.{reply_bytes}
use Rattle.file_messages.specs.Runs.{groups_of, get_requests, replies_to, descriptor_of_load}
use Rattle.file_messages.specs.Written.{IsCopyable}
use Rattle.file_pasts.specs.ClientPast.{ClientEvent, Group, End, Sent, Replied, Gave, Completed, Received, requests_sent, jobs_given, descriptors_on}
use Rattle.file_pasts.specs.GetDue.{IsGet}
use Rattle.file_pasts.specs.PutTokens.{HasPoolTokens}
use Rattle.file_pasts.specs.PutPages.{requests_replied, tokens_named, tokens_unloaded}

-- the messages that were handed in as replies, the oldest first
abbrev pub replies_in : List ClientEvent → List (List ℕ)
replies_in [] = []
replies_in (Group bytes ∷ past) = replies_in past
replies_in (End ∷ past) = replies_in past
replies_in (Sent r ∷ past) = replies_in past
replies_in (Replied m ∷ past) = replies_in past ++ m ∷ []
replies_in (Gave work ∷ past) = replies_in past
replies_in (Completed c ∷ past) = replies_in past
replies_in (Received bytes ∷ past) = replies_in past

-- the replies handed in are a front of those of a get of these bytes
abbrev pub IsAnswered : Channel → List ℕ → List ClientEvent → Type 0
IsAnswered channel bytes past = IsPrefix (replies_in past) (map reply_bytes (replies_to bytes (get_requests channel bytes)))

-- then it asks for the READs of these bytes
abbrev pub GetsAsk : Type 0
GetsAsk = (bytes : List ℕ) (past : List ClientEvent) → IsCopyable bytes → IsGet channels.None past → IsAnswered channels.None bytes past
    → IsPrefix (requests_sent past) (get_requests channels.None bytes)

-- over registered pages, where the pool gives each load of a page the generation after that of the load before
abbrev pub RegisteredGetsAsk : Type 0
RegisteredGetsAsk = (bytes : List ℕ) (past : List ClientEvent) → IsCopyable bytes → IsGet channels.V1 past → HasPoolTokens past → IsAnswered channels.V1 bytes past
    → IsPrefix (requests_sent past) (get_requests channels.V1 bytes)

-- ---- registered pages

-- a Load of zeros for the server to place in, or an Unload
abbrev pub IsGetJob : Work → Type 0
IsGetJob (Load page right.Fetch bytes) = ⊥
IsGetJob (Load page right.Place bytes) = (page < 16) × (bytes ≡ replicate PAGE_SIZE 0)
IsGetJob (Fetch d) = ⊥
IsGetJob (Place d bytes) = ⊥
IsGetJob (Unload t) = Unit {0}

abbrev pub AreGetJobs : List Work → Type 0
AreGetJobs [] = Unit {0}
AreGetJobs (work ∷ later) = IsGetJob work × AreGetJobs later

abbrev pub JobsAreOfAGet : Type 0
JobsAreOfAGet = (past : List ClientEvent) → IsGet channels.V1 past → AreGetJobs (jobs_given past)

-- the load of a page after so many has the descriptor by which the READ of that round names it
abbrev pub LoadsOwnRounds : Type 0
LoadsOwnRounds = (page turn : ℕ) (d : Descriptor) (past : List ClientEvent) → IsGet channels.V1 past → HasPoolTokens past
    → slice_get (descriptors_on page past) turn ≡ Some d → d ≡ descriptor_of_load page turn PAGE_SIZE

-- only tokens of READs that were replied to are unloaded
abbrev pub GetUnloadsFollow : Type 0
GetUnloadsFollow = (past : List ClientEvent) → IsGet channels.V1 past → IsPrefix (tokens_unloaded (jobs_given past)) (tokens_named (requests_replied past))

-- ---- groups

-- the groups that were given, the oldest first
abbrev pub groups_taken : List ClientEvent → List (List ℕ)
groups_taken [] = []
groups_taken (Group bytes ∷ past) = groups_taken past
groups_taken (End ∷ past) = groups_taken past
groups_taken (Sent r ∷ past) = groups_taken past
groups_taken (Replied m ∷ past) = groups_taken past
groups_taken (Gave work ∷ past) = groups_taken past
groups_taken (Completed c ∷ past) = groups_taken past
groups_taken (Received bytes ∷ past) = groups_taken past ++ bytes ∷ []

-- then what it gives is a front of the groups of these bytes
abbrev pub GetsReceive : Type 0
GetsReceive = (bytes : List ℕ) (past : List ClientEvent) → IsCopyable bytes → IsGet channels.None past → IsAnswered channels.None bytes past
    → IsPrefix (groups_taken past) (groups_of bytes)
