-- The loads and unloads of a put over registered pages: what they carry, under which tokens, and when they come.
use Rattle.std.specs.Prelude.{◌≡◌, ℕ, ◌+◌, ◌%◌, ◌==◌, ◌<◌, min, Option, Some, None, List, [], ◌∷◌, ◌++◌, length, map, slice_get, if◌then◌else◌}
use Rattle.std.specs.List.{flat_map}
use mathlib.Core.List.{IsPrefix}
use Rattle.smbd_base.specs.Tokens.{PageToken}
use Rattle.smbd_base.specs.declared.right.Right.TheVariants as right
use Rattle.buffer_descriptor.specs.declared.descriptor.Descriptor.{Descriptor}
use Rattle.file_messages.specs.declared.fault.ReplyFault.{ReplyFault}
use Rattle.file_messages.specs.declared.message.Request.{Request}
use Rattle.file_messages.specs.declared.job.Work.{Work}
use Rattle.file_messages.specs.declared.job.Work.TheVariants.{Load, Fetch, Place, Unload}
use Rattle.file_messages.specs.Runs.{pages_of, page_of, turn_of, descriptor_of_load}
use Rattle.file_pasts.specs.ClientPast.{ClientEvent, Group, End, Sent, Replied, Gave, Completed, Received, groups_in, requests_sent, jobs_given, unloads_on, descriptors_on, token_of_descriptor, reply_fault, answers}
use Rattle.file_pasts.specs.PutDue.{IsPut, jobs_due, parts_on}
use Rattle.file_pasts.specs.PutTokens.{HasPoolTokens}
use Rattle.file_pasts.specs.InStep.{is_load_on, count, over, InStep}

-- ---- in step

abbrev pub PagesGoInStep : Type 0
PagesGoInStep = (w page : ℕ) (past : List ClientEvent) → IsPut (over w) past → InStep w page past

-- a part's Load is due just where the part was handed in and every earlier token of its page was unloaded
abbrev pub LoadsComeDue : Type 0
LoadsComeDue = (w page : ℕ) (past : List ClientEvent) → IsPut (over w) past
    → count (is_load_on page) (jobs_due w past) ≡ min (length (parts_on w page past)) (unloads_on page past + 1)

-- ---- what the Loads carry

unfoldable pub load_bytes : ℕ → Work → List (List ℕ)
load_bytes page (Load p r bytes) = if p == page then bytes ∷ [] else []
load_bytes page (Fetch d) = []
load_bytes page (Place d bytes) = []
load_bytes page (Unload t) = []

-- the bytes of the Loads of a page, in order
unfoldable pub bytes_loaded : ℕ → List Work → List (List ℕ)
bytes_loaded page [] = []
bytes_loaded page (work ∷ later) = load_bytes page work ++ bytes_loaded page later

-- a Load for the server to fetch from, or an Unload
abbrev pub IsPutJob : Work → Type 0
IsPutJob (Load page right.Fetch bytes) = Unit {0}
IsPutJob (Load page right.Place bytes) = ⊥
IsPutJob (Fetch d) = ⊥
IsPutJob (Place d bytes) = ⊥
IsPutJob (Unload t) = Unit {0}

abbrev pub ArePutJobs : List Work → Type 0
ArePutJobs [] = Unit {0}
ArePutJobs (work ∷ later) = IsPutJob work × ArePutJobs later

abbrev pub LoadsCarryParts : Type 0
LoadsCarryParts = (w page : ℕ) (past : List ClientEvent) → IsPut (over w) past → IsPrefix (bytes_loaded page (jobs_given past)) (parts_on w page past)

abbrev pub JobsAreOfAPut : Type 0
JobsAreOfAPut = (w : ℕ) (past : List ClientEvent) → IsPut (over w) past → ArePutJobs (jobs_given past)

-- this is the part of a group that this page carries for the time after so many loads: the group's WRITE names just this
-- page and generation for it
pub record IsPartOf (w page turn : ℕ) (part : List ℕ) (groups : List (List ℕ)) : Type 0 where
  pub before : ℕ
  pub group : List ℕ
  pub at : slice_get groups before ≡ Some group
  pub page_is : page ≡ page_of w (before + 1) (page % 16)
  pub turn_is : turn ≡ turn_of w (before + 1)
  pub part_is : slice_get (pages_of group) (page % 16) ≡ Some part

abbrev pub PartsAreOfGroups : Type 0
PartsAreOfGroups = (w page turn : ℕ) (part : List ℕ) (past : List ClientEvent) → 0 < w → IsPut (over w) past
    → slice_get (parts_on w page past) turn ≡ Some part → IsPartOf w page turn part (groups_in past)

-- ---- tokens

-- the descriptor of the load of the page's part at this place
pub record OwnsPart (parts : List (List ℕ)) (page j : ℕ) (d : Descriptor) : Type 0 where
  pub part : List ℕ
  pub at : slice_get parts j ≡ Some part
  pub same : d ≡ descriptor_of_load page j (length part)

abbrev pub LoadsOwnParts : Type 0
LoadsOwnParts = (w page turn : ℕ) (d : Descriptor) (past : List ClientEvent) → IsPut (over w) past → HasPoolTokens past
    → slice_get (descriptors_on page past) turn ≡ Some d → OwnsPart (parts_on w page past) page turn d

-- each descriptor of a request that was sent is one of a load
abbrev pub NamedAreLoaded : Type 0
NamedAreLoaded = (w k i : ℕ) (r : Request) (d : Descriptor) (past : List ClientEvent) → IsPut (over w) past
    → slice_get (requests_sent past) k ≡ Some r → slice_get r.descriptors i ≡ Some d
    → (turn : ℕ) × (slice_get (descriptors_on (token_of_descriptor d).page past) turn ≡ Some d)

-- ---- unloads

abbrev pub first_if_taken : Option ReplyFault → List Request → List Request
first_if_taken (Some fault) unanswered = []
first_if_taken None [] = []
first_if_taken None (r ∷ later) = r ∷ []

-- the requests whose reply of success was taken, the oldest first
abbrev pub requests_replied : List ClientEvent → List Request
requests_replied [] = []
requests_replied (Group bytes ∷ past) = requests_replied past
requests_replied (End ∷ past) = requests_replied past
requests_replied (Sent r ∷ past) = requests_replied past
requests_replied (Replied m ∷ past) = requests_replied past ++ first_if_taken (reply_fault (answers past) m) (answers past).unanswered
requests_replied (Gave work ∷ past) = requests_replied past
requests_replied (Completed c ∷ past) = requests_replied past
requests_replied (Received bytes ∷ past) = requests_replied past

-- the tokens that requests name
abbrev pub tokens_named : List Request → List PageToken
tokens_named rs = flat_map (λ (r : Request). map token_of_descriptor r.descriptors) rs

unfoldable pub token_unloaded : Work → List PageToken
token_unloaded (Load p r bytes) = []
token_unloaded (Fetch d) = []
token_unloaded (Place d bytes) = []
token_unloaded (Unload t) = t ∷ []

-- the tokens of the Unloads among these jobs
abbrev pub tokens_unloaded : List Work → List PageToken
tokens_unloaded works = flat_map token_unloaded works

-- what was sent was replied to, or is unanswered
abbrev pub RequestsAreAnswered : Type 0
RequestsAreAnswered = (past : List ClientEvent) → requests_sent past ≡ requests_replied past ++ (answers past).unanswered

abbrev pub UnloadsFollowReplies : Type 0
UnloadsFollowReplies = (w : ℕ) (past : List ClientEvent) → IsPut (over w) past
    → (tokens_unloaded (jobs_due w past) ≡ tokens_named (requests_replied past)) × IsPrefix (tokens_unloaded (jobs_given past)) (tokens_named (requests_replied past))
