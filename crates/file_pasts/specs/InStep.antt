-- Words on the loads and unloads of one page of a put, and how they go in step.
use Rattle.std.specs.Prelude.{◌≡◌, ℕ, ◌+◌, ◌-◌, ◌==◌, ◌<◌, ◌≤◌, nat_le, nat_lt, ◌&&◌, Bool, true, false, Some, None, option_to_list, List, [], ◌∷◌, ◌++◌, length, slice_get, if◌then◌else◌}
use Rattle.buffer_descriptor.specs.declared.descriptor.Descriptor.{Descriptor}
use Rattle.file_messages.specs.declared.kind.Channel.TheVariants as channels
use Rattle.file_messages.specs.declared.message.Request.{Request}
use Rattle.file_messages.specs.declared.job.Job.{Job}
use Rattle.file_messages.specs.declared.job.Work.{Work}
use Rattle.file_messages.specs.declared.job.Work.TheVariants.{Load, Fetch, Place, Unload}
use Rattle.file_messages.specs.declared.job.WorkResult.TheVariants.{Loaded, Unloaded}
use Rattle.file_pasts.specs.ClientPast.{ClientEvent, jobs_given, open_jobs, unloads_on, descriptors_on, page_freed, token_of_descriptor, answers}
use Rattle.file_pasts.specs.PutDue.{Setup, jobs_due, parts_on, named_on, names_page}

-- ---- how many jobs are of a kind, on a page

unfoldable pub is_load_on : ℕ → Work → Bool
is_load_on page (Load p r bytes) = p == page
is_load_on page (Fetch d) = false
is_load_on page (Place d bytes) = false
is_load_on page (Unload t) = false

unfoldable pub is_unload_on : ℕ → Work → Bool
is_unload_on page (Load p r bytes) = false
is_unload_on page (Fetch d) = false
is_unload_on page (Place d bytes) = false
is_unload_on page (Unload t) = t.page == page

unfoldable pub one_if : Bool → ℕ
one_if true = 1
one_if false = 0

unfoldable pub count : (Work → Bool) → List Work → ℕ
count f [] = 0
count f (work ∷ later) = one_if (f work) + count f later

unfoldable pub count_open : (Work → Bool) → List Job → ℕ
count_open f [] = 0
count_open f (job ∷ later) = one_if (f job.work) + count_open f later

-- how often these requests name a page
unfoldable pub names_in : ℕ → List Request → ℕ
names_in page [] = 0
names_in page (r ∷ rs) = names_page page r.descriptors + names_in page rs

-- of parts that lie on consecutive pages from the first on, the one on this page
abbrev pub part_at : ℕ → List (List ℕ) → ℕ → List (List ℕ)
part_at first parts page = if nat_le first page then option_to_list (slice_get parts (page - first)) else []

-- 1 where the page is one from the first up to, not including, the last
abbrev pub named_at : ℕ → ℕ → ℕ → ℕ
named_at first last page = if nat_le first page && nat_lt page last then 1 else 0

-- ---- in step

-- a put over registered pages
abbrev pub over : ℕ → Setup
over w = record { channel = channels.V1; windows = w }

-- The loads and unloads of one page: no more of a kind was completed than given, nor given than due, nor named by a WRITE
-- than loaded, nor unloaded than replied to; at most one load more is due than there were unloads, and just so many as its
-- parts and the unloads allow.
pub record InStep (w page : ℕ) (past : List ClientEvent) : Type 0 where
  pub unloads : unloads_on page past + count_open (is_unload_on page) (open_jobs past) ≡ count (is_unload_on page) (jobs_given past)
  pub loads : length (descriptors_on page past) + count_open (is_load_on page) (open_jobs past) ≡ count (is_load_on page) (jobs_given past)
  pub rest : List Work
  pub given : jobs_due w past ≡ jobs_given past ++ rest
  pub replied_to : count (is_unload_on page) (jobs_due w past) + names_in page (answers past).unanswered ≡ named_on page past
  pub named : named_on page past ≤ length (descriptors_on page past)
  pub due : count (is_load_on page) (jobs_due w past) ≤ unloads_on page past + 1
  pub parts : count (is_load_on page) (jobs_due w past) ≤ length (parts_on w page past)

-- ---- one completion

-- a Load was completed by this descriptor, and the loads before it were named
pub record IsLoadDone (page number : ℕ) (d : Descriptor) (past : List ClientEvent) : Type 0 where
  pub on : (token_of_descriptor d).page ≡ page
  pub is_load : page_freed (record { number = number; result = Loaded d }) past ≡ None
  pub named : named_on page past ≡ length (descriptors_on page past)

-- an Unload of this page was completed
pub record IsUnloadDone (w page number : ℕ) (past : List ClientEvent) : Type 0 where
  pub is_unload : (bytes : List ℕ) → page_freed (record { number = number; result = Unloaded bytes }) past ≡ Some page
  pub busy : unloads_on page past < length (parts_on w page past)
