-- How the registered pages of a put stand after its past, and the groups that are under way on them.
use Rattle.std.specs.Prelude.{◌≡◌, ℕ, zero, suc, ◌+◌, ◌<◌, ◌≤◌, nat_le, nat_lt, not, ◌&&◌, Bool, true, Some, option_to_list, List, [], ◌∷◌, ◌++◌, length, drop, map, filter, slice_get}
use Rattle.file_messages.specs.declared.message.Request.{Request}
use Rattle.file_messages.specs.Runs.{page_of, turn_of, pages_of}
use Rattle.file_pasts.specs.ClientPast.{ClientEvent, unloads_on, descriptors_on}
use Rattle.file_pasts.specs.PutDue.{jobs_due, parts_on, named_on, is_free, loads_on_free_pages}
use Rattle.file_pasts.specs.InStep.{part_at, named_at}
use Rattle.file_transfer.specs.declared.client_jobs.Jobs.{Jobs}
use Rattle.file_transfer.specs.declared.put_pages.Page.{Page}
use Rattle.file_transfer.specs.declared.put_pages.UnderWay.{UnderWay}
use Rattle.file_transfer.specs.ClientJobs.{JobsStand}
use Rattle.file_transfer.specs.ClientStands.{descriptor_in}

-- ---- one page

pub record PageStands (w page : ℕ) (past : List ClientEvent) (it : Page) : Type 0 where
  pub waiting : option_to_list it.waiting ≡ drop (unloads_on page past + 1) (parts_on w page past)
  pub fresh : map descriptor_in (option_to_list it.fresh) ≡ drop (named_on page past) (descriptors_on page past)
  pub free : it.free ≡ is_free w page past
  pub used : unloads_on page past ≤ length (parts_on w page past)
  pub unloads : it.unloads ≡ unloads_on page past

pub record SlotsStand (w : ℕ) (past : List ClientEvent) (slots : List Page) : Type 0 where
  pub each : (page : ℕ) (it : Page) → slice_get slots page ≡ Some it → PageStands w page past it

-- ---- while the parts of a group are taken: the first of them is for this page, and these were taken

pub record PageTakes (w page : ℕ) (past : List ClientEvent) (more : List (List ℕ)) (it : Page) : Type 0 where
  pub waiting : option_to_list it.waiting ≡ drop (unloads_on page past + 1) (parts_on w page past ++ more)
  pub fresh : map descriptor_in (option_to_list it.fresh) ≡ drop (named_on page past) (descriptors_on page past)
  pub free : it.free ≡ nat_le (length (parts_on w page past ++ more)) (unloads_on page past)
  pub used : unloads_on page past ≤ length (parts_on w page past)
  pub unloads : it.unloads ≡ unloads_on page past

pub record PartsTaken (w first : ℕ) (taken : List (List ℕ)) (past : List ClientEvent) (slots : List Page) (q : Jobs) : Type 0 where
  pub due : JobsStand (jobs_due w past ++ loads_on_free_pages w first taken past) past q
  pub each : (page : ℕ) (it : Page) → slice_get slots page ≡ Some it → PageTakes w page past (part_at first taken page) it

-- each of the pages from the first up to the last has at most one part that is not unloaded
pub record HasRoomOn (w first last : ℕ) (past : List ClientEvent) : Type 0 where
  pub once : (page : ℕ) → first ≤ page → page < last → length (parts_on w page past) ≤ unloads_on page past + 1

-- ---- while a WRITE is given: the pages from the first up to the last one were named by it

pub record PageNamed (w page : ℕ) (past : List ClientEvent) (more : ℕ) (it : Page) : Type 0 where
  pub waiting : option_to_list it.waiting ≡ drop (unloads_on page past + 1) (parts_on w page past)
  pub fresh : map descriptor_in (option_to_list it.fresh) ≡ drop (named_on page past + more) (descriptors_on page past)
  pub free : it.free ≡ is_free w page past
  pub used : unloads_on page past ≤ length (parts_on w page past)
  pub unloads : it.unloads ≡ unloads_on page past

pub record SlotsNamed (w first last : ℕ) (past : List ClientEvent) (slots : List Page) : Type 0 where
  pub each : (page : ℕ) (it : Page) → slice_get slots page ≡ Some it → PageNamed w page past (named_at first last page) it

-- ---- groups under way

-- so many pages from this one on were unloaded more often than so
abbrev pub all_back : ℕ → ℕ → ℕ → List ClientEvent → Bool
all_back turn page zero past = true
all_back turn page (suc count) past = nat_lt turn (unloads_on page past) && all_back turn (page + 1) count past

-- each page of the group was loaded for it and unloaded again
abbrev pub is_back : List ClientEvent → UnderWay → Bool
is_back past group = all_back group.turn group.first group.pages past

-- the pages of these groups, the first of them the k-th
abbrev pub windows_from : ℕ → ℕ → List (List ℕ) → List UnderWay
windows_from w k [] = []
windows_from w k (group ∷ groups) =
    (record { first = page_of w k 0; turn = turn_of w k; pages = length (pages_of group) }) ∷ windows_from w (k + 1) groups

-- of these groups those whose pages are not all unloaded
abbrev pub under_way_of : List ClientEvent → List UnderWay → List UnderWay
under_way_of past groups = filter (λ (group : UnderWay). not (is_back past group)) groups

-- the loads that these requests named
abbrev pub named_total : List Request → ℕ
named_total [] = 0
named_total (r ∷ later) = length r.descriptors + named_total later
