-- How the registered pages of a get stand after its past.
use Rattle.std.specs.Prelude.{◌≡◌, ℕ, zero, suc, ◌+◌, ◌-◌, ◌*◌, true, Option, Some, None, option_map, List, [], ◌∷◌, length, map, slice_get}
use Rattle.buffer_descriptor.specs.declared.descriptor.Descriptor.{Descriptor}
use Rattle.file_messages.specs.declared.kind.Channel.TheVariants as channels
use Rattle.file_messages.specs.declared.job.Completion.{Completion}
use Rattle.file_pasts.specs.ClientPast.{ClientEvent, descriptors_on, AnswersJob}
use Rattle.file_pasts.specs.PutDue.{in_front}
use Rattle.file_pasts.specs.GetDue.{IsGet, sent, jobs_completed, jobs_due, page_loads, unloaded_by}
use Rattle.file_transfer.specs.declared.get_pages.Page.{Page}
use Rattle.file_transfer.specs.declared.get_registered.GetRounds.{GetRounds}
use Rattle.file_transfer.specs.ClientJobs.{JobsStand}
use Rattle.file_transfer.specs.ClientStands.{descriptor_in}
use Rattle.file_transfer.specs.GetStands.{awaits}

-- ---- what a page has

abbrev pub loaded_in : Page → Option Descriptor
loaded_in page = option_map descriptor_in page.loaded

abbrev pub bytes_or_none : Option (List ℕ) → List ℕ
bytes_or_none None = []
bytes_or_none (Some bytes) = bytes

abbrev pub back_in : Page → List ℕ
back_in page = bytes_or_none page.back

-- the bytes that these have together
abbrev pub sizes : List (List ℕ) → ℕ
sizes [] = 0
sizes (bytes ∷ later) = length bytes + sizes later

abbrev pub same_bytes : List ℕ → List ℕ
same_bytes bytes = bytes

abbrev pub unused_pages : ℕ → List Page
unused_pages zero = []
unused_pages (suc count) = (record { loaded = None; back = None }) ∷ unused_pages count

-- the loads of so many pages, from the i-th on, in the round after so many
abbrev pub loads_at : ℕ → ℕ → ℕ → List ClientEvent → List (Option Descriptor)
loads_at zero i rounds past = []
loads_at (suc count) i rounds past = slice_get (descriptors_on i past) rounds ∷ loads_at count (i + 1) rounds past

-- all of these, if none is wanting
abbrev pub all_of : List (Option Descriptor) → Option (List Descriptor)
all_of [] = Some []
all_of (o ∷ os) = in_front o (all_of os)

-- what so many pages had in them when they were unloaded by the jobs from this number on, and nothing where they were not
abbrev pub pages_from : ℕ → ℕ → List ClientEvent → List (List ℕ)
pages_from zero number past = []
pages_from (suc count) number past = unloaded_by number past ∷ pages_from count (number + 1) past

-- the number of the first Unload of the round whose READ was given last
abbrev pub first_unload : List ClientEvent → ℕ
first_unload past = 32 * sent past - 16

-- ---- rounds

pub record RoundsStand (past : List ClientEvent) (p : GetRounds) : Type 0 where
  pub jobs : JobsStand (jobs_due past) past p.jobs
  pub kept : p.jobs.kept + length (jobs_due past) ≡ 16 + jobs_completed past
  pub loaded : map loaded_in p.slots.items ≡ loads_at 16 0 (sent past) past
  pub back : awaits channels.V1 past ≡ true → map back_in p.slots.items ≡ pages_from 16 (first_unload past) past
  pub next_loads : awaits channels.V1 past ≡ true → p.next_loads.items ≡ page_loads 16 0
  pub completed : p.completed ≡ jobs_completed past

-- a job of a get was completed, whose 16 pages are these
pub record MayNote (slots : List Page) (c : Completion) : Type 0 where
  pub past : List ClientEvent
  pub lawful : IsGet channels.V1 past
  pub answers_it : AnswersJob past c
  pub pages : length slots ≡ 16
