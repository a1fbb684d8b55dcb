-- One try of a job: what it leaves, and what it makes of the region (this project's own).
use Rattle.std.specs.Prelude.{◌≡◌, ℕ, ◌^◌, ◌≤◌, nat_le, nat_lt, ◌&&◌, Bool, Option, Some, None, List, length, slice_set}
use Rattle.smbd_base.specs.declared.token.TheConstants.{PAGE_SIZE}
use Rattle.smbd_base.specs.declared.right.Right.{Right}
use Rattle.smbd_base.specs.declared.page_event.PageEvent.{PageEvent}
use Rattle.smbd_base.specs.declared.page_event.PageEvent.TheVariants as events
use Rattle.smbd_base.specs.Tokens.{PageToken, IsToken}
use Rattle.smbd_base.specs.Pages.{IsPoolStep, page_at}
use Rattle.buffer_descriptor.specs.declared.descriptor.Descriptor.{Descriptor}
use Rattle.buffer_descriptor.specs.Descriptors.{IsSound, place_after}
use Rattle.event_log.specs.declared.log_line.LogLine.{LogLine}
use Rattle.event_log.specs.Lines.{logged_page}
use Rattle.file_messages.specs.declared.job.Job.{Job}
use Rattle.file_messages.specs.declared.job.Work.{Work}
use Rattle.file_messages.specs.declared.job.Work.TheVariants.{Load, Fetch, Place, Unload}
use Rattle.file_messages.specs.declared.job.WorkResult.{WorkResult}
use Rattle.file_messages.specs.declared.job.WorkResult.TheVariants.{Loaded}
use Rattle.file_messages.specs.declared.job.Completion.{Completion}
use Rattle.page_slots.specs.declared.answers.Access.{Access}
use Rattle.page_slots.specs.declared.answers.Access.TheVariants as accesses
use Rattle.page_slots.specs.Answers.{unload_answer}
use Rattle.token_table.specs.declared.record.Listed.{Listed}
use Rattle.token_table.specs.declared.answers.Issue.{Issue}
use Rattle.token_table.specs.declared.answers.Issue.TheVariants as issues
use Rattle.token_table.specs.Tables.{listed_at, issue_answer, with_record}
use Rattle.registration.specs.declared.answers.Register.{Register}
use Rattle.registration.specs.declared.answers.Register.TheVariants as registers
use Rattle.registration.specs.declared.answers.Release.{Release}
use Rattle.registration.specs.declared.answers.Release.TheVariants as releases
use Rattle.registration.specs.Regions.{RegionState, IsAmong, record_of, descriptor_of_page, next_token, register_answer, release_answer}
use Rattle.remote_access.specs.declared.access.Remote.TheVariants as remotes
use Rattle.remote_access.specs.Answers.{read_answer, write_answer}
use Rattle.page_workers.specs.declared.kept.Kept.{Kept}
use Rattle.page_workers.specs.declared.kept.Kept.TheVariants as keeps
use Rattle.page_workers.specs.declared.kept.Tried.{Tried}
use Rattle.page_workers.specs.declared.kept.Tried.TheVariants.{Finished, Begun, Refused}
use Rattle.page_workers.specs.Jobs.{IsDone}

abbrev pub load_job : ℕ → ℕ → Right → List ℕ → Job
load_job number page right bytes = record { number = number; work = Load page right bytes }

abbrev pub unload_job : ℕ → PageToken → Job
unload_job number token = record { number = number; work = Unload token }

abbrev pub fetch_job : ℕ → Descriptor → Job
fetch_job number d = record { number = number; work = Fetch d }

abbrev pub place_job : ℕ → Descriptor → List ℕ → Job
place_job number d bytes = record { number = number; work = Place d bytes }

-- how many bytes are copied out of a page by a job
abbrev pub room_of_work : Work → ℕ
room_of_work (Load page right bytes) = 0
room_of_work (Fetch d) = d.length
room_of_work (Place d bytes) = 0
room_of_work (Unload token) = PAGE_SIZE

-- and by what is left of one
abbrev pub room_of : Kept → ℕ
room_of (keeps.Fresh j) = room_of_work j.work
room_of (keeps.Loaded number token right len) = 0
room_of (keeps.Withdrawn number token) = PAGE_SIZE

-- ---- which jobs are fit for a region

-- the page is the region's, and the bytes fit it
pub record IsFitLoad (page : ℕ) (len : ℕ) (s : RegionState) : Type 0 where
  pub among : IsAmong page s
  pub some : 1 ≤ len
  pub within : len ≤ PAGE_SIZE

abbrev pub IsFit : Work → RegionState → Type 0
IsFit (Load page right bytes) s = IsFitLoad page (length bytes) s
IsFit (Fetch d) s = IsSound d
IsFit (Place d bytes) s = IsSound d × (length bytes ≡ d.length)
IsFit (Unload token) s = Unit {0}

-- ---- why a job is kept: it isn't fit, or the region's call answered otherwise than with success

-- a descriptor names at least one byte, and ends below 2^64
abbrev pub is_sound : Descriptor → Bool
is_sound d = nat_le 1 d.length && nat_lt (place_after d) (2 ^ 64)

-- the page is registered, or loaded without its record
abbrev pub Loads : Register → Type 0
Loads (registers.Registered d) = Unit {0}
Loads (registers.Unissued token issue) = Unit {0}
Loads (registers.Live token) = ⊥
Loads registers.Busy = ⊥
Loads registers.Spent = ⊥

-- the record is gone
abbrev pub Withdraws : Release → Type 0
Withdraws releases.Released = Unit {0}
Withdraws (releases.Withdrawn access) = Unit {0}
Withdraws releases.Unknown = ⊥
Withdraws releases.Stale = ⊥
Withdraws (releases.Busy readers) = ⊥
Withdraws (releases.Again seen found) = ⊥

abbrev pub Succeeds : Work → RegionState → Type 0
Succeeds (Load page right bytes) s = Loads (register_answer page (length bytes) s)
Succeeds (Fetch d) s = read_answer d s ≡ remotes.Done
Succeeds (Place d bytes) s = write_answer d s ≡ remotes.Done
Succeeds (Unload token) s = Withdraws (release_answer token s)

-- the call that would finish what is kept would answer otherwise than with success
abbrev pub IsRefused : Kept → RegionState → Type 0
IsRefused (keeps.Fresh j) s = IsFit j.work s → Succeeds j.work s → ⊥
IsRefused (keeps.Loaded number token right len) s = IsFitLoad token.page len s → issue_answer (listed_at token.page s.table) ≡ issues.Done → ⊥
IsRefused (keeps.Withdrawn number token) s = IsAmong token.page s → unload_answer token (page_at token.page s.pages) ≡ accesses.Done → ⊥

-- ---- what one try leaves

-- the records with that of so many bytes of the token's page, which nobody holds
abbrev pub issued : PageToken → Right → ℕ → RegionState → List (Option Listed)
issued token right len s = with_record s.table (record_of token right len) 0

-- the records without that of the token's page
abbrev pub withdrawn : PageToken → RegionState → List (Option Listed)
withdrawn token s = slice_set s.table token.page None

-- the records after a job that is finished at its first try: a Load issues that of its page, an Unload takes it away, and an access
-- leaves them as they were
abbrev pub records_after : Work → RegionState → List (Option Listed)
records_after (Load page right bytes) s = issued (next_token page s.pages) right (length bytes) s
records_after (Fetch d) s = s.table
records_after (Place d bytes) s = s.table
records_after (Unload token) s = withdrawn token s

-- the event is the next one of its page
abbrev pub IsStep : PageEvent → RegionState → RegionState → Type 0
IsStep e a b = IsPoolStep e a.pages b.pages

-- a job was finished, with this event
pub record Finishes (j : Job) (c : Completion) (line : Option LogLine) (a b : RegionState) : Type 0 where
  pub event : PageEvent
  pub done : IsDone j c event
  pub step : IsStep event a b
  pub told : line ≡ Some (logged_page event)

-- the call of the region that does a job of this kind answered with success
abbrev pub IsAnswered : Work → WorkResult → RegionState → Type 0
IsAnswered (Load page right bytes) (Loaded d) s = register_answer page (length bytes) s ≡ registers.Registered d
IsAnswered (Fetch d) result s = read_answer d s ≡ remotes.Done
IsAnswered (Place d bytes) result s = write_answer d s ≡ remotes.Done
IsAnswered (Unload token) result s = release_answer token s ≡ releases.Released
IsAnswered work result s = ⊥

-- the page of a load is loaded, and its record isn't issued
pub record LoadsAlone (j : Job) (number : ℕ) (token : PageToken) (right : Right) (len : ℕ) (line : Option LogLine) (a b : RegionState) : Type 0 where
  pub lawful : IsToken token
  pub bytes : List ℕ
  pub load_is : j ≡ load_job number token.page right bytes
  pub length_is : len ≡ length bytes
  pub step : IsStep (events.Load token right bytes) a b
  pub told : line ≡ Some (logged_page (events.Load token right bytes))
  pub issue : Issue
  pub answered : register_answer token.page len a ≡ registers.Unissued token issue
  pub records : b.table ≡ a.table
  pub refused : IsRefused (keeps.Loaded number token right len) b

-- the record of a page that was loaded before is issued
pub record Issues (number : ℕ) (token : PageToken) (right : Right) (len : ℕ) (c : Completion) (line : Option LogLine) (a b : RegionState) : Type 0 where
  pub says : c ≡ record { number = number; result = Loaded (descriptor_of_page token len) }
  pub answered : issue_answer (listed_at token.page a.table) ≡ issues.Done
  pub pages : b.pages ≡ a.pages
  pub records : b.table ≡ issued token right len a
  pub silent : line ≡ None

-- the record of an unload is gone, and its page is loaded still
pub record WithdrawsAlone (j : Job) (number : ℕ) (token : PageToken) (line : Option LogLine) (a b : RegionState) : Type 0 where
  pub unload_is : j ≡ unload_job number token
  pub pages : b.pages ≡ a.pages
  pub access : Access
  pub answered : release_answer token a ≡ releases.Withdrawn access
  pub records : b.table ≡ withdrawn token a
  pub silent : line ≡ None
  pub refused : IsRefused (keeps.Withdrawn number token) b

-- nothing was done
pub record IsUndone (kept : Kept) (line : Option LogLine) (a b : RegionState) : Type 0 where
  pub region : b ≡ a
  pub silent : line ≡ None
  pub refused : IsRefused kept a

abbrev pub HasTried : Kept → Tried → Option LogLine → RegionState → RegionState → Type 0
HasTried (keeps.Fresh j) (Finished c) line a b = Finishes j c line a b × IsAnswered j.work c.result a × (b.table ≡ records_after j.work a)
HasTried (keeps.Fresh j) (Begun (keeps.Loaded number token right len)) line a b = LoadsAlone j number token right len line a b
HasTried (keeps.Fresh j) (Begun (keeps.Withdrawn number token)) line a b = WithdrawsAlone j number token line a b
HasTried (keeps.Loaded number token right len) (Finished c) line a b = Issues number token right len c line a b
HasTried (keeps.Withdrawn number token) (Finished c) line a b =
    Finishes (unload_job number token) c line a b × (unload_answer token (page_at token.page a.pages) ≡ accesses.Done) × (b.table ≡ a.table)
HasTried kept Refused line a b = IsUndone kept line a b
HasTried kept tried line a b = ⊥
