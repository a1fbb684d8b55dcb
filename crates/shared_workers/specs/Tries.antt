-- One try of a job by a worker that shares its region: what it leaves of the job, and what it told the worker's pass (this project's own).
use Rattle.std.specs.Prelude.{◌≡◌, ◌≢◌, ℕ, ◌<◌, ◌≤◌, Option, Some, None, List, length}
use Rattle.smbd_base.specs.declared.token.TheConstants.{PAGE_SIZE}
use Rattle.smbd_base.specs.declared.right.Right.{Right}
use Rattle.smbd_base.specs.declared.page_event.PageEvent.{PageEvent}
use Rattle.smbd_base.specs.declared.page_event.PageEvent.TheVariants as events
use Rattle.smbd_base.specs.Tokens.{PageToken, IsToken}
use Rattle.buffer_descriptor.specs.declared.descriptor.Descriptor.{Descriptor}
use Rattle.buffer_descriptor.specs.Descriptors.{IsSound}
use Rattle.event_log.specs.declared.log_line.LogLine.{LogLine}
use Rattle.event_log.specs.Lines.{logged_page}
use Rattle.file_messages.specs.declared.job.Job.{Job}
use Rattle.file_messages.specs.declared.job.Work.{Work}
use Rattle.file_messages.specs.declared.job.Work.TheVariants.{Load, Fetch, Place, Unload}
use Rattle.file_messages.specs.declared.job.WorkResult.{WorkResult}
use Rattle.file_messages.specs.declared.job.WorkResult.TheVariants.{Loaded, Fetched, Placed, Unloaded}
use Rattle.file_messages.specs.declared.job.Completion.{Completion}
use Rattle.shared_pages.specs.declared.view.Opening.{Opening}
use Rattle.shared_pages.specs.declared.view.Sight.{Sight}
use Rattle.shared_pages.specs.declared.answers.Access.{Access}
use Rattle.shared_pages.specs.declared.answers.Access.TheVariants as accesses
use Rattle.shared_pages.specs.Answers.{unload_answer}
use Rattle.shared_pages.specs.Calls.{AccessTells, MadeAsMuch, Makes}
use Rattle.shared_records.specs.declared.answers.Issue.{Issue}
use Rattle.shared_records.specs.declared.answers.Issue.TheVariants as issues
use Rattle.shared_records.specs.Calls.{IssueTells}
use Rattle.shared_region.specs.declared.answers.Register.{Register}
use Rattle.shared_region.specs.declared.answers.Register.TheVariants as registers
use Rattle.shared_region.specs.declared.answers.Release.{Release}
use Rattle.shared_region.specs.declared.answers.Release.TheVariants as releases
use Rattle.shared_region.specs.declared.answers.Remote.{Remote}
use Rattle.shared_region.specs.declared.answers.Remote.TheVariants as remotes
use Rattle.shared_region.specs.Regions.{descriptor_of_page, PageTells, RegisterTells, ReleaseTells}
use Rattle.shared_region.specs.Accesses.{Reads, Writes, ReadTells, WriteTells}
use Rattle.page_workers.specs.declared.kept.Kept.{Kept}
use Rattle.page_workers.specs.declared.kept.Kept.TheVariants as keeps
use Rattle.page_workers.specs.declared.kept.Tried.{Tried}
use Rattle.page_workers.specs.declared.kept.Tried.TheVariants.{Finished, Begun, Refused}
use Rattle.page_workers.specs.Jobs.{IsDone}
use Rattle.page_workers.specs.Tries.{load_job, unload_job}

-- ---- which jobs are fit for a region of so many pages

-- the page is the region's, and so many bytes fit it
pub record IsFitLoad (page len pages : ℕ) : Type 0 where
  pub among : page < pages
  pub some : 1 ≤ len
  pub within : len ≤ PAGE_SIZE

abbrev pub IsFitWork : Work → ℕ → Type 0
IsFitWork (Load page right bytes) pages = IsFitLoad page (length bytes) pages
IsFitWork (Fetch d) pages = IsSound d
IsFitWork (Place d bytes) pages = IsSound d × (length bytes ≡ d.length)
IsFitWork (Unload token) pages = Unit {0}

-- and what is left of one
abbrev pub IsFit : Kept → ℕ → Type 0
IsFit (keeps.Fresh j) pages = IsFitWork j.work pages
IsFit (keeps.Loaded number token right len) pages = IsFitLoad token.page len pages
IsFit (keeps.Withdrawn number token) pages = token.page < pages

-- ---- why nothing was done of a job that is fit: the region's call answered otherwise than with success

-- no page was loaded
abbrev pub LoadsNone : Register → Type 0
LoadsNone (registers.Registered d) = ⊥
LoadsNone (registers.Unissued token issue) = ⊥
LoadsNone (registers.Live token) = Unit {0}
LoadsNone registers.Busy = Unit {0}
LoadsNone registers.Spent = Unit {0}

-- no record was withdrawn
abbrev pub WithdrawsNone : Release → Type 0
WithdrawsNone releases.Released = ⊥
WithdrawsNone (releases.Withdrawn access) = ⊥
WithdrawsNone releases.Unknown = Unit {0}
WithdrawsNone releases.Stale = Unit {0}
WithdrawsNone (releases.Busy readers) = Unit {0}
WithdrawsNone (releases.Again seen found) = Unit {0}

pub record LoadRefused (pool : Opening) (page : ℕ) (right : Right) (bytes : List ℕ) (old new : Sight) : Type 0 where
  pub answer : Register
  pub refuses : LoadsNone answer
  pub tells : RegisterTells pool.first page right bytes old new answer

pub record FetchRefused (pool : Opening) (d : Descriptor) (old new : Sight) : Type 0 where
  pub answer : Remote
  pub refuses : answer ≢ remotes.Done
  pub room : List ℕ
  pub tells : ReadTells pool.first pool.pages d room old new answer

pub record PlaceRefused (pool : Opening) (d : Descriptor) (bytes : List ℕ) (old new : Sight) : Type 0 where
  pub answer : Remote
  pub refuses : answer ≢ remotes.Done
  pub tells : WriteTells pool.first pool.pages d bytes old new answer

pub record UnloadRefused (pool : Opening) (token : PageToken) (old new : Sight) : Type 0 where
  pub answer : Release
  pub refuses : WithdrawsNone answer
  pub out : List ℕ
  pub room : List ℕ
  pub tells : ReleaseTells pool.first token out room old new answer

-- the record of a loaded page wasn't issued
pub record IssueRefused (token : PageToken) (old new : Sight) : Type 0 where
  pub answer : Issue
  pub refuses : answer ≢ issues.Done
  pub word : ℕ
  pub tells : IssueTells word token answer
  pub same : new ≡ old

-- the page of a withdrawn record wasn't unloaded
pub record PageRefused (pool : Opening) (token : PageToken) (old new : Sight) : Type 0 where
  pub answer : Access
  pub refuses : answer ≢ accesses.Done
  pub room : List ℕ
  pub tells : PageTells pool.first token.page (λ s. events.Unload token room) (unload_answer token) old new answer

abbrev pub WorkRefused : Opening → Work → Sight → Sight → Type 0
WorkRefused pool (Load page right bytes) old new = LoadRefused pool page right bytes old new
WorkRefused pool (Fetch d) old new = FetchRefused pool d old new
WorkRefused pool (Place d bytes) old new = PlaceRefused pool d bytes old new
WorkRefused pool (Unload token) old new = UnloadRefused pool token old new

abbrev pub IsRefused : Opening → Kept → Sight → Sight → Type 0
IsRefused pool (keeps.Fresh j) old new = WorkRefused pool j.work old new
IsRefused pool (keeps.Loaded number token right len) old new = IssueRefused token old new
IsRefused pool (keeps.Withdrawn number token) old new = PageRefused pool token old new

-- ---- what the region's answer makes of a job

-- a load is finished where the record of its page was issued
abbrev pub loaded_as : Register → ℕ → Right → ℕ → Tried
loaded_as (registers.Registered d) number right len = Finished (record { number = number; result = Loaded d })
loaded_as (registers.Unissued token issue) number right len = Begun (keeps.Loaded number token right len)
loaded_as (registers.Live token) number right len = Refused
loaded_as registers.Busy number right len = Refused
loaded_as registers.Spent number right len = Refused

-- and where it is issued later
abbrev pub issued_as : Issue → ℕ → PageToken → ℕ → Tried
issued_as issues.Done number token len = Finished (record { number = number; result = Loaded (descriptor_of_page token len) })
issued_as (issues.Present other) number token len = Refused
issued_as issues.Busy number token len = Refused
issued_as (issues.Again seen found) number token len = Refused

-- ---- what one try leaves

-- the pass made this event alone
pub record MadeOne (event : PageEvent) (old new : Sight) : Type 0 where
  pub number : new.number ≡ old.number
  pub made : Makes event old new

-- a job was finished, with this event
pub record Finishes (j : Job) (c : Completion) (line : Option LogLine) (old new : Sight) : Type 0 where
  pub event : PageEvent
  pub done : IsDone j c event
  pub makes : MadeOne event old new
  pub told : line ≡ Some (logged_page event)

-- The call of the region that does a job of this kind answered with success. It tells that the event was the next step of its page's
-- life.
abbrev pub IsAnswered : Opening → Work → WorkResult → Sight → Sight → Type 0
IsAnswered pool (Load page right bytes) (Loaded d) old new = RegisterTells pool.first page right bytes old new (registers.Registered d)
IsAnswered pool (Fetch d) (Fetched bytes) old new = Reads pool.first pool.pages d bytes old new
IsAnswered pool (Place d bytes) Placed old new = Writes pool.first pool.pages d bytes old new
IsAnswered pool (Unload token) (Unloaded bytes) old new =
    AccessTells pool.first token.page (λ s. events.Unload token bytes) (unload_answer token) old new accesses.Done
IsAnswered pool work result old new = ⊥

-- the page of a load is loaded, and its record isn't issued
pub record LoadsAlone (pool : Opening) (j : Job) (number : ℕ) (token : PageToken) (right : Right) (len : ℕ) (line : Option LogLine) (old new : Sight) : Type 0 where
  pub lawful : IsToken token
  pub bytes : List ℕ
  pub load_is : j ≡ load_job number token.page right bytes
  pub length_is : len ≡ length bytes
  pub makes : MadeOne (events.Load token right bytes) old new
  pub told : line ≡ Some (logged_page (events.Load token right bytes))
  pub issue : Issue
  pub answered : RegisterTells pool.first token.page right bytes old new (registers.Unissued token issue)

-- the record of a page that was loaded before is issued
pub record Issues (number : ℕ) (token : PageToken) (len : ℕ) (c : Completion) (line : Option LogLine) (old new : Sight) : Type 0 where
  pub says : c ≡ record { number = number; result = Loaded (descriptor_of_page token len) }
  pub word : ℕ
  pub answered : IssueTells word token issues.Done
  pub same : new ≡ old
  pub silent : line ≡ None

-- the record of an unload is gone, and its page is still to be unloaded
pub record WithdrawsAlone (pool : Opening) (j : Job) (number : ℕ) (token : PageToken) (line : Option LogLine) (old new : Sight) : Type 0 where
  pub unload_is : j ≡ unload_job number token
  pub access : Access
  pub out : List ℕ
  pub room : List ℕ
  pub answered : ReleaseTells pool.first token out room old new (releases.Withdrawn access)
  pub made : MadeAsMuch old new
  pub silent : line ≡ None

-- nothing was done: the job isn't fit, and the region wasn't asked; or it refused the job
pub record IsUndone (pool : Opening) (kept : Kept) (line : Option LogLine) (old new : Sight) : Type 0 where
  pub made : MadeAsMuch old new
  pub silent : line ≡ None
  pub unfit : (IsFit kept pool.pages → ⊥) → new ≡ old
  pub refused : IsFit kept pool.pages → IsRefused pool kept old new

abbrev pub HasTried : Opening → Kept → Tried → Option LogLine → Sight → Sight → Type 0
HasTried pool (keeps.Fresh j) (Finished c) line old new = Finishes j c line old new × IsAnswered pool j.work c.result old new
HasTried pool (keeps.Fresh j) (Begun (keeps.Loaded number token right len)) line old new = LoadsAlone pool j number token right len line old new
HasTried pool (keeps.Fresh j) (Begun (keeps.Withdrawn number token)) line old new = WithdrawsAlone pool j number token line old new
HasTried pool (keeps.Loaded number token right len) (Finished c) line old new = Issues number token len c line old new
HasTried pool (keeps.Withdrawn number token) (Finished c) line old new =
    Finishes (unload_job number token) c line old new × IsAnswered pool (Unload token) c.result old new
HasTried pool kept Refused line old new = IsUndone pool kept line old new
HasTried pool kept tried line old new = ⊥
