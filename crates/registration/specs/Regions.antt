-- Pages with their records (this project's own).
use Rattle.std.specs.Prelude.{◌≡◌, ℕ, ◌+◌, ◌*◌, ◌<◌, Option, None, List, length, slice_set}
use Rattle.smbd_base.specs.declared.right.Right.{Right}
use Rattle.smbd_base.specs.declared.page_event.PageEvent.TheVariants as events
use Rattle.smbd_base.specs.Tokens.{PageToken, number_of, start_of_page}
use Rattle.smbd_base.specs.Pages.{PageState, page_at, IsPoolStep}
use Rattle.buffer_descriptor.specs.declared.descriptor.Descriptor.{Descriptor}
use Rattle.page_slots.specs.declared.answers.Load.{Load}
use Rattle.page_slots.specs.declared.answers.Load.TheVariants as loads
use Rattle.page_slots.specs.declared.answers.Access.{Access}
use Rattle.page_slots.specs.declared.answers.Access.TheVariants as accesses
use Rattle.page_slots.specs.Answers.{load_answer, unload_answer}
use Rattle.token_table.specs.declared.record.Record.{Record}
use Rattle.token_table.specs.declared.record.Listed.{Listed}
use Rattle.token_table.specs.declared.answers.Issue.{Issue}
use Rattle.token_table.specs.declared.answers.Issue.TheVariants as issues
use Rattle.token_table.specs.declared.answers.Withdraw.{Withdraw}
use Rattle.token_table.specs.declared.answers.Withdraw.TheVariants as withdrawals
use Rattle.token_table.specs.Tables.{listed_at, issue_answer, withdraw_answer, with_record}
use Rattle.registration.specs.declared.answers.Register.{Register}
use Rattle.registration.specs.declared.answers.Register.TheVariants as registers
use Rattle.registration.specs.declared.answers.Release.{Release}
use Rattle.registration.specs.declared.answers.Release.TheVariants as releases

-- the states of the pages, and the records that are listed at them
pub record RegionState : Type 0 where
  pub pages : List PageState
  pub table : List (Option Listed)

-- the region has this page
abbrev pub IsAmong : ℕ → RegionState → Type 0
IsAmong page s = page < length s.pages

-- the record of so many bytes from the start of the token's page on
abbrev pub record_of : PageToken → Right → ℕ → Record
record_of token right len = record { token = token; right = right; base = start_of_page token.page; length = len }

-- the descriptor of so many bytes from the start of the token's page on
abbrev pub descriptor_of_page : PageToken → ℕ → Descriptor
descriptor_of_page token len = record { offset = start_of_page token.page; token = number_of token; length = len }

-- the token of a page's next load
abbrev pub next_token : ℕ → List PageState → PageToken
next_token page pages = record { page = page; generation = (page_at page pages).generation + 1 }

abbrev pub answer_of_issue : PageToken → ℕ → Issue → Register
answer_of_issue token len issues.Done = registers.Registered (descriptor_of_page token len)
answer_of_issue token len (issues.Present other) = registers.Unissued token (issues.Present other)
answer_of_issue token len issues.Busy = registers.Unissued token issues.Busy
answer_of_issue token len (issues.Again seen found) = registers.Unissued token (issues.Again seen found)

-- a page that can be loaded is registered where no record is in the way
abbrev pub answer_of_load : ℕ → Option Listed → Load → Register
answer_of_load len place (loads.Loaded token) = answer_of_issue token len (issue_answer place)
answer_of_load len place (loads.Live token) = registers.Live token
answer_of_load len place loads.Busy = registers.Busy
answer_of_load len place loads.Spent = registers.Spent

abbrev pub register_answer : ℕ → ℕ → RegionState → Register
register_answer page len s = answer_of_load len (listed_at page s.table) (load_answer page (page_at page s.pages))

-- what each answer of a registration leaves
abbrev pub LeavesRegistered : ℕ → Right → List ℕ → RegionState → RegionState → Register → Type 0
LeavesRegistered page right bytes old new (registers.Registered descriptor) =
    IsPoolStep (events.Load (next_token page old.pages) right bytes) old.pages new.pages
    × (new.table ≡ with_record old.table (record_of (next_token page old.pages) right (length bytes)) 0)
LeavesRegistered page right bytes old new (registers.Live token) = new ≡ old
LeavesRegistered page right bytes old new registers.Busy = new ≡ old
LeavesRegistered page right bytes old new registers.Spent = new ≡ old
LeavesRegistered page right bytes old new (registers.Unissued token issue) =
    IsPoolStep (events.Load (next_token page old.pages) right bytes) old.pages new.pages × (new.table ≡ old.table)

abbrev pub answer_of_unload : Access → Release
answer_of_unload accesses.Done = releases.Released
answer_of_unload accesses.Stale = releases.Withdrawn accesses.Stale
answer_of_unload accesses.WrongRight = releases.Withdrawn accesses.WrongRight
answer_of_unload accesses.Worn = releases.Withdrawn accesses.Worn
answer_of_unload accesses.Busy = releases.Withdrawn accesses.Busy

-- a page whose record can be withdrawn is released where it is loaded under the token
abbrev pub answer_of_withdraw : Access → Withdraw → Release
answer_of_withdraw access (withdrawals.Done entry) = answer_of_unload access
answer_of_withdraw access withdrawals.Unknown = releases.Unknown
answer_of_withdraw access withdrawals.Stale = releases.Stale
answer_of_withdraw access (withdrawals.Busy readers) = releases.Busy readers
answer_of_withdraw access (withdrawals.Again seen found) = releases.Again seen found

abbrev pub release_answer : PageToken → RegionState → Release
release_answer token s = answer_of_withdraw (unload_answer token (page_at token.page s.pages)) (withdraw_answer token s.table)

-- what each answer of a release leaves; out is the buffer that it was lent
abbrev pub LeavesReleased : PageToken → RegionState → RegionState → List ℕ → List ℕ → Release → Type 0
LeavesReleased token old new out got releases.Released =
    IsPoolStep (events.Unload token got) old.pages new.pages × (new.table ≡ slice_set old.table token.page None)
LeavesReleased token old new out got (releases.Withdrawn access) =
    (new.pages ≡ old.pages) × (new.table ≡ slice_set old.table token.page None) × (got ≡ out)
LeavesReleased token old new out got releases.Unknown = (new ≡ old) × (got ≡ out)
LeavesReleased token old new out got releases.Stale = (new ≡ old) × (got ≡ out)
LeavesReleased token old new out got (releases.Busy readers) = (new ≡ old) × (got ≡ out)
LeavesReleased token old new out got (releases.Again seen found) = (new ≡ old) × (got ≡ out)
