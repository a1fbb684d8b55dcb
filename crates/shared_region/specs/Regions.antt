-- What the calls of a region tell (this project's own).
use Rattle.std.specs.Prelude.{◌≡◌, ◌≢◌, ℕ, List, length}
use Rattle.smbd_base.specs.declared.right.Right.{Right}
use Rattle.smbd_base.specs.declared.page_event.PageEvent.{PageEvent}
use Rattle.smbd_base.specs.declared.page_event.PageEvent.TheVariants as events
use Rattle.smbd_base.specs.Tokens.{PageToken, number_of, start_of_page}
use Rattle.smbd_base.specs.Pages.{PageState}
use Rattle.buffer_descriptor.specs.declared.descriptor.Descriptor.{Descriptor}
use Rattle.shared_pages.specs.declared.view.Sight.{Sight}
use Rattle.shared_pages.specs.declared.answers.Load.TheVariants as loads
use Rattle.shared_pages.specs.declared.answers.Access.{Access}
use Rattle.shared_pages.specs.declared.answers.Access.TheVariants as accesses
use Rattle.shared_pages.specs.Answers.{unload_answer}
use Rattle.shared_pages.specs.Rule.{refused}
use Rattle.shared_pages.specs.Calls.{LoadTells, AccessTells}
use Rattle.shared_records.specs.declared.record.Record.{Record}
use Rattle.shared_records.specs.declared.answers.Issue.TheVariants as issues
use Rattle.shared_records.specs.declared.answers.Withdraw.TheVariants as withdrawals
use Rattle.shared_records.specs.Calls.{IssueTells, WithdrawTells}
use Rattle.shared_region.specs.declared.answers.Register.{Register}
use Rattle.shared_region.specs.declared.answers.Register.TheVariants as registers
use Rattle.shared_region.specs.declared.answers.Release.{Release}
use Rattle.shared_region.specs.declared.answers.Release.TheVariants as releases

-- the record of so many bytes from the start of the token's page on
abbrev pub record_of : PageToken → Right → ℕ → Record
record_of token right len = record { token = token; right = right; base = start_of_page token.page; length = len }

-- the descriptor of so many bytes from the start of the token's page on
abbrev pub descriptor_of_page : PageToken → ℕ → Descriptor
descriptor_of_page token len = record { offset = start_of_page token.page; token = number_of token; length = len }

-- what an access of a page tells its pass, whatever it answers
abbrev pub PageTells : ℕ → ℕ → (PageState → PageEvent) → (PageState → Access) → Sight → Sight → Access → Type 0
PageTells first page event answer_at old new access =
    (access ≡ accesses.Busy → new ≡ refused old) × (access ≢ accesses.Busy → AccessTells first page event answer_at old new access)

-- What a registration tells: what the load told, and of a page that was loaded the descriptor of its bytes, or why its record
-- wasn't issued.
abbrev pub RegisterTells : ℕ → ℕ → Right → List ℕ → Sight → Sight → Register → Type 0
RegisterTells first page right bytes old new (registers.Registered descriptor) = (token : PageToken)
    × LoadTells first page right bytes old new (loads.Loaded token) × (descriptor ≡ descriptor_of_page token (length bytes))
RegisterTells first page right bytes old new (registers.Live token) = LoadTells first page right bytes old new (loads.Live token)
RegisterTells first page right bytes old new registers.Busy = new ≡ refused old
RegisterTells first page right bytes old new registers.Spent = LoadTells first page right bytes old new loads.Spent
RegisterTells first page right bytes old new (registers.Unissued token issue) =
    LoadTells first page right bytes old new (loads.Loaded token) × (issue ≢ issues.Done) × ((word : ℕ) × IssueTells word token issue)

-- What a release tells: where the record was withdrawn what the unload told, and else that nothing was done, as the
-- withdrawal answered. out is the buffer as it was lent, and got as it came back.
abbrev pub ReleaseTells : ℕ → PageToken → List ℕ → List ℕ → Sight → Sight → Release → Type 0
ReleaseTells first token out got old new releases.Released =
    AccessTells first token.page (λ s. events.Unload token got) (unload_answer token) old new accesses.Done
ReleaseTells first token out got old new (releases.Withdrawn access) = (access ≢ accesses.Done) × (got ≡ out)
    × PageTells first token.page (λ s. events.Unload token got) (unload_answer token) old new access
ReleaseTells first token out got old new releases.Unknown = (new ≡ old) × (got ≡ out)
ReleaseTells first token out got old new releases.Stale = (new ≡ old) × (got ≡ out)
ReleaseTells first token out got old new (releases.Busy readers) = (new ≡ old) × (got ≡ out)
    × ((word : ℕ) × WithdrawTells word token (withdrawals.Busy readers))
ReleaseTells first token out got old new (releases.Again seen found) = (new ≡ old) × (got ≡ out)
    × ((word : ℕ) × WithdrawTells word token (withdrawals.Again seen found))
