-- What a remote access tells (this project's own). The refusals stand in the order in which they are looked for.
use Rattle.std.specs.Prelude.{◌≡◌, ◌⊎◌, ℕ, ◌<◌, nat_lt, Option, Some, None, List, if◌then◌else◌}
use Rattle.atomic_table.specs.Seated.{TableId}
use Rattle.smbd_base.specs.declared.right.Right.TheVariants as right
use Rattle.smbd_base.specs.declared.page_event.PageEvent.TheVariants as events
use Rattle.smbd_base.specs.Tokens.{PageToken, token_of, number_of}
use Rattle.buffer_descriptor.specs.declared.descriptor.Descriptor.{Descriptor}
use Rattle.shared_pages.specs.declared.view.Sight.{Sight}
use Rattle.shared_pages.specs.declared.answers.Access.{Access}
use Rattle.shared_pages.specs.declared.answers.Access.TheVariants as accesses
use Rattle.shared_pages.specs.Answers.{fetch_answer, place_answer, places_had}
use Rattle.shared_pages.specs.Calls.{AccessTells, Makes}
use Rattle.shared_records.specs.declared.record.Record.{Record}
use Rattle.shared_records.specs.declared.answers.Claimed.TheVariants as claims
use Rattle.shared_records.specs.Records.{IsInPage, HoldView}
use Rattle.shared_records.specs.Calls.{ClaimTells}
use Rattle.shared_region.specs.Regions.{PageTells}
use Rattle.shared_region.specs.Covers.{Covers, place_in_page, record_refusal}
use Rattle.shared_region.specs.declared.answers.Remote.{Remote}
use Rattle.shared_region.specs.declared.answers.Remote.TheVariants.{Done, Unknown, Stale, WrongRight, Outside, Worn, Crowded, Busy, Again}

abbrev pub below : ℕ → Option PageToken → Option PageToken
below pages None = None
below pages (Some token) = if nat_lt token.page pages then Some token else None

-- the descriptor's token, where it names one of so many pages
abbrev pub token_known : ℕ → Descriptor → Option PageToken
token_known pages descriptor = below pages (token_of descriptor.token)

-- what the page answered
abbrev pub of_access : Access → Remote
of_access accesses.Done = Done
of_access accesses.Stale = Stale
of_access accesses.WrongRight = WrongRight
of_access accesses.Worn = Worn
of_access accesses.Busy = Busy

-- Why no record of the token is held: as the claim answered.
abbrev pub IsUnheld : PageToken → Remote → Type 0
IsUnheld token Done = ⊥
IsUnheld token Unknown = ⊥
IsUnheld token Stale = Unit {0}
IsUnheld token WrongRight = ⊥
IsUnheld token Outside = ⊥
IsUnheld token Worn = ⊥
IsUnheld token Crowded = (word : ℕ) × ClaimTells word token claims.Crowded
IsUnheld token Busy = ⊥
IsUnheld token (Again seen found) = (word : ℕ) × ClaimTells word token (claims.Again seen found)

-- why no record is held: the descriptor's token names no page, or as the claim answered
abbrev pub IsRefusal : Option PageToken → Remote → Type 0
IsRefusal None remote = remote ≡ Unknown
IsRefusal (Some token) remote = IsUnheld token remote

-- a hold of the record that the descriptor's token names, in this table
pub record HoldsRecord (pages : ℕ) (table : TableId) (descriptor : Descriptor) (hold : HoldView) : Type 0 where
  pub known : token_known pages descriptor ≡ Some hold.entry.token
  pub number : number_of hold.entry.token ≡ descriptor.token
  pub few : hold.entry.token.page < 256
  pub among : hold.entry.token.page < pages
  pub fits : IsInPage hold.entry
  pub name : hold.name ≡ table

-- What a read under a held record tells: where the record refuses nothing is done, and else it is a fetch of the token's page.
abbrev pub ReadsUnder : ℕ → Record → Descriptor → List ℕ → Sight → Sight → Option Remote → Remote → Type 0
ReadsUnder first entry descriptor got old new (Some refusal) remote = (remote ≡ refusal) × (new ≡ old)
ReadsUnder first entry descriptor got old new None remote = Covers entry right.Fetch descriptor × ((access : Access) × (remote ≡ of_access access)
    × PageTells first entry.token.page (λ s. events.Fetch entry.token (place_in_page entry.token.page descriptor) got) (fetch_answer entry.token) old new access)

-- The same of a write, which is a place into the token's page.
abbrev pub WritesUnder : ℕ → Record → Descriptor → List ℕ → Sight → Sight → Option Remote → Remote → Type 0
WritesUnder first entry descriptor bytes old new (Some refusal) remote = (remote ≡ refusal) × (new ≡ old)
WritesUnder first entry descriptor bytes old new None remote = Covers entry right.Place descriptor × ((access : Access) × (remote ≡ of_access access)
    × PageTells first entry.token.page (λ s. events.Place entry.token (places_had s.loaded) (place_in_page entry.token.page descriptor) bytes) (place_answer entry.token) old new access)

-- a page was read under a record that covers the descriptor: the pass sees the page's life up to the read, which goes on with
-- the fetch
pub record ReadsPage (first : ℕ) (entry : Record) (descriptor : Descriptor) (got : List ℕ) (old new : Sight) : Type 0 where
  pub covers : Covers entry right.Fetch descriptor
  pub tells : AccessTells first entry.token.page (λ s. events.Fetch entry.token (place_in_page entry.token.page descriptor) got) (fetch_answer entry.token) old new accesses.Done

-- the same of a write, and the place
pub record WritesPage (first : ℕ) (entry : Record) (descriptor : Descriptor) (bytes : List ℕ) (old new : Sight) : Type 0 where
  pub covers : Covers entry right.Place descriptor
  pub tells : AccessTells first entry.token.page (λ s. events.Place entry.token (places_had s.loaded) (place_in_page entry.token.page descriptor) bytes) (place_answer entry.token) old new accesses.Done

-- a remote read that was done
pub record Reads (first pages : ℕ) (descriptor : Descriptor) (got : List ℕ) (old new : Sight) : Type 0 where
  pub entry : Record
  pub known : token_known pages descriptor ≡ Some entry.token
  pub fits : IsInPage entry
  pub under : ReadsPage first entry descriptor got old new

-- a remote write that was done
pub record Writes (first pages : ℕ) (descriptor : Descriptor) (bytes : List ℕ) (old new : Sight) : Type 0 where
  pub entry : Record
  pub known : token_known pages descriptor ≡ Some entry.token
  pub fits : IsInPage entry
  pub under : WritesPage first entry descriptor bytes old new

-- a read that held a record: it was of the descriptor's token and in its page, and decided before the page was asked
pub record ReadsHeld (first pages : ℕ) (descriptor : Descriptor) (got : List ℕ) (old new : Sight) (remote : Remote) : Type 0 where
  pub entry : Record
  pub known : token_known pages descriptor ≡ Some entry.token
  pub fits : IsInPage entry
  pub under : ReadsUnder first entry descriptor got old new (record_refusal entry right.Fetch descriptor) remote

pub record WritesHeld (first pages : ℕ) (descriptor : Descriptor) (bytes : List ℕ) (old new : Sight) (remote : Remote) : Type 0 where
  pub entry : Record
  pub known : token_known pages descriptor ≡ Some entry.token
  pub fits : IsInPage entry
  pub under : WritesUnder first entry descriptor bytes old new (record_refusal entry right.Place descriptor) remote

-- nothing was done, since no record was held
abbrev pub IsLeft : ℕ → Descriptor → Sight → Sight → Remote → Type 0
IsLeft pages descriptor old new remote = IsRefusal (token_known pages descriptor) remote × (new ≡ old)

-- what a remote read tells
abbrev pub ReadTells : ℕ → ℕ → Descriptor → List ℕ → Sight → Sight → Remote → Type 0
ReadTells first pages descriptor got old new remote =
    IsLeft pages descriptor old new remote ⊎ ReadsHeld first pages descriptor got old new remote

-- what a remote write tells
abbrev pub WriteTells : ℕ → ℕ → Descriptor → List ℕ → Sight → Sight → Remote → Type 0
WriteTells first pages descriptor bytes old new remote =
    IsLeft pages descriptor old new remote ⊎ WritesHeld first pages descriptor bytes old new remote

-- a write that was done made a place of this order, by the descriptor's token and at the descriptor's place in its page
pub record WritesInOrder (pages order : ℕ) (descriptor : Descriptor) (bytes : List ℕ) (old new : Sight) : Type 0 where
  pub token : PageToken
  pub known : token_known pages descriptor ≡ Some token
  pub makes : Makes (events.Place token order (place_in_page token.page descriptor) bytes) old new
