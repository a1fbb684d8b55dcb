-- What the calls of a table tell. Others may change the table at any time, so an answer speaks of the one word that the call
-- read first.
use Rattle.std.specs.Prelude.{◌≡◌, ◌≢◌, ◌⊎◌, ℕ, ◌<◌, ◌≤◌}
use Rattle.atomic_table.specs.Seated.{TableId}
use Rattle.counted_slot.specs.Counting.{readers}
use Rattle.smbd_base.specs.Tokens.{PageToken}
use Rattle.shared_records.specs.declared.record.Record.{Record}
use Rattle.shared_records.specs.declared.answers.Issue.{Issue}
use Rattle.shared_records.specs.declared.answers.Issue.TheVariants as issues
use Rattle.shared_records.specs.declared.answers.Claimed.{Claimed}
use Rattle.shared_records.specs.declared.answers.Claimed.TheVariants as claims
use Rattle.shared_records.specs.declared.answers.Withdraw.{Withdraw}
use Rattle.shared_records.specs.declared.answers.Withdraw.TheVariants as withdrawals
use Rattle.shared_records.specs.declared.word.Shown.TheVariants.{Nothing, Writer}
use Rattle.shared_records.specs.Records.{IsInPage, HoldView}
use Rattle.shared_records.specs.Words.{IsShown, IsListed}

-- the most holds that a word counts
abbrev pub most_holds : ℕ
most_holds = 1073741823

-- the word was seen as one, and found as another
abbrev pub HasChanged : ℕ → ℕ → ℕ → Type 0
HasChanged word seen found = (seen ≡ word) × (found ≢ word)

-- what an answer of issuing a record of the token tells of the word
abbrev pub IssueTells : ℕ → PageToken → Issue → Type 0
IssueTells word token issues.Done = IsShown word Nothing
IssueTells word token (issues.Present other) = (other.page ≡ token.page) × IsListed word other.generation
IssueTells word token issues.Busy = IsShown word Writer
IssueTells word token (issues.Again seen found) = HasChanged word seen found × IsShown word Nothing

-- a hold of the token's record in this table
pub record IsHoldOf (token : PageToken) (table : TableId) (hold : HoldView) : Type 0 where
  pub asked : hold.entry.token ≡ token
  pub fits : IsInPage hold.entry
  pub name : hold.name ≡ table

-- a fact of the hold, where there is one
abbrev pub IfHeld : Claimed → (HoldView → Type 0) → Type 0
IfHeld (claims.Held hold) P = P hold
IfHeld claims.Unknown P = Unit {0}
IfHeld claims.Stale P = Unit {0}
IfHeld (claims.Again seen found) P = Unit {0}
IfHeld claims.Crowded P = Unit {0}

-- What an answer of a claim tells of the word. Stale is free: the word, or the record itself, showed another token or none; and
-- of a token that names no page no word was read.
abbrev pub ClaimTells : ℕ → PageToken → Claimed → Type 0
ClaimTells word token (claims.Held hold) = IsListed word token.generation × (readers word < most_holds)
ClaimTells word token claims.Unknown = Unit {0}
ClaimTells word token claims.Stale = Unit {0}
ClaimTells word token (claims.Again seen found) = HasChanged word seen found × IsListed word token.generation
ClaimTells word token claims.Crowded = IsListed word token.generation × (readers word ≡ most_holds)

-- a record that was taken out
pub record IsTaken (token : PageToken) (entry : Record) : Type 0 where
  pub asked : entry.token ≡ token
  pub fits : IsInPage entry

-- a fact of the record, where one was taken out
abbrev pub IfWithdrawn : Withdraw → (Record → Type 0) → Type 0
IfWithdrawn (withdrawals.Done entry) P = P entry
IfWithdrawn withdrawals.Unknown P = Unit {0}
IfWithdrawn withdrawals.Stale P = Unit {0}
IfWithdrawn (withdrawals.Busy holds) P = Unit {0}
IfWithdrawn (withdrawals.Again seen found) P = Unit {0}

-- What an answer of a withdrawal tells of the word. Stale and Unknown are free, as of a claim.
abbrev pub WithdrawTells : ℕ → PageToken → Withdraw → Type 0
WithdrawTells word token (withdrawals.Done entry) = IsListed word token.generation × (readers word ≡ 0)
WithdrawTells word token withdrawals.Unknown = Unit {0}
WithdrawTells word token withdrawals.Stale = Unit {0}
WithdrawTells word token (withdrawals.Busy holds) =
    (IsShown word Writer × (holds ≡ 0)) ⊎ (IsListed word token.generation × (holds ≡ readers word) × (1 ≤ holds))
WithdrawTells word token (withdrawals.Again seen found) = HasChanged word seen found × IsListed word token.generation × (readers word ≡ 0)
