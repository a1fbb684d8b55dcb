-- What a table of records answers, by what is listed at the token's page (this project's own).
use Rattle.std.specs.Prelude.{◌≡◌, ℕ, ◌+◌, ◌-◌, ◌==◌, ◌<◌, ◌≤◌, nat_le, Option, Some, None, List, length, slice_index_or, slice_set, if◌then◌else◌}
use Rattle.smbd_base.specs.Tokens.{PageToken}
use Rattle.smbd_base.specs.PagesFit.{is_token}
use Rattle.token_table.specs.declared.record.Record.{Record}
use Rattle.token_table.specs.declared.record.Listed.{Listed}
use Rattle.token_table.specs.declared.answers.Issue.{Issue}
use Rattle.token_table.specs.declared.answers.Issue.TheVariants as issues
use Rattle.token_table.specs.declared.answers.Claimed.{Claimed}
use Rattle.token_table.specs.declared.answers.Claimed.TheVariants as claims
use Rattle.token_table.specs.declared.answers.Withdraw.{Withdraw}
use Rattle.token_table.specs.declared.answers.Withdraw.TheVariants as withdrawals

-- what is listed at a page
abbrev pub listed_at : ℕ → List (Option Listed) → Option Listed
listed_at page table = slice_index_or table page None

-- a listed record, where it is this token's
abbrev pub of_token : PageToken → Option Listed → Option Listed
of_token token None = None
of_token token (Some listed) = if is_token listed.entry.token token then Some listed else None

-- what is listed under a token
abbrev pub listed_under : PageToken → List (Option Listed) → Option Listed
listed_under token table = of_token token (listed_at token.page table)

-- a record can be issued where nothing is listed
abbrev pub issue_answer : Option Listed → Issue
issue_answer None = issues.Done
issue_answer (Some listed) = issues.Present listed.entry.token

-- a listed record is held unless its holds are at their last number
abbrev pub claim_listed : Option Listed → Claimed
claim_listed None = claims.Stale
claim_listed (Some listed) = if listed.holds == 4294967295 then claims.Crowded else claims.Held listed.entry

abbrev pub claim_answer : PageToken → List (Option Listed) → Claimed
claim_answer token table =
    if nat_le (length table) token.page then claims.Unknown else claim_listed (listed_under token table)

-- a listed record is withdrawn unless it is held
abbrev pub withdraw_listed : Option Listed → Withdraw
withdraw_listed None = withdrawals.Stale
withdraw_listed (Some listed) =
    if listed.holds == 0 then withdrawals.Done listed.entry else withdrawals.Busy listed.holds

abbrev pub withdraw_answer : PageToken → List (Option Listed) → Withdraw
withdraw_answer token table =
    if nat_le (length table) token.page then withdrawals.Unknown else withdraw_listed (listed_under token table)

-- a fact of the record, where one is held
abbrev pub IfHeld : Claimed → (Record → Type 0) → Type 0
IfHeld (claims.Held entry) P = P entry
IfHeld claims.Unknown P = Unit {0}
IfHeld claims.Stale P = Unit {0}
IfHeld (claims.Again seen found) P = Unit {0}
IfHeld claims.Crowded P = Unit {0}

-- a fact where none is held
abbrev pub OnUnheld : Claimed → Type 0 → Type 0
OnUnheld (claims.Held entry) P = Unit {0}
OnUnheld claims.Unknown P = P
OnUnheld claims.Stale P = P
OnUnheld (claims.Again seen found) P = P
OnUnheld claims.Crowded P = P

-- a fact of the record, where one is withdrawn
abbrev pub IfWithdrawn : Withdraw → (Record → Type 0) → Type 0
IfWithdrawn (withdrawals.Done entry) P = P entry
IfWithdrawn withdrawals.Unknown P = Unit {0}
IfWithdrawn withdrawals.Stale P = Unit {0}
IfWithdrawn (withdrawals.Busy readers) P = Unit {0}
IfWithdrawn (withdrawals.Again seen found) P = Unit {0}

-- a fact where none is withdrawn
abbrev pub OnKept : Withdraw → Type 0 → Type 0
OnKept (withdrawals.Done entry) P = Unit {0}
OnKept withdrawals.Unknown P = P
OnKept withdrawals.Stale P = P
OnKept (withdrawals.Busy readers) P = P
OnKept (withdrawals.Again seen found) P = P

-- how many hold what is listed
abbrev pub holds_on : Option Listed → ℕ
holds_on None = 0
holds_on (Some listed) = listed.holds

-- the table with this record listed at its page, held by so many
abbrev pub with_record : List (Option Listed) → Record → ℕ → List (Option Listed)
with_record table entry holds = slice_set table entry.token.page (Some (record { entry = entry; holds = holds }))

-- the record is listed, and held at least once
pub record IsHeld (entry : Record) (table : List (Option Listed)) : Type 0 where
  pub among : entry.token.page < length table
  pub listed : listed_at entry.token.page table ≡ Some (record { entry = entry; holds = holds_on (listed_at entry.token.page table) })
  pub some : 1 ≤ holds_on (listed_at entry.token.page table)

-- a record that is held once more, until a leave gives the table back as it was
pub record TakesHold (token : PageToken) (entry : Record) (old new : List (Option Listed)) : Type 0 where
  pub asked : entry.token ≡ token
  pub held : IsHeld entry new
  pub more : new ≡ with_record old entry (holds_on (listed_at entry.token.page old) + 1)
  pub back : with_record new entry (holds_on (listed_at entry.token.page new) - 1) ≡ old

-- a record that is taken out of the table
pub record TakesOut (token : PageToken) (entry : Record) (old new : List (Option Listed)) : Type 0 where
  pub asked : entry.token ≡ token
  pub among : token.page < length old
  pub gone : new ≡ slice_set old token.page None
