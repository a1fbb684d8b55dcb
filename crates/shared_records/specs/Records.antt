-- Records of registered pages (this project's own).
use Rattle.std.specs.Prelude.{◌≡◌, ℕ, ◌+◌, ◌≤◌, Option, Some, None}
use Rattle.atomic_table.specs.Seated.{TableId}
use Rattle.smbd_base.specs.declared.token.TheConstants.{PAGE_SIZE}
use Rattle.smbd_base.specs.declared.right.Right.TheVariants as right
use Rattle.smbd_base.specs.Tokens.{start_of_page}
use Rattle.shared_records.specs.declared.record.Record.{Record}

-- a record's interval lies in its token's page
pub record IsInPage (entry : Record) : Type 0 where
  pub begins : start_of_page entry.token.page ≤ entry.base
  pub ends : entry.base + entry.length ≤ start_of_page entry.token.page + PAGE_SIZE

-- a record fits its place where its token names the place's page, and its interval lies in it
abbrev pub FitsPage : ℕ → Record → Type 0
FitsPage page entry = (entry.token.page ≡ page) × IsInPage entry

-- a table: how many pages it has records of, and what no other table shares with it
pub record TableView : Type 0 where
  pub count : ℕ
  pub name : TableId

-- a record that is held, and the table of the hold
pub record HoldView : Type 0 where
  pub entry : Record
  pub name : TableId

-- the record that a reader's claim shows
abbrev pub record_shown : Option Record → Record
record_shown (Some entry) = entry
record_shown None = record { token = record { page = 0; generation = 1 }; right = right.Fetch; base = 0; length = 0 }
