-- Records of registered pages (this project's own).
use Rattle.std.specs.Prelude.{◌+◌, ◌≤◌, Option, IfSome, List, All}
use Rattle.smbd_base.specs.declared.token.TheConstants.{PAGE_SIZE}
use Rattle.smbd_base.specs.Tokens.{start_of_page}
use Rattle.token_table.specs.declared.record.Record.{Record}
use Rattle.token_table.specs.declared.record.Listed.{Listed}

-- a record's interval lies in its token's page
pub record IsInPage (entry : Record) : Type 0 where
  pub begins : start_of_page entry.token.page ≤ entry.base
  pub ends : entry.base + entry.length ≤ start_of_page entry.token.page + PAGE_SIZE

-- each record of a table lies in its page
abbrev pub AreInPages : List (Option Listed) → Type 0
AreInPages table = All (λ (place : Option Listed). IfSome place (λ listed. IsInPage listed.entry)) table
