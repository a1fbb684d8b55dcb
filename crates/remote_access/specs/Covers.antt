-- When a record covers a descriptor (this project's own).
use Rattle.std.specs.Prelude.{◌≡◌, ℕ, ◌-◌, ◌<◌, Option, Some, List}
use Rattle.smbd_base.specs.declared.right.Right.{Right}
use Rattle.smbd_base.specs.declared.right.Right.TheVariants as right
use Rattle.smbd_base.specs.declared.page_event.PageEvent.TheVariants as events
use Rattle.smbd_base.specs.Pages.{PageState, page_at, IsPoolStep}
use Rattle.page_slots.specs.Answers.{places_had}
use Rattle.token_table.specs.declared.answers.Claimed.TheVariants as claims
use Rattle.token_table.specs.declared.record.Listed.{Listed}
use Rattle.token_table.specs.Records.{IsInPage}
use Rattle.token_table.specs.Tables.{claim_answer, TakesHold}
use Rattle.registration.specs.Regions.{RegionState}
use Rattle.smbd_base.specs.Tokens.{number_of, token_of, start_of_page}
use Rattle.buffer_descriptor.specs.declared.descriptor.Descriptor.{Descriptor}
use Rattle.buffer_descriptor.specs.Descriptors.{IsCovered}
use Rattle.token_table.specs.declared.record.Record.{Record}

-- a record covers a descriptor for a right where it has the descriptor's token and that right, and the descriptor's
-- interval lies in the record's
pub record Covers (entry : Record) (asked : Right) (descriptor : Descriptor) : Type 0 where
  pub token : number_of entry.token ≡ descriptor.token
  pub allowed : entry.right ≡ asked
  pub interval : IsCovered entry.base entry.length descriptor

-- the record of the descriptor's token is held
pub record HoldsRecord (descriptor : Descriptor) (entry : Record) (old new : List (Option Listed)) : Type 0 where
  pub token : token_of descriptor.token ≡ Some entry.token
  pub number : number_of entry.token ≡ descriptor.token
  pub page : entry.token.page < 256
  pub claimed : claim_answer entry.token old ≡ claims.Held entry
  pub takes : TakesHold entry.token entry old new
  pub fits : IsInPage entry

-- the place in the page that a descriptor's first byte has
abbrev pub place_in_page : ℕ → Descriptor → ℕ
place_in_page page descriptor = descriptor.offset - start_of_page page

-- a page was read under a record that covers the descriptor
pub record ReadsUnder (entry : Record) (descriptor : Descriptor) (out : List ℕ) (old new : List PageState) : Type 0 where
  pub covers : Covers entry right.Fetch descriptor
  pub step : IsPoolStep (events.Fetch entry.token (place_in_page entry.token.page descriptor) out) old new

-- a page was written under a record that covers the descriptor
pub record WritesUnder (entry : Record) (descriptor : Descriptor) (bytes : List ℕ) (old new : List PageState) : Type 0 where
  pub covers : Covers entry right.Place descriptor
  pub step : IsPoolStep
      (events.Place entry.token (places_had (page_at entry.token.page old).loaded) (place_in_page entry.token.page descriptor) bytes) old new

-- a remote read: under a record of the region that covers the descriptor
pub record Reads (descriptor : Descriptor) (out : List ℕ) (old new : RegionState) : Type 0 where
  pub entry : Record
  pub token : token_of descriptor.token ≡ Some entry.token
  pub listed : claim_answer entry.token old.table ≡ claims.Held entry
  pub under : ReadsUnder entry descriptor out old.pages new.pages

-- a remote write: under a record of the region that covers the descriptor
pub record Writes (descriptor : Descriptor) (bytes : List ℕ) (old new : RegionState) : Type 0 where
  pub entry : Record
  pub token : token_of descriptor.token ≡ Some entry.token
  pub listed : claim_answer entry.token old.table ≡ claims.Held entry
  pub under : WritesUnder entry descriptor bytes old.pages new.pages
