-- When a record covers a descriptor (this project's own).
use Rattle.std.specs.Prelude.{◌≡◌, ℕ, ◌+◌, ◌-◌, nat_le, ◌&&◌, Bool, true, false, Option, Some, None, if◌then◌else◌}
use Rattle.smbd_base.specs.declared.right.Right.{Right}
use Rattle.smbd_base.specs.declared.right.Right.TheVariants as right
use Rattle.smbd_base.specs.Tokens.{number_of, start_of_page}
use Rattle.buffer_descriptor.specs.declared.descriptor.Descriptor.{Descriptor}
use Rattle.buffer_descriptor.specs.Descriptors.{IsCovered, place_after}
use Rattle.shared_records.specs.declared.record.Record.{Record}
use Rattle.shared_region.specs.declared.answers.Remote.{Remote}
use Rattle.shared_region.specs.declared.answers.Remote.TheVariants.{WrongRight, Outside}

-- a record covers a descriptor for a right where it has the descriptor's token and that right, and the descriptor's
-- interval lies in the record's
pub record Covers (entry : Record) (asked : Right) (descriptor : Descriptor) : Type 0 where
  pub token : number_of entry.token ≡ descriptor.token
  pub allowed : entry.right ≡ asked
  pub interval : IsCovered entry.base entry.length descriptor

-- the place in the page that a descriptor's first byte has
abbrev pub place_in_page : ℕ → Descriptor → ℕ
place_in_page page descriptor = descriptor.offset - start_of_page page

abbrev pub is_right : Right → Right → Bool
is_right right.Fetch right.Fetch = true
is_right right.Fetch right.Place = false
is_right right.Place right.Fetch = false
is_right right.Place right.Place = true

-- the descriptor's interval lies in the record's
abbrev pub is_covered : Record → Descriptor → Bool
is_covered entry descriptor = nat_le entry.base descriptor.offset && nat_le (place_after descriptor) (entry.base + entry.length)

-- why a record refuses a descriptor
abbrev pub record_refusal : Record → Right → Descriptor → Option Remote
record_refusal entry right descriptor =
    if is_right entry.right right then (if is_covered entry descriptor then None else Some Outside) else Some WrongRight
