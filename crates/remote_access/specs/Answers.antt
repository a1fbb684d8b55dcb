-- What a remote access answers (this project's own). The refusals stand in the order in which they are looked for.
use Rattle.std.specs.Prelude.{◌≡◌, ◌+◌, nat_le, ◌&&◌, Bool, true, false, Option, Some, None, if◌then◌else◌}
use Rattle.smbd_base.specs.declared.right.Right.{Right}
use Rattle.smbd_base.specs.declared.right.Right.TheVariants as right
use Rattle.smbd_base.specs.Tokens.{PageToken, token_of}
use Rattle.smbd_base.specs.Pages.{page_at}
use Rattle.buffer_descriptor.specs.declared.descriptor.Descriptor.{Descriptor}
use Rattle.buffer_descriptor.specs.Descriptors.{place_after}
use Rattle.page_slots.specs.declared.answers.Access.{Access}
use Rattle.page_slots.specs.declared.answers.Access.TheVariants as accesses
use Rattle.page_slots.specs.Answers.{fetch_answer, place_answer}
use Rattle.token_table.specs.declared.record.Record.{Record}
use Rattle.token_table.specs.declared.answers.Claimed.{Claimed}
use Rattle.token_table.specs.declared.answers.Claimed.TheVariants as claims
use Rattle.token_table.specs.Tables.{claim_answer}
use Rattle.registration.specs.Regions.{RegionState}
use Rattle.remote_access.specs.declared.access.Remote.{Remote}
use Rattle.remote_access.specs.declared.access.Remote.TheVariants.{Done, Unknown, Stale, WrongRight, Outside, Worn, Crowded, Busy, Again}

abbrev pub is_right : Right → Right → Bool
is_right right.Fetch right.Fetch = true
is_right right.Fetch right.Place = false
is_right right.Place right.Fetch = false
is_right right.Place right.Place = true

-- the descriptor's interval lies in the record's
abbrev pub is_covered : Record → Descriptor → Bool
is_covered entry descriptor = nat_le entry.base descriptor.offset && nat_le (place_after descriptor) (entry.base + entry.length)

-- what the page answered
abbrev pub of_access : Access → Remote
of_access accesses.Done = Done
of_access accesses.Stale = Stale
of_access accesses.WrongRight = WrongRight
of_access accesses.Worn = Worn
of_access accesses.Busy = Busy

-- why a record refuses a descriptor
abbrev pub record_refusal : Record → Right → Descriptor → Option Remote
record_refusal entry right descriptor =
    if is_right entry.right right then (if is_covered entry descriptor then None else Some Outside) else Some WrongRight

-- the page is asked where the record doesn't refuse
abbrev pub unless_refused : Option Remote → Remote → Remote
unless_refused None answer = answer
unless_refused (Some refusal) answer = refusal

abbrev pub of_claim : Claimed → Right → Descriptor → Access → Remote
of_claim (claims.Held entry) right descriptor access = unless_refused (record_refusal entry right descriptor) (of_access access)
of_claim claims.Unknown right descriptor access = Unknown
of_claim claims.Stale right descriptor access = Stale
of_claim (claims.Again seen found) right descriptor access = Again seen found
of_claim claims.Crowded right descriptor access = Crowded

-- a read is a fetch of the token's page
abbrev pub read_by : Option PageToken → Descriptor → RegionState → Remote
read_by None descriptor s = Unknown
read_by (Some token) descriptor s =
    of_claim (claim_answer token s.table) right.Fetch descriptor (fetch_answer token (page_at token.page s.pages))

abbrev pub read_answer : Descriptor → RegionState → Remote
read_answer descriptor s = read_by (token_of descriptor.token) descriptor s

-- a write is a place into the token's page
abbrev pub write_by : Option PageToken → Descriptor → RegionState → Remote
write_by None descriptor s = Unknown
write_by (Some token) descriptor s =
    of_claim (claim_answer token s.table) right.Place descriptor (place_answer token (page_at token.page s.pages))

abbrev pub write_answer : Descriptor → RegionState → Remote
write_answer descriptor s = write_by (token_of descriptor.token) descriptor s

-- why no record of the descriptor's token is held: a read and a write are refused alike
abbrev pub IsRefusal : Descriptor → RegionState → Remote → Type 0
IsRefusal descriptor s remote = (remote ≡ read_answer descriptor s) × (remote ≡ write_answer descriptor s)
