use Rattle.std.proofs.Common.{◌≡◌, drop}
use Rattle.file_messages.specs.Messages as spec
use Rattle.file_messages.proofs.ListedDescriptors.{from_place}
use Rattle.file_messages.proofs.descriptors.shares_with_later.Given as goal

abbrev pub invariant-loop-place : goal.invariant-loop-place
invariant-loop-place l = spec.shares_with l.descriptor (from_place l.count l.fn.from (drop 24 l.message)) ≡ spec.shares_with l.descriptor (from_place l.count l.place (drop 24 l.message))
