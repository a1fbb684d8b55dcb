use Rattle.std.proofs.Common.{◌≡◌, drop}
use Rattle.file_messages.specs.Messages as spec
use Rattle.file_messages.proofs.ListedDescriptors.{from_place}
use Rattle.file_messages.proofs.descriptors.overlap.Given as goal

abbrev pub invariant-loop-place : goal.invariant-loop-place
invariant-loop-place l = spec.overlap (spec.descriptors_in l.count (drop 24 l.message)) ≡ spec.overlap (from_place l.count l.place (drop 24 l.message))
