use Rattle.std.proofs.Common.{◌≡◌, ◌+◌, ◌*◌, ◌≤◌, drop}
use Rattle.file_messages.specs.Messages as spec
use Rattle.file_messages.proofs.ListedDescriptors.{from_place}
use Rattle.file_messages.proofs.descriptors.name_together.Given as goal

abbrev pub invariant-loop-place : goal.invariant-loop-place
invariant-loop-place l = record {
  sound : spec.are_sound (spec.descriptors_in l.count (drop 24 l.message)) ≡ spec.are_sound (from_place l.count l.place (drop 24 l.message));
  sum : spec.sum_of_lengths (spec.descriptors_in l.count (drop 24 l.message)) ≡ l.named + spec.sum_of_lengths (from_place l.count l.place (drop 24 l.message));
  small : l.named ≤ 4294967295 * l.place;
}
