use Rattle.std.proofs.Common.{◌≡◌, ℕ, ◌<◌, ◌≤◌, Ok, slice_index_or, vec_len}
use Rattle.std.specs.Vec.{vec_capacity}
use Rattle.buffer_descriptor.specs.declared.descriptor.Descriptor.{Descriptor}
use Rattle.buffer_descriptor.specs.Descriptors.{descriptor_at}
use Rattle.buffer_descriptor.proofs.descriptors.read_list.Given as goal

abbrev pub invariant-loop-place : goal.invariant-loop-place
invariant-loop-place l = record {
  as_many : vec_len l.list ≡ l.place;
  room : l.count ≤ vec_capacity l.list;
  each : (k : ℕ) (d : Descriptor) → k < l.place → descriptor_at k l.bytes ≡ Ok (slice_index_or l.list.items k d);
}
