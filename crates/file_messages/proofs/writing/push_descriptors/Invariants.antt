use Rattle.std.proofs.Common.{◌≡◌, ◌++◌, take}
use Rattle.std.specs.List.{flat_map}
use Rattle.buffer_descriptor.specs.Descriptors.{descriptor_bytes}
use Rattle.file_messages.proofs.writing.push_descriptors.Given as goal

abbrev pub invariant-loop-descriptor : goal.invariant-loop-descriptor
invariant-loop-descriptor l = l.text.items ≡ l.fn.text.items ++ flat_map descriptor_bytes (take l.descriptor-index l.list)
