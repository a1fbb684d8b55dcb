use Rattle.std.proofs.Common.{◌≡◌, ◌++◌, take, map}
use Rattle.std.specs.List.{flat_map}
use Rattle.buffer_descriptor.specs.Descriptors.{descriptor_bytes}
use Rattle.file_transfer.specs.ClientStands.{descriptor_in}
use Rattle.file_transfer.proofs.writing.push_descriptors.Given as goal

abbrev pub invariant-loop-page : goal.invariant-loop-page
invariant-loop-page l = l.text.items ≡ l.fn.text.items ++ flat_map descriptor_bytes (map descriptor_in (take l.page-index l.pages))
