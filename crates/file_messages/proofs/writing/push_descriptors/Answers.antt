use Rattle.std.proofs.Common.{arith}
use Rattle.file_messages.proofs.ListedDescriptors.{bytes-more}
use Rattle.file_messages.proofs.writing.push_descriptors.Goals as goal

pub loop-descriptor-preserved : goal.loop-descriptor-preserved
loop-descriptor-preserved c =
    bytes-more c.args.text.now.items c.args.list.now c.loop-descriptor.descriptor-index _ c.loop-descriptor.text.items c.write.new.out
    c.extend_from_slice.new.self.items (omega arith) c.loop-descriptor.invariant c.write.ensures.value c.in_ok-extend_from_slice.ensures.items
