use Rattle.std.proofs.Common.{◌+◌, ◌++◌, List, drop, sym, ap, ◌∙◌, arith}
use Rattle.buffer_descriptor.specs.declared.descriptor.Descriptor.{Descriptor}
use Rattle.file_messages.proofs.ListedDescriptors.{from_place, list-met}
use Rattle.file_messages.proofs.descriptors.listed.Goals as goal

pub loop-place-preserved : goal.loop-place-preserved
loop-place-preserved c =
    ap (λ (found : List Descriptor). found ++ from_place c.args.count (c.loop-place.place + 1) (drop 24 c.args.message.now)) c.in_ok-push.ensures.items
    ∙ sym (list-met c.args.count c.loop-place.place (drop 24 c.args.message.now) c.loop-place.list.items c.descriptor_at.result (omega arith) c.descriptor_at.ensures)
    ∙ c.loop-place.invariant
