use Rattle.std.proofs.Common.{◌∙◌}
use Rattle.file_messages.proofs.ListedDescriptors.{descriptor-made}
use Rattle.file_messages.proofs.descriptors.descriptor_at.Goals as goal

pub returns : goal.returns
returns c =
    descriptor-made c.args.place c.from.result c.from-low.result c.from-high.result c.u32_at-3.result c.u32_at-4.result c.args.message.now
    c.from.ensures (c.from-low.ensures ∙ c.u32_at.ensures) (c.from-high.ensures ∙ c.u32_at-2.ensures) c.u32_at-3.ensures c.u32_at-4.ensures
