use Rattle.std.proofs.Common.{◌+◌, ◌||◌, Bool, drop, sym, ap, ◌∙◌, arith}
use Rattle.file_messages.specs.Messages as spec
use Rattle.file_messages.proofs.ListedDescriptors.{from_place, shares-met}
use Rattle.file_messages.proofs.descriptors.shares_with_later.Goals as goal

pub returns-then-share_a_byte : goal.returns-then-share_a_byte
returns-then-share_a_byte c =
    sym (c.loop-place.invariant
    ∙ shares-met c.args.count c.loop-place.place (drop 24 c.args.message.now) c.args.descriptor.now c.descriptor_at.result c.share_a_byte.result
    (omega arith) c.descriptor_at.ensures c.share_a_byte.ensures
    ∙ ap (λ (t : Bool). t || spec.shares_with c.args.descriptor.now (from_place c.args.count (c.loop-place.place + 1) (drop 24 c.args.message.now))) c.if-share_a_byte.true)

pub loop-place-preserved : goal.loop-place-preserved
loop-place-preserved c =
    c.loop-place.invariant
    ∙ shares-met c.args.count c.loop-place.place (drop 24 c.args.message.now) c.args.descriptor.now c.descriptor_at.result c.share_a_byte.result
    (omega arith) c.descriptor_at.ensures c.share_a_byte.ensures
    ∙ ap (λ (t : Bool). t || spec.shares_with c.args.descriptor.now (from_place c.args.count (c.loop-place.place + 1) (drop 24 c.args.message.now))) c.if-share_a_byte.false
