use Rattle.std.proofs.Common.{◌+◌, ◌||◌, Bool, drop, sym, ap, ◌∙◌, arith}
use Rattle.file_messages.specs.Messages as spec
use Rattle.file_messages.proofs.ListedDescriptors.{from_place, overlap-met}
use Rattle.file_messages.proofs.descriptors.overlap.Goals as goal

pub returns-then-shares_with_later : goal.returns-then-shares_with_later
returns-then-shares_with_later c =
    sym (c.loop-place.invariant
    ∙ overlap-met c.args.count c.loop-place.place (drop 24 c.args.message.now) c.descriptor_at-descriptor.result c.shares_with_later.result
    (omega arith) c.descriptor_at-descriptor.ensures c.shares_with_later.ensures
    ∙ ap (λ (t : Bool). t || spec.overlap (from_place c.args.count (c.loop-place.place + 1) (drop 24 c.args.message.now))) c.if-shares_with_later.true)

pub loop-place-preserved : goal.loop-place-preserved
loop-place-preserved c =
    c.loop-place.invariant
    ∙ overlap-met c.args.count c.loop-place.place (drop 24 c.args.message.now) c.descriptor_at-descriptor.result c.shares_with_later.result
    (omega arith) c.descriptor_at-descriptor.ensures c.shares_with_later.ensures
    ∙ ap (λ (t : Bool). t || spec.overlap (from_place c.args.count (c.loop-place.place + 1) (drop 24 c.args.message.now))) c.if-shares_with_later.false
