use Rattle.std.proofs.Common.{◌==◌, ◌&&◌, Bool, drop, sym, ap, ◌∙◌, arith}
use Rattle.file_messages.specs.Messages as spec
use Rattle.file_messages.proofs.ListedDescriptors.{sound-met, sum-met, sound_by, unsound_by}
use Rattle.file_messages.proofs.descriptors.name_together.Goals as goal

pub returns-then-not-is_sound : goal.returns-then-not-is_sound
returns-then-not-is_sound c =
    sym (ap (λ (t : Bool). t && spec.sum_of_lengths (spec.descriptors_in c.args.count (drop 24 c.args.message.now)) == c.args.bytes)
    (c.loop-place.invariant.sound
    ∙ unsound_by c.is_sound.result _ _ c.if-not-is_sound.true
    (sound-met c.args.count c.loop-place.place (drop 24 c.args.message.now) c.descriptor_at-descriptor.result c.is_sound.result
    (omega arith) c.descriptor_at-descriptor.ensures c.is_sound.ensures)))

pub loop-place-preserved : goal.loop-place-preserved
loop-place-preserved c =
    let more = sum-met c.args.count c.loop-place.place (drop 24 c.args.message.now) c.descriptor_at-descriptor.result (omega arith) c.descriptor_at-descriptor.ensures in
    record {
      sound =
          c.loop-place.invariant.sound
          ∙ sound_by c.is_sound.result _ _ c.if-not-is_sound.false
          (sound-met c.args.count c.loop-place.place (drop 24 c.args.message.now) c.descriptor_at-descriptor.result c.is_sound.result
          (omega arith) c.descriptor_at-descriptor.ensures c.is_sound.ensures);
      sum = omega (arith, c.loop-place.invariant.sum, more, c.from-named.ensures);
      small = omega (arith, c.loop-place.invariant.small, c.from-named.ensures);
    }
