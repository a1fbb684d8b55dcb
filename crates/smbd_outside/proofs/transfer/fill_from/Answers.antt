use Rattle.std.proofs.Common.{arith, sym, subst}
use Rattle.smbd_outside.specs.Streams.{Gains}
use Rattle.smbd_outside.proofs.StreamLemmas.{gains_more, take-put_mid_more}
use Rattle.smbd_outside.proofs.transfer.fill_from.Goals as goal

pub loop-filled-preserved : goal.loop-filled-preserved
loop-filled-preserved g c =
    let before = c.loop-filled.invariant in
    record {
      so_far = subst (Gains _ _ _) (sym (take-put_mid_more c.loop-filled.filled _ c.in-Ok.count c.loop-filled.buf c.read.new.buf before.within c.in-Ok.ensures.bound.0)) (gains_more _ _ _ _ _ _ before.so_far c.in-Ok.ensures.bytes.0);
      within = omega (arith, c.in-Ok.ensures.bound.0);
      later = omega (arith, c.in-Ok.ensures.cause.later);
    }
