use Rattle.std.proofs.Common.{arith, sym, subst}
use Rattle.std.proofs.lemmas.List.{take_rest}
use Rattle.smbd_outside.proofs.StreamLemmas.{IsWritten, written_more}
use Rattle.smbd_outside.proofs.transfer.write_whole.Goals as goal

pub loop-rest-preserved : goal.loop-rest-preserved
loop-rest-preserved g c =
    let before = c.loop-rest.invariant in
    record {
      so_far = subst (IsWritten _ _ _) (sym (take_rest _ c.in-Ok.count)) (written_more _ _ _ _ _ c.in-Ok.count before.so_far c.in-Ok.ensures.bytes);
      later = omega (arith, c.in-Ok.ensures.cause.later);
    }
