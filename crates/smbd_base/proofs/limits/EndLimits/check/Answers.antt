use Rattle.std.proofs.Common.{sym}
use Rattle.smbd_base.proofs.LimitLemmas.{within}
use Rattle.smbd_base.proofs.limits.EndLimits.check.Goals as goal

pub invariant_of-result : goal.invariant_of-result
invariant_of-result c = record {
  credits = rw (← c.from.ensures) (within 3 255 c.from.result (sym c.if-is_outside.ensures));
  send_size = within 128 8192 _ (sym c.if-is_outside-2.ensures);
  receive_size = within 128 8192 _ (sym c.if-is_outside-3.ensures);
  fragmented_size = within 131072 1048576 _ (sym c.if-is_outside-4.ensures);
  pages = rw (← c.from-2.ensures) (within 16 255 c.from-2.result (sym c.if-is_outside-5.ensures));
}
