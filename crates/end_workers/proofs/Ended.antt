-- What a barrier comes to.
use Rattle.std.proofs.Common.{◌≡◌, Bool, true, false, sym}
use Rattle.copy_laws.specs.Kinds.{is_over}
use Rattle.copy_parts.specs.declared.options.CopyOptions.{CopyOptions}
use Rattle.end_workers.specs.declared.copy.Copy.{Copy}
use Rattle.end_workers.specs.Barriers.{HasEnded, GoesToRound}
use Rattle.end_workers.specs.Progress.{IsAfterBarrier, deeds_now}
use Rattle.end_workers.specs.Promise.{Stream}
use Rattle.end_workers.proofs.Cutting.{up-of}
use Rattle.end_workers.proofs.Ending.{keeps-done}
use Rattle.end_workers.proofs.Going.{going-on}

to-round : (over : Bool) (o : CopyOptions) (from to log : Stream) (c : Copy) → (a : IsAfterBarrier o from to log c) → over ≡ is_over o.kind a.settled.past.client → GoesToRound over o from to log c
to-round over o from to log c a e = record {
  after = a;
  over_is = sym e;
  on = going-on o from to log a.settled.past a.settled.past.pool (deeds_now o a.settled.past c.parts) c a.settled.so_far;
  up = up-of o c.parts.world a.settled.so_far.stands.under_way.connected.link a.uncut;
}

-- END's reply was taken, or not
pub ended-by : (over : Bool) (o : CopyOptions) (from to log : Stream) (c : Copy) → (a : IsAfterBarrier o from to log c) → over ≡ is_over o.kind a.settled.past.client → HasEnded over o from to log c
ended-by true o from to log c a e = (to-round true o from to log c a e, keeps-done o from to log c a (sym e))
ended-by false o from to log c a e = to-round false o from to log c a e
