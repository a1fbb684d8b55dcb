use Rattle.std.proofs.Common.{◌≡◌, ℕ, suc, List, ◌∷◌, length, ap, arith}
use Rattle.page_crew.proofs.Opening.{next-number, one-more}
use Rattle.page_crew.proofs.workers.open_workers.Goals as goal

pub loop-place-preserved : goal.loop-place-preserved
loop-place-preserved c =
    let n = c.loop-place.place in
    let more : c.loop-place.passes ≡ c.in-Some.pass ∷ c.take.new.self = c.in-Some.ensures.taken in
    let fewer : length c.loop-place.passes ≡ suc (length c.take.new.self) = ap (λ (ps : List ℕ). length ps) more in
    record {
      left = omega (arith, fewer, c.loop-place.invariant.left);
      workers = λ first seats is.
          one-more first n c.in-Some.pass c.loop-place.workers.items c.push.new.self.items c.in_ok-open.field-0 c.in_ok-push.ensures.items c.in_ok-open.ensures
          (c.loop-place.invariant.workers first seats is)
          (next-number first seats n c.in-Some.pass c.loop-place.passes c.take.new.self (c.loop-place.invariant.passes first seats is) more).0;
      passes = λ first seats is. (next-number first seats n c.in-Some.pass c.loop-place.passes c.take.new.self (c.loop-place.invariant.passes first seats is) more).1;
    }
