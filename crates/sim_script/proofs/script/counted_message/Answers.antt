use Rattle.std.proofs.Common.{◌≡◌, ◌+◌, ◌%◌, refl, arith}
use Rattle.sim_script.proofs.ScriptLemmas.{counted_more}
use Rattle.sim_script.proofs.script.counted_message.Goals as goal

pub loop-i-preserved : goal.loop-i-preserved
loop-i-preserved c =
    let byte : (c.from.result + c.from-in-loop-i.result) % 256 ≡ (c.args.first + c.loop-i.i) % 256 =
    rw (c.from.ensures, c.from-in-loop-i.ensures) refl in
    record {
      counted = counted_more c.args.first c.loop-i.i _ _ _ c.loop-i.invariant.counted byte c.push_reserved.ensures.items;
      so_many = omega (arith, c.loop-i.invariant.so_many, c.push_reserved.ensures.len);
      room = omega (arith, c.loop-i.invariant.room, c.push_reserved.ensures.capacity);
    }
