use Rattle.std.proofs.Common.{◌≡◌, ℕ, ◌+◌, ◌<◌, ◌≢◌, length, map, get_or-set_same, get_or-set_other, below_more, ap, ◌∙◌, arith}
use Rattle.std.specs.List.{range_with_len}
use Rattle.made_input.specs.Made.{made_byte}
use Rattle.made_input.proofs.MadeLemmas.{filled-made}
use Rattle.made_input.proofs.input.make.Goals as goal

pub returns : goal.returns
returns c =
    let before = c.loop-byte.invariant in
    filled-made c.args.first c.args.place c.loop-byte.room (λ k within. before.so_far k (omega arith))
    ∙ ap (λ (n : ℕ). map (made_byte c.args.first) (range_with_len c.args.place n)) c.loop-byte.auto.room

pub loop-byte-preserved : goal.loop-byte-preserved
loop-byte-preserved c =
    let before = c.loop-byte.invariant in
    let place : c.loop-byte.at ≡ c.args.place + c.loop-byte.byte-index = before.at_is in
    record {
      at_is = omega arith;
      so_far = below_more _ _
          (λ k h. let ne : k ≢ c.loop-byte.byte-index = omega arith in rw get_or-set_other (before.so_far k h))
          (let lt : c.loop-byte.byte-index < length c.loop-byte.room = omega arith in
          rw get_or-set_same (c.made_byte.ensures ∙ ap (made_byte c.args.first) place));
    }
