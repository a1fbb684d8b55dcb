use Rattle.std.proofs.Common.{sym, ◌∙◌, arith}
use Rattle.world_core.proofs.RawLemmas.{GoesOn, goes_on}
use Rattle.world_core.proofs.raw_end.RawEnd.settle.Goals as goal
use Rattle.world_core.proofs.raw_end.RawEnd.settle.Goals.{Then-branch}

more : (c : Then-branch) → GoesOn c.args.self.now c.loop.self c.step.new.self
more c = goes_on c.args.self.now c.loop.self c.step.new.self c.loop.invariant.added c.step.ensures.few (sym c.in_ok-step.ensures.more ∙ c.if-branch.true) c.in_ok-step.ensures.added

pub loop-smaller : goal.loop-smaller
loop-smaller c = (more c).fewer

pub loop-preserved : goal.loop-preserved
loop-preserved c =
    let added = (more c).added in
    let same = added.met in
    let before = c.loop.invariant.added.met in
    let few = c.loop.invariant.few in
    record { added = added; few = omega arith }
