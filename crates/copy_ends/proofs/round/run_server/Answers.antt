use Rattle.std.proofs.Common.{Bool, false, true, not, subst, arith}
use Rattle.smbd_base.specs.declared.end_id.EndId.TheVariants as side
use Rattle.copy_ends.specs.Ends.{ServerGoesOn}
use Rattle.copy_ends.proofs.Turning.{acted_more}
use Rattle.copy_ends.proofs.Serving.{go_on}
use Rattle.copy_ends.proofs.round.run_server.Goals as goal

pub returns-in_err-serve_once-clause-acted : goal.returns-in_err-serve_once-clause-acted
returns-in_err-serve_once-clause-acted c =
    acted_more side.Server c.args.world.now c.loop-turn.world c.serve_once.new.world c.loop-turn.invariant.acted c.serve_once.ensures.acted

pub returns-then-not-branch-clause-acted : goal.returns-then-not-branch-clause-acted
returns-then-not-branch-clause-acted c =
    acted_more side.Server c.args.world.now c.loop-turn.world c.serve_once.new.world c.loop-turn.invariant.acted c.serve_once.ensures.acted

pub returns-then-not-branch-clause-goes_on : goal.returns-then-not-branch-clause-goes_on
returns-then-not-branch-clause-goes_on c = λ kind past h.
    let g = c.loop-turn.invariant.goes_on kind past h in
    go_on kind past false true c.loop-turn.server c.serve_once.new.server c.loop-turn.world c.serve_once.new.world g
    (subst (λ (did : Bool). ServerGoesOn kind g.later (not did) c.serve_once.new.server c.serve_once.new.world) c.if-not-branch.true (c.in_ok-serve_once.ensures.goes_on kind g.later g.stands))

pub loop-turn-preserved : goal.loop-turn-preserved
loop-turn-preserved c = record {
  up = c.in_ok-serve_once.ensures.up;
  acted = acted_more side.Server c.args.world.now c.loop-turn.world c.serve_once.new.world c.loop-turn.invariant.acted c.serve_once.ensures.acted;
  added = (let before = c.loop-turn.invariant.added in let one = c.in_ok-serve_once.ensures.one c.if-not-branch.false in omega arith);
  goes_on = λ kind past h.
      let g = c.loop-turn.invariant.goes_on kind past h in
      go_on kind past false false c.loop-turn.server c.serve_once.new.server c.loop-turn.world c.serve_once.new.world g
      (subst (λ (did : Bool). ServerGoesOn kind g.later (not did) c.serve_once.new.server c.serve_once.new.world) c.if-not-branch.false (c.in_ok-serve_once.ensures.goes_on kind g.later g.stands));
}
