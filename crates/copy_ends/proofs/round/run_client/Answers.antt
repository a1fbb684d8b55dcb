use Rattle.std.proofs.Common.{◌≤◌, ◌+◌, Bool, false, true, not, subst, sym, arith}
use Rattle.smbd_base.specs.declared.end_id.EndId.TheVariants as side
use Rattle.world_core.specs.Run.{State}
use Rattle.copy_ends.specs.Turns.{HasActed, HasAdded}
use Rattle.copy_ends.specs.Cuts.{frames_sent}
use Rattle.copy_ends.specs.Ends.{ClientGoesOn, ClientStands, MayTalk}
use Rattle.copy_ends.proofs.Sending.{left_after_turn}
use Rattle.copy_ends.proofs.Turning.{acted_more}
use Rattle.copy_ends.proofs.Talking.{at_most, go_on, may_talk}
use Rattle.copy_ends.proofs.round.run_client.Goals as goal

pub talk_once-requires : goal.talk_once-requires
talk_once-requires c =
    let q = c.requires in
    subst (λ (w : State). MayTalk 0 c.loop-turn.client w) (sym c.cuts_next.ensures.same)
    (may_talk q.kind q.channel q.pages q.past c.loop-turn._turn c.loop-turn.client c.loop-turn.world q.few (omega arith) c.loop-turn.invariant.up
    (c.loop-turn.invariant.goes_on q.kind q.channel q.pages q.past q.stands))

pub returns-in_err-talk_once-clause-acted : goal.returns-in_err-talk_once-clause-acted
returns-in_err-talk_once-clause-acted c =
    acted_more side.Client c.args.world.now c.loop-turn.world c.talk_once.new.world c.loop-turn.invariant.acted
    (subst (λ (w : State). HasActed side.Client w c.talk_once.new.world) c.cuts_next.ensures.same c.talk_once.ensures.acted)

pub returns-then-not-branch-clause-acted : goal.returns-then-not-branch-clause-acted
returns-then-not-branch-clause-acted c =
    acted_more side.Client c.args.world.now c.loop-turn.world c.talk_once.new.world c.loop-turn.invariant.acted
    (subst (λ (w : State). HasActed side.Client w c.talk_once.new.world) c.cuts_next.ensures.same c.talk_once.ensures.acted)

pub returns-then-not-branch-clause-goes_on : goal.returns-then-not-branch-clause-goes_on
returns-then-not-branch-clause-goes_on c = λ kind channel pages past h.
    let g = c.loop-turn.invariant.goes_on kind channel pages past h in
    let most : c.loop-turn._turn + 1 ≤ 64 = omega arith in
    go_on kind channel pages past c.loop-turn._turn 1 64 false true c.loop-turn.client c.talk_once.new.client c.loop-turn.world c.talk_once.new.world g
    (subst (λ (did : Bool). ClientGoesOn kind channel pages g.later 1 (not did) c.talk_once.new.client c.talk_once.new.world) c.if-not-branch.true
    (c.in_ok-talk_once.ensures.goes_on kind channel pages g.later (subst (λ (w : State). ClientStands kind channel pages g.later c.loop-turn.client w) (sym c.cuts_next.ensures.same) g.stands))) most

pub returns-then-not-branch-clause-left : goal.returns-then-not-branch-clause-left
returns-then-not-branch-clause-left c = λ number h.
    left_after_turn number c.cuts_next.new.left c.loop-turn.world c.cuts_next.new.world c.talk_once.new.world c.cuts_next.ensures.same
    (c.in_ok-cuts_next.ensures.counted number (frames_sent c.loop-turn.world.client) (c.loop-turn.invariant.left number h) c.if-branch.false) c.in_ok-talk_once.ensures.sent

pub returns-then-branch-clause-goes_on : goal.returns-then-branch-clause-goes_on
returns-then-branch-clause-goes_on c = λ kind channel pages past h.
    subst (λ (w : State). ClientGoesOn kind channel pages past 64 false c.loop-turn.client w) (sym c.cuts_next.ensures.same)
    (at_most kind channel pages past c.loop-turn._turn 64 false c.loop-turn.client c.loop-turn.world (c.loop-turn.invariant.goes_on kind channel pages past h) (omega arith))

pub loop-turn-preserved : goal.loop-turn-preserved
loop-turn-preserved c =
    let same = c.cuts_next.ensures.same in
    record {
      up = c.in_ok-talk_once.ensures.up;
      acted = acted_more side.Client c.args.world.now c.loop-turn.world c.talk_once.new.world c.loop-turn.invariant.acted
          (subst (λ (w : State). HasActed side.Client w c.talk_once.new.world) same c.talk_once.ensures.acted);
      added = (let before = c.loop-turn.invariant.added in
          let one = subst (λ (w : State). HasAdded 1 side.Client w c.talk_once.new.world) same (c.in_ok-talk_once.ensures.one c.if-not-branch.false) in omega arith);
      goes_on = λ kind channel pages past h.
          let g = c.loop-turn.invariant.goes_on kind channel pages past h in
          let most : c.loop-turn._turn + 1 ≤ c.loop-turn._turn + 1 = omega arith in
          go_on kind channel pages past c.loop-turn._turn 1 (c.loop-turn._turn + 1) false false c.loop-turn.client c.talk_once.new.client c.loop-turn.world c.talk_once.new.world g
          (subst (λ (did : Bool). ClientGoesOn kind channel pages g.later 1 (not did) c.talk_once.new.client c.talk_once.new.world) c.if-not-branch.false
          (c.in_ok-talk_once.ensures.goes_on kind channel pages g.later (subst (λ (w : State). ClientStands kind channel pages g.later c.loop-turn.client w) (sym same) g.stands))) most;
      left = λ number h.
          left_after_turn number c.cuts_next.new.left c.loop-turn.world c.cuts_next.new.world c.talk_once.new.world same
          (c.in_ok-cuts_next.ensures.counted number (frames_sent c.loop-turn.world.client) (c.loop-turn.invariant.left number h) c.if-branch.false) c.in_ok-talk_once.ensures.sent;
    }
