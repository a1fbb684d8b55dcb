use Rattle.std.proofs.Common.{◌≡◌, ◌≤◌, ◌+◌, Bool, false, true, not, subst, arith, refl, sym, ap, ◌∙◌}
use Rattle.smbd_base.specs.declared.event.Event.TheVariants.{Cut}
use Rattle.smbd_base.specs.History.{is_cut}
use Rattle.sim_adapter.specs.declared.view.EndView.{EndView}
use Rattle.sim_adapter.specs.declared.pass.Pass.{Pass}
use Rattle.sim_adapter.specs.Passes.{known_by}
use Rattle.sim_adapter.specs.Plays.{with_event}
use Rattle.link_ends.specs.Ends.{view_of, next_of, is_emit}
use Rattle.copy_ends.specs.Cuts.{AreLeft, frames_sent}
use Rattle.end_shares.specs.Turns.{HasActed, HasAdded}
use Rattle.end_shares.specs.Clients.{ClientGoesOn, ClientStands, MayTalk}
use Rattle.end_shares.proofs.Turning.{acted_none, acted_more, gone_on, gone_one}
use Rattle.end_shares.proofs.Talking.{go_on, still, may_talk}
use Rattle.end_shares.proofs.Sharing.{added_more}
use Rattle.end_shares.proofs.client.run_client.Goals as goal

pub loop-turn-init : goal.loop-turn-init
loop-turn-init g c = record {
  on = c.requires.on;
  acted = acted_none (view_of c.args.end.now) (view_of c.args.end.now) refl;
  added = omega arith;
  goes_on = λ kind channel pages past h. still kind channel pages past c.args.client.now (view_of c.args.end.now) h;
  left = λ number h. h;
}

pub talk_once-requires : goal.talk_once-requires
talk_once-requires g c =
    let q = c.requires.talk in
    let i = c.loop-turn.invariant in
    let same : view_of c.is_last.new.end ≡ view_of c.loop-turn.end = ap known_by c.is_last.ensures.same in
    record {
      on = record {
        at = record { own = ap (λ (p : Pass). p.seat.table_id) c.is_last.ensures.same ∙ i.on.at.own; on = c.is_last.ensures.on };
        side_is = ap (λ (v : EndView). v.side) same ∙ i.on.side_is;
      };
      uncut = ap (λ (v : EndView). is_cut v.past) same ∙ sym c.is_cut.ensures ∙ c.if-is_cut.false;
      talk = subst (λ (v : EndView). MayTalk 0 c.loop-turn.client v) (sym same)
          (may_talk q.kind q.channel q.pages q.past c.loop-turn._turn c.loop-turn.client (view_of c.loop-turn.end) q.few (omega arith)
          (i.goes_on q.kind q.channel q.pages q.past q.stands));
      some = λ none. ap (λ (v : EndView). is_emit (next_of v)) same ∙ c.in_ok-is_last.ensures.not_last c.if-branch.false none;
    }

pub cut-requires : goal.cut-requires
cut-requires g c =
    let same : view_of c.is_last.new.end ≡ view_of c.loop-turn.end = ap known_by c.is_last.ensures.same in
    record {
      on = record { own = ap (λ (p : Pass). p.seat.table_id) c.is_last.ensures.same ∙ c.loop-turn.invariant.on.at.own; on = c.is_last.ensures.on };
      uncut = ap (λ (v : EndView). is_cut v.past) same ∙ sym c.is_cut.ensures ∙ c.if-is_cut.false;
    }

pub returns-then-branch-clause-gone_on : goal.returns-then-branch-clause-gone_on
returns-then-branch-clause-gone_on g c =
    let same : view_of c.is_last.new.end ≡ view_of c.loop-turn.end = ap known_by c.is_last.ensures.same in
    gone_one (view_of c.args.end.now) (view_of c.loop-turn.end) (view_of c.cut.new.self) Cut c.loop-turn.invariant.acted
    (c.cut.ensures.cut ∙ ap (λ (v : EndView). with_event v Cut) same)

pub returns-in_err-talk_once-clause-gone_on : goal.returns-in_err-talk_once-clause-gone_on
returns-in_err-talk_once-clause-gone_on g c =
    let same : view_of c.is_last.new.end ≡ view_of c.loop-turn.end = ap known_by c.is_last.ensures.same in
    gone_on (view_of c.args.end.now) (view_of c.talk_once.new.end) (acted_more (view_of c.args.end.now) (view_of c.loop-turn.end) (view_of c.talk_once.new.end) c.loop-turn.invariant.acted
    (subst (λ (v : EndView). HasActed v (view_of c.talk_once.new.end)) same c.talk_once.ensures.acted))

pub returns-then-not-branch-clause-gone_on : goal.returns-then-not-branch-clause-gone_on
returns-then-not-branch-clause-gone_on g c =
    let same : view_of c.is_last.new.end ≡ view_of c.loop-turn.end = ap known_by c.is_last.ensures.same in
    gone_on (view_of c.args.end.now) (view_of c.talk_once.new.end) (acted_more (view_of c.args.end.now) (view_of c.loop-turn.end) (view_of c.talk_once.new.end) c.loop-turn.invariant.acted
    (subst (λ (v : EndView). HasActed v (view_of c.talk_once.new.end)) same c.talk_once.ensures.acted))

pub returns-then-not-branch-clause-told : goal.returns-then-not-branch-clause-told
returns-then-not-branch-clause-told g c = λ other old.
    let same : view_of c.is_last.new.end ≡ view_of c.loop-turn.end = ap known_by c.is_last.ensures.same in
    (acted_more (view_of c.args.end.now) (view_of c.loop-turn.end) (view_of c.talk_once.new.end) c.loop-turn.invariant.acted
    (subst (λ (v : EndView). HasActed v (view_of c.talk_once.new.end)) same c.talk_once.ensures.acted)).told old

pub returns-then-not-branch-clause-goes_on : goal.returns-then-not-branch-clause-goes_on
returns-then-not-branch-clause-goes_on g c = λ kind channel pages past h.
    let same : view_of c.is_last.new.end ≡ view_of c.loop-turn.end = ap known_by c.is_last.ensures.same in
    let so_far = c.loop-turn.invariant.goes_on kind channel pages past h in
    let most : c.loop-turn._turn + 1 ≤ 64 = omega arith in
    go_on kind channel pages past c.loop-turn._turn 1 64 false true c.loop-turn.client c.talk_once.new.client (view_of c.loop-turn.end) (view_of c.talk_once.new.end) so_far
    (subst (λ (did : Bool). ClientGoesOn kind channel pages so_far.later 1 (not did) c.talk_once.new.client (view_of c.talk_once.new.end)) c.if-not-branch.true
    (c.in_ok-talk_once.ensures.goes_on kind channel pages so_far.later (subst (λ (v : EndView). ClientStands kind channel pages so_far.later c.loop-turn.client v) (sym same) so_far.stands))) most

pub loop-turn-preserved : goal.loop-turn-preserved
loop-turn-preserved g c =
    let same : view_of c.is_last.new.end ≡ view_of c.loop-turn.end = ap known_by c.is_last.ensures.same in
    let i = c.loop-turn.invariant in
    record {
      on = c.in_ok-talk_once.ensures.on;
      acted = acted_more (view_of c.args.end.now) (view_of c.loop-turn.end) (view_of c.talk_once.new.end) i.acted
          (subst (λ (v : EndView). HasActed v (view_of c.talk_once.new.end)) same c.talk_once.ensures.acted);
      added = added_more c.loop-turn._turn (view_of c.args.end.now) (view_of c.loop-turn.end) (view_of c.talk_once.new.end) i.added
          (subst (λ (v : EndView). HasAdded 1 v (view_of c.talk_once.new.end)) same (c.in_ok-talk_once.ensures.one c.if-not-branch.false));
      goes_on = λ kind channel pages past h.
          let so_far = i.goes_on kind channel pages past h in
          let most : c.loop-turn._turn + 1 ≤ c.loop-turn._turn + 1 = omega arith in
          go_on kind channel pages past c.loop-turn._turn 1 (c.loop-turn._turn + 1) false false c.loop-turn.client c.talk_once.new.client (view_of c.loop-turn.end) (view_of c.talk_once.new.end) so_far
          (subst (λ (did : Bool). ClientGoesOn kind channel pages so_far.later 1 (not did) c.talk_once.new.client (view_of c.talk_once.new.end)) c.if-not-branch.false
          (c.in_ok-talk_once.ensures.goes_on kind channel pages so_far.later (subst (λ (v : EndView). ClientStands kind channel pages so_far.later c.loop-turn.client v) (sym same) so_far.stands))) most;
      left = λ number h.
          c.in_ok-talk_once.ensures.left number (subst (λ (v : EndView). AreLeft number (frames_sent v.past) c.loop-turn.left) (sym same) (i.left number h));
    }
