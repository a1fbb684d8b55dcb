use Rattle.std.proofs.Common.{Bool, false, true, not, subst, arith, refl, sym, ◌∙◌}
use Rattle.link_ends.specs.Ends.{view_of}
use Rattle.end_shares.specs.Servers.{ServerGoesOn}
use Rattle.end_shares.proofs.Turning.{acted_none, acted_more}
use Rattle.end_shares.proofs.Serving.{go_on, still, may_serve}
use Rattle.end_shares.proofs.Sharing.{through, most_more, most_so_far, added_more}
use Rattle.end_shares.proofs.server.run_server.Goals as goal

pub loop-turn-init : goal.loop-turn-init
loop-turn-init g c = record {
  on = c.requires.on;
  acted = acted_none (view_of c.args.end.now) (view_of c.args.end.now) refl;
  added = omega arith;
  goes_on = λ kind past h. still kind past c.args.server.now (view_of c.args.end.now) h;
}

pub serve_once-requires : goal.serve_once-requires
serve_once-requires g c =
    let i = c.loop-turn.invariant in let q = c.requires.serve in record {
      on = i.on;
      uncut = sym c.is_cut.ensures ∙ c.if-is_cut.false;
      serve = may_serve q.kind q.past c.loop-turn.server (view_of c.loop-turn.end) (i.goes_on q.kind q.past q.stands);
    }

pub returns-in_err-serve_once-clause-acted : goal.returns-in_err-serve_once-clause-acted
returns-in_err-serve_once-clause-acted g c =
    acted_more (view_of c.args.end.now) (view_of c.loop-turn.end) (view_of c.serve_once.new.end) c.loop-turn.invariant.acted c.serve_once.ensures.acted

pub returns-in_err-serve_once-clause-most : goal.returns-in_err-serve_once-clause-most
returns-in_err-serve_once-clause-most g c =
    most_more c.loop-turn._turn (view_of c.args.end.now) (view_of c.loop-turn.end) (view_of c.serve_once.new.end) (omega arith) c.loop-turn.invariant.added c.serve_once.ensures.most

pub returns-then-not-branch-clause-acted : goal.returns-then-not-branch-clause-acted
returns-then-not-branch-clause-acted g c =
    acted_more (view_of c.args.end.now) (view_of c.loop-turn.end) (view_of c.serve_once.new.end) c.loop-turn.invariant.acted c.serve_once.ensures.acted

pub returns-then-not-branch-clause-most : goal.returns-then-not-branch-clause-most
returns-then-not-branch-clause-most g c =
    most_more c.loop-turn._turn (view_of c.args.end.now) (view_of c.loop-turn.end) (view_of c.serve_once.new.end) (omega arith) c.loop-turn.invariant.added c.serve_once.ensures.most

pub returns-then-not-branch-clause-goes_on : goal.returns-then-not-branch-clause-goes_on
returns-then-not-branch-clause-goes_on g c = λ kind past h.
    let so_far = c.loop-turn.invariant.goes_on kind past h in
    go_on kind past false true c.loop-turn.server c.serve_once.new.server (view_of c.loop-turn.end) (view_of c.serve_once.new.end) so_far
    (subst (λ (did : Bool). ServerGoesOn kind so_far.later (not did) c.serve_once.new.server (view_of c.serve_once.new.end)) c.if-not-branch.true
    (c.in_ok-serve_once.ensures.goes_on kind so_far.later so_far.stands))

pub returns-then-not-branch-clause-share : goal.returns-then-not-branch-clause-share
returns-then-not-branch-clause-share g c = λ left.
    let rest = c.in_ok-serve_once.ensures.rest c.if-not-branch.true in
    through (view_of c.args.end.now) (view_of c.loop-turn.end) (view_of c.serve_once.new.end) c.loop-turn.invariant.acted c.serve_once.ensures.acted rest.0 rest.1

pub returns-then-is_cut-clause-most : goal.returns-then-is_cut-clause-most
returns-then-is_cut-clause-most g c = most_so_far c.loop-turn._turn (view_of c.args.end.now) (view_of c.loop-turn.end) (omega arith) c.loop-turn.invariant.added

pub loop-turn-preserved : goal.loop-turn-preserved
loop-turn-preserved g c =
    let i = c.loop-turn.invariant in
    record {
      on = c.in_ok-serve_once.ensures.on;
      acted = acted_more (view_of c.args.end.now) (view_of c.loop-turn.end) (view_of c.serve_once.new.end) i.acted c.serve_once.ensures.acted;
      added = added_more c.loop-turn._turn (view_of c.args.end.now) (view_of c.loop-turn.end) (view_of c.serve_once.new.end) i.added (c.in_ok-serve_once.ensures.one c.if-not-branch.false);
      goes_on = λ kind past h.
          let so_far = i.goes_on kind past h in
          go_on kind past false false c.loop-turn.server c.serve_once.new.server (view_of c.loop-turn.end) (view_of c.serve_once.new.end) so_far
          (subst (λ (did : Bool). ServerGoesOn kind so_far.later (not did) c.serve_once.new.server (view_of c.serve_once.new.end)) c.if-not-branch.false
          (c.in_ok-serve_once.ensures.goes_on kind so_far.later so_far.stands));
    }
