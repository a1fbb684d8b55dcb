use Rattle.std.proofs.Common.{[], ap, subst}
use Rattle.smbd_base.specs.declared.end_id.EndId.TheVariants as side
use Rattle.link_ends.specs.declared.answer.Received.{Received}
use Rattle.link_ends.specs.Ends.{view_of}
use Rattle.end_shares.specs.Turns.{HasTurned, heard_in, is_nothing}
use Rattle.end_shares.proofs.Serving.{one_few, quiet, still, heard}
use Rattle.end_shares.proofs.server.take_request.Goals as goal

pub returns-in-Cut-clause-goes_on : goal.returns-in-Cut-clause-goes_on
returns-in-Cut-clause-goes_on g c = λ kind past h.
    still kind past c.args.server.now (view_of c.receive.new.end)
    (quiet kind past c.args.server.now (view_of c.args.end.now) (view_of c.receive.new.end) h
    (subst (λ (r : Received). HasTurned side.Server [] (heard_in r) (view_of c.args.end.now) (view_of c.receive.new.end)) c.in-Cut.is
    (c.in_ok-receive.ensures.heard side.Server c.requires.on.side_is))
    (one_few (view_of c.args.end.now) (view_of c.receive.new.end) (c.in_ok-receive.ensures.one (ap is_nothing c.in-Cut.is))))

pub returns-in_ok-hand_request-in-Frame-clause-goes_on : goal.returns-in_ok-hand_request-in-Frame-clause-goes_on
returns-in_ok-hand_request-in-Frame-clause-goes_on g c = λ kind past h.
    heard kind past c.args.server.now c.hand_request.new.server c.in-Frame.message (view_of c.args.end.now) (view_of c.receive.new.end) h
    (subst (λ (r : Received). HasTurned side.Server [] (heard_in r) (view_of c.args.end.now) (view_of c.receive.new.end)) c.in-Frame.is
    (c.in_ok-receive.ensures.heard side.Server c.requires.on.side_is))
    (c.in_ok-receive.ensures.one (ap is_nothing c.in-Frame.is)) (c.in_ok-hand_request-in-Frame.ensures kind past h.came)
