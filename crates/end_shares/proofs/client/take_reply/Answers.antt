use Rattle.std.proofs.Common.{[], subst}
use Rattle.smbd_base.specs.declared.end_id.EndId.TheVariants as side
use Rattle.link_ends.specs.declared.answer.Received.{Received}
use Rattle.link_ends.specs.Ends.{view_of}
use Rattle.end_shares.specs.Turns.{HasTurned, heard_in}
use Rattle.end_shares.proofs.Talking.{heard}
use Rattle.end_shares.proofs.client.take_reply.Goals as goal

pub returns-in-Frame-clause-goes_on : goal.returns-in-Frame-clause-goes_on
returns-in-Frame-clause-goes_on g c = λ kind channel pages past h.
    heard kind channel pages past c.args.client.now c.hand_reply.new.client c.in-Frame.message (view_of c.args.end.now) (view_of c.receive.new.end) h
    (subst (λ (r : Received). HasTurned side.Client [] (heard_in r) (view_of c.args.end.now) (view_of c.receive.new.end)) c.in-Frame.is
    (c.in_ok-receive.ensures.heard side.Client c.requires.on.side_is))
    (c.hand_reply.ensures kind channel pages past h.came)
