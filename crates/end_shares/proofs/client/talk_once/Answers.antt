use Rattle.smbd_base.specs.declared.end_id.EndId.TheVariants as side
use Rattle.link_ends.specs.Ends.{view_of}
use Rattle.end_shares.proofs.Talking.{talked}
use Rattle.end_shares.proofs.client.talk_once.Goals as goal

pub returns-clause-goes_on : goal.returns-clause-goes_on
returns-clause-goes_on g c = λ kind channel pages past h.
    talked kind channel pages past c.args.client.now c.take_reply.new.client c.send_request.new.client (view_of c.args.end.now) (view_of c.drive.new.end) (view_of c.take_reply.new.end) (view_of c.send_request.new.end)
    c.send_request.result h (c.drive.ensures.turned side.Client) (c.in_ok-take_reply.ensures.goes_on kind channel pages past)
    (c.send_request.ensures.goes_on kind channel pages) (c.send_request.ensures.none kind channel pages)
