use Rattle.copy_ends.proofs.Talking.{talked}
use Rattle.smbd_base.specs.declared.end_id.EndId.TheVariants as side
use Rattle.copy_ends.proofs.Turning.{added_later}
use Rattle.copy_ends.proofs.Sending.{sent_in_turn}
use Rattle.copy_ends.proofs.round.talk_once.Goals as goal

pub returns-clause-goes_on : goal.returns-clause-goes_on
returns-clause-goes_on c = λ kind channel pages past h.
    talked kind channel pages past c.args.client.now c.take_reply.new.client c.send_request.new.client c.args.world.now c.drive.new.world c.take_reply.new.world c.send_request.new.world
    c.send_request.result h c.in_ok-drive.ensures.turned (c.in_ok-drive.ensures.idle c.if-branch.false) (c.in_ok-take_reply.ensures.goes_on kind channel pages past)
    (c.in_ok-take_reply.ensures.none c.if-branch-2.false) (c.send_request.ensures.goes_on kind channel pages) (c.send_request.ensures.none kind channel pages)

pub returns-clause-one : goal.returns-clause-one
returns-clause-one c =
    added_later side.Client c.args.world.now c.drive.new.world c.take_reply.new.world c.send_request.new.world c.send_request.result (c.in_ok-drive.ensures.same c.if-branch.false)
    (c.in_ok-take_reply.ensures.none c.if-branch-2.false).same c.send_request.ensures.one

pub returns-clause-sent : goal.returns-clause-sent
returns-clause-sent c =
    sent_in_turn side.Client c.args.world.now c.drive.new.world c.take_reply.new.world c.send_request.new.world c.send_request.result c.in_ok-drive.ensures.sent c.in_ok-take_reply.ensures.sent
    c.send_request.ensures.sent
