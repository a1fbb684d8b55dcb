use Rattle.copy_ends.proofs.Serving.{one_few, quiet, still, served}
use Rattle.smbd_base.specs.declared.end_id.EndId.TheVariants as side
use Rattle.copy_ends.proofs.Turning.{added_later}
use Rattle.copy_ends.proofs.round.serve_once.Goals as goal

pub returns-clause-goes_on : goal.returns-clause-goes_on
returns-clause-goes_on c = λ kind past h.
    served kind past c.args.server.now c.take_request.new.server c.send_reply.new.server c.args.world.now c.drive.new.world c.take_request.new.world c.send_reply.new.world c.send_reply.result h
    c.in_ok-drive.ensures.turned (c.in_ok-drive.ensures.same c.if-branch.false) (c.in_ok-drive.ensures.idle c.if-branch.false) (c.in_ok-take_request.ensures.goes_on kind past) (c.in_ok-take_request.ensures.none c.if-branch-2.false)
    (c.send_reply.ensures.goes_on kind) (c.send_reply.ensures.none kind)

pub returns-clause-one : goal.returns-clause-one
returns-clause-one c =
    added_later side.Server c.args.world.now c.drive.new.world c.take_request.new.world c.send_reply.new.world c.send_reply.result (c.in_ok-drive.ensures.same c.if-branch.false)
    (c.in_ok-take_request.ensures.none c.if-branch-2.false).same c.send_reply.ensures.one

pub returns-then-branch-clause-goes_on : goal.returns-then-branch-clause-goes_on
returns-then-branch-clause-goes_on c = λ kind past h.
    still kind past c.args.server.now c.drive.new.world
    (quiet kind past c.args.server.now c.args.world.now c.drive.new.world h c.in_ok-drive.ensures.turned (one_few c.args.world.now c.drive.new.world (c.in_ok-drive.ensures.one c.if-branch.true)))
