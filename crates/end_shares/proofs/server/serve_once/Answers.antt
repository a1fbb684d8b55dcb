use Rattle.std.proofs.Common.{sym, subst}
use Rattle.smbd_base.specs.declared.end_id.EndId.TheVariants as side
use Rattle.sim_adapter.specs.declared.view.EndView.{EndView}
use Rattle.link_ends.specs.Ends.{view_of}
use Rattle.end_shares.specs.Servers.{ServerStands}
use Rattle.end_shares.proofs.Serving.{one_few, quiet, still, served, may_serve}
use Rattle.end_shares.proofs.server.serve_once.Goals as goal

pub returns-then-branch-clause-goes_on : goal.returns-then-branch-clause-goes_on
returns-then-branch-clause-goes_on g c = λ kind past h.
    still kind past c.args.server.now (view_of c.drive.new.end)
    (quiet kind past c.args.server.now (view_of c.args.end.now) (view_of c.drive.new.end) h (c.drive.ensures.turned side.Server)
    (one_few (view_of c.args.end.now) (view_of c.drive.new.end) (c.in_ok-drive.ensures.one c.if-branch.true)))

pub send_reply-requires-clause-serve : goal.send_reply-requires-clause-serve
send_reply-requires-clause-serve g c =
    let q = c.requires.serve in
    may_serve q.kind q.past c.take_request.new.server (view_of c.take_request.new.end) (c.in_ok-take_request.ensures.goes_on q.kind q.past
    (subst (λ (v : EndView). ServerStands q.kind q.past c.args.server.now v) (sym (c.in_ok-drive.ensures.same c.if-branch.false)) q.stands))

pub returns-clause-goes_on : goal.returns-clause-goes_on
returns-clause-goes_on g c = λ kind past h.
    served kind past c.args.server.now c.take_request.new.server c.send_reply.new.server (view_of c.args.end.now) (view_of c.drive.new.end) (view_of c.take_request.new.end) (view_of c.send_reply.new.end)
    c.send_reply.result h (c.drive.ensures.turned side.Server) (c.in_ok-drive.ensures.same c.if-branch.false) (c.in_ok-take_request.ensures.goes_on kind past)
    (c.send_reply.ensures.goes_on kind) (c.send_reply.ensures.none kind)
