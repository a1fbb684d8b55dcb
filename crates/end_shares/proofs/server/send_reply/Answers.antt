use Rattle.std.proofs.Common.{sym, ◌∙◌}
use Rattle.smbd_base.specs.declared.end_id.EndId.TheVariants as side
use Rattle.link_ends.specs.Ends.{view_of}
use Rattle.end_shares.proofs.Serving.{fits, said_one, says_none, still}
use Rattle.end_shares.proofs.server.send_reply.Goals as goal

pub submit-requires-clause-fits : goal.submit-requires-clause-fits
submit-requires-clause-fits g c =
    let q = c.requires.serve in
    fits q.kind q.past c.args.server.now c.in-Some.message q.stands.came (sym c.in-Some.is ∙ c.in_ok-message.ensures.due q.kind q.past q.stands.came)

pub returns-in_default-clause-goes_on : goal.returns-in_default-clause-goes_on
returns-in_default-clause-goes_on g c = λ kind past h.
    still kind past c.next_message.new.self (view_of c.args.end.now)
    (says_none kind past c.args.server.now c.next_message.new.self (view_of c.args.end.now) h (sym c.in_default.is ∙ c.in_ok-message.ensures.due kind past h.came)
    (c.in_ok-message.ensures.after kind past h.came)).stands

pub returns-clause-goes_on : goal.returns-clause-goes_on
returns-clause-goes_on g c = λ kind past h.
    said_one kind past c.args.server.now c.next_message.new.self c.in-Some.message (view_of c.args.end.now) (view_of c.submit.new.end) h
    (sym c.in-Some.is ∙ c.in_ok-message.ensures.due kind past h.came) (c.in_ok-message.ensures.after kind past h.came) (c.in_ok-submit.ensures.turned side.Server) c.in_ok-submit.ensures.one
