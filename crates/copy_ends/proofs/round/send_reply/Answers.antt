use Rattle.std.proofs.Common.{sym, ◌∙◌}
use Rattle.copy_ends.proofs.Serving.{fits, said_one}
use Rattle.copy_ends.proofs.round.send_reply.Goals as goal

pub submit-requires-clause-fits : goal.submit-requires-clause-fits
submit-requires-clause-fits c =
    let q = c.requires in
    fits q.kind q.past c.args.server.now c.in-Some.message q.stands.came (sym c.in-Some.is ∙ c.in_ok-message.ensures.due q.kind q.past q.stands.came)

pub returns-clause-goes_on : goal.returns-clause-goes_on
returns-clause-goes_on c = λ kind past h.
    said_one kind past c.args.server.now c.next_message.new.self c.in-Some.message c.args.world.now c.submit.new.world h
    (sym c.in-Some.is ∙ c.in_ok-message.ensures.due kind past h.came) (c.in_ok-message.ensures.after kind past h.came) c.in_ok-submit.ensures.turned c.in_ok-submit.ensures.one
