use Rattle.std.proofs.Common.{sym, ◌∙◌}
use Rattle.copy_ends.proofs.Talking.{fits, said_one}
use Rattle.copy_ends.proofs.round.send_request.Goals as goal

pub submit-requires-clause-fits : goal.submit-requires-clause-fits
submit-requires-clause-fits c =
    let q = c.requires in
    fits q.kind q.channel q.pages q.past c.args.client.now c.in-Some.message q.stands.came (sym c.in-Some.is ∙ c.in_ok-message.ensures.due q.kind q.channel q.pages q.past q.stands.came)

pub returns-clause-goes_on : goal.returns-clause-goes_on
returns-clause-goes_on c = λ kind channel pages past h.
    said_one kind channel pages past c.args.client.now c.next_message.new.self c.in-Some.message c.args.world.now c.submit.new.world h
    (sym c.in-Some.is ∙ c.in_ok-message.ensures.due kind channel pages past h.came) (c.in_ok-message.ensures.after kind channel pages past h.came) c.in_ok-submit.ensures.turned
