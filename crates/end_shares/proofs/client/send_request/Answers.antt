use Rattle.std.proofs.Common.{sym, ◌∙◌}
use Rattle.smbd_base.specs.declared.end_id.EndId.TheVariants as side
use Rattle.link_ends.specs.Ends.{view_of}
use Rattle.end_shares.proofs.Talking.{fits, said_one}
use Rattle.end_shares.proofs.client.send_request.Goals as goal

pub submit-requires-clause-fits : goal.submit-requires-clause-fits
submit-requires-clause-fits g c =
    let q = c.requires.talk in
    fits q.kind q.channel q.pages q.past c.args.client.now c.in-Some.message q.stands.came (sym c.in-Some.is ∙ c.in_ok-message.ensures.due q.kind q.channel q.pages q.past q.stands.came)

pub returns-clause-goes_on : goal.returns-clause-goes_on
returns-clause-goes_on g c = λ kind channel pages past h.
    said_one kind channel pages past c.args.client.now c.next_message.new.self c.in-Some.message (view_of c.args.end.now) (view_of c.submit.new.end) h
    (sym c.in-Some.is ∙ c.in_ok-message.ensures.due kind channel pages past h.came) (c.in_ok-message.ensures.after kind channel pages past h.came) (c.in_ok-submit.ensures.turned side.Client)
