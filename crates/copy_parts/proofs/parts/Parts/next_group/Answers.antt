use Rattle.std.proofs.Common.{◌∙◌}
use Rattle.copy_parts.proofs.Coming.{put-next, put-waiting, get-next, get-waiting}
use Rattle.copy_parts.proofs.parts.Parts.next_group.Goals as goal

pub returns-in-Put-clause-next : goal.returns-in-Put-clause-next
returns-in-Put-clause-next c = λ o p e s.
    put-next o p c.stored.result c.args.self.now c.stored.new.self (e ∙ c.in-Put.is) s (c.stored.ensures.due o.kind p.server s.server) (c.stored.ensures.after o.kind p.server s.server)

pub returns-in-Put-clause-fewer : goal.returns-in-Put-clause-fewer
returns-in-Put-clause-fewer c =
    let q = c.requires in
    let o = q.options in
    put-waiting c.args.kind o q.past c.stored.result c.args.self.now c.stored.new.self c.in-Put.is q.stands
    (c.stored.ensures.due o.kind q.past.server q.stands.server) (c.stored.ensures.after o.kind q.past.server q.stands.server)

pub returns-in-Get-clause-next : goal.returns-in-Get-clause-next
returns-in-Get-clause-next c = λ o p e s.
    get-next o p c.received.result c.args.self.now c.received.new.self (e ∙ c.in-Get.is) s (c.received.ensures.due o.kind o.channel o.limits.pages p.client s.client)
    (c.received.ensures.after o.kind o.channel o.limits.pages p.client s.client)

pub returns-in-Get-clause-fewer : goal.returns-in-Get-clause-fewer
returns-in-Get-clause-fewer c =
    let q = c.requires in
    let o = q.options in
    get-waiting c.args.kind o q.past c.received.result c.args.self.now c.received.new.self q.kind_is c.in-Get.is q.stands
    (c.received.ensures.due o.kind o.channel o.limits.pages q.past.client q.stands.client) (c.received.ensures.after o.kind o.channel o.limits.pages q.past.client q.stands.client)
