use Rattle.copy_parts.proofs.Working.{given}
use Rattle.copy_parts.proofs.parts.Parts.give.Goals as goal

pub returns : goal.returns
returns c = λ o p h.
    given c.give_for_server.result o p c.args.self.now c.give_for_client.new.client c.give_for_server.new.server c.give_for_client.new.crew c.give_for_server.new.crew h
    (c.in_ok-give_for_client.ensures.given o.kind o.channel o.limits.pages p (record { came = h.client; coupled = h.under_way.manned.coupled }))
    c.in_ok-give_for_client.ensures.same c.in_ok-give_for_client.ensures.untaken
    (c.give_for_server.ensures.given o.kind) c.give_for_server.ensures.same c.give_for_server.ensures.untaken
