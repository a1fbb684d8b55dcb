use Rattle.copy_parts.proofs.Working.{handed}
use Rattle.copy_parts.proofs.parts.Parts.hand.Goals as goal

pub returns : goal.returns
returns c = λ o p h.
    handed o p c.args.self.now c.hand_to_client.new.client c.hand_to_server.new.server c.hand_to_client.new.crew c.hand_to_server.new.crew h
    (c.hand_to_client.ensures.handed o.kind o.channel o.limits.pages p (record { came = h.client; coupled = h.under_way.manned.coupled }))
    c.hand_to_client.ensures.same c.hand_to_client.ensures.none
    (c.hand_to_server.ensures.handed o.kind) c.hand_to_server.ensures.same c.hand_to_server.ensures.none
