use Rattle.std.proofs.Common.{ap}
use Rattle.sim_adapter.specs.Passes.{known_by}
use Rattle.world_core.specs.Met.{Met}
use Rattle.world_core.proofs.Meetings.{client_not_told, server_not_told}
use Rattle.world_core.proofs.met_link.MetLink.emit.Goals as goal

pub unreachable-requires : goal.unreachable-requires
unreachable-requires c =
    client_not_told c.self.inside.link c.emit-sent.new.pass c.self.inside.server c.meet.new.client c.meet.new.server c.args.self.now (known_by c.self.inside.client)
    c.meet.ensures.met c.meet.ensures.same c.meet.ensures.client_told (ap (λ (m : Met). m.server) c.self.view_is) c.requires.whole c.in-Cut.ensures.told.1

pub unreachable-requires-in-Cut-sent : goal.unreachable-requires-in-Cut-sent
unreachable-requires-in-Cut-sent c =
    let m = c.meet-in-Server in
    server_not_told c.self.inside.link c.self.inside.client c.emit-sent-in-Server.new.pass m.new.client m.new.server c.args.self.now (known_by c.self.inside.server)
    m.ensures.met m.ensures.same m.ensures.server_told (ap (λ (m : Met). m.client) c.self.view_is) c.requires.whole c.in-Cut-sent.ensures.told.1
