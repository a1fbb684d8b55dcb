use Rattle.std.proofs.Common.{subst}
use Rattle.world_core.specs.Attached.{linked_to}
use Rattle.world_core.specs.Run.{State, AreDelivered}
use Rattle.world_core.proofs.Stepping.{delivered}
use Rattle.world_core.proofs.world.World.history.Goals as goal

pub returns-in-Client-clause-delivered : goal.returns-in-Client-clause-delivered
returns-in-Client-clause-delivered c =
    subst (λ (s : State). AreDelivered s) c.self.view_is (delivered (linked_to c.self.inside.client c.self.inside.server) (linked_to c.self.inside.server c.self.inside.client) _ _ c.self.invariant.0)

pub returns-in-Server-clause-delivered : goal.returns-in-Server-clause-delivered
returns-in-Server-clause-delivered c =
    subst (λ (s : State). AreDelivered s) c.self.view_is (delivered (linked_to c.self.inside.client c.self.inside.server) (linked_to c.self.inside.server c.self.inside.client) _ _ c.self.invariant.0)
