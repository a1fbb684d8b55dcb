use Rattle.std.proofs.Common.{◌≡◌, [], ap}
use Rattle.world_core.specs.Attached.{Attached, linked_to}
use Rattle.world_core.specs.Paired.{ArePaired}
use Rattle.world_core.proofs.Attaching.{opened}
use Rattle.world_core.proofs.Stepping.{opened_paired}
use Rattle.world_core.proofs.world.World.open.Goals as goal

pub invariant_of-result : goal.invariant_of-result
invariant_of-result c =
    let client = c.in_ok-client.client in
    let server = c.in_ok-server.server in (
      opened_paired (linked_to client server) (linked_to server client) c.args.client c.args.server
          (λ i. linked_to (c.in_ok-client.ensures i) (c.in_ok-server.ensures i)) (λ i. linked_to (c.in_ok-server.ensures i) (c.in_ok-client.ensures i))
          c.history.ensures.lawful c.history-2.ensures.lawful,
      opened c.in_ok-link.link client server c.args.client c.args.server c.in_ok-link.ensures c.in_ok-client.ensures c.in_ok-server.ensures,
    )

pub returns-clause-joint : goal.returns-clause-joint
returns-clause-joint c =
    let client = c.in_ok-client.client in
    let server = c.in_ok-server.server in
    (opened_paired (linked_to client server) (linked_to server client) c.args.client c.args.server
    (λ i. linked_to (c.in_ok-client.ensures i) (c.in_ok-server.ensures i)) (λ i. linked_to (c.in_ok-server.ensures i) (c.in_ok-client.ensures i))
    c.history.ensures.lawful c.history-2.ensures.lawful).joint
