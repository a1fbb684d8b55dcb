use Rattle.std.proofs.Common.{sym, ◌∙◌, reverse}
use Rattle.world_core.specs.Attached.{linked_to}
use Rattle.world_core.proofs.Attaching.{turned}
use Rattle.world_core.proofs.Stepping.{client_pair, server_pair, client_paired, server_paired, client_stepped, server_stepped, delivered, few, once_quiet}
use Rattle.world_core.proofs.world.World.step.Goals as goal

pub record_act-requires : goal.record_act-requires
record_act-requires c = record {
  pair = client_pair (linked_to c.self.inside.client c.self.inside.server) (linked_to c.self.inside.server c.self.inside.client) c.self.invariant.0;
  tied = c.self.invariant.1;
}

pub invariant_of-self : goal.invariant_of-self
invariant_of-self c = let r = c.record_act in (
  client_paired r.result (linked_to c.self.inside.client c.self.inside.server) (linked_to c.self.inside.server c.self.inside.client)
      (linked_to r.new.own r.new.peer) (linked_to r.new.peer r.new.own) c.self.inside.link_cut c.args.choice.now
      c.self.invariant.0 r.ensures.own r.ensures.peer r.ensures.own_same r.ensures.peer_same,
  r.ensures.tied,
)

pub returns-in-Client-clause-step : goal.returns-in-Client-clause-step
returns-in-Client-clause-step c =
    let r = c.record_act in
    client_stepped r.result (linked_to c.self.inside.client c.self.inside.server) (linked_to c.self.inside.server c.self.inside.client)
    (linked_to r.new.own r.new.peer) (linked_to r.new.peer r.new.own) c.self.inside.link_cut r.new.link_cut
    (reverse c.self.inside.order.items) (reverse r.new.order.items) c.args.choice.now c.args.self.now c.self.invariant.0 (sym c.end.ensures ∙ c.in-Client.is) c.self.view_is
    r.ensures.own r.ensures.peer r.ensures.link r.ensures.order

pub returns-in-Client-clause-joint : goal.returns-in-Client-clause-joint
returns-in-Client-clause-joint c =
    let r = c.record_act in
    (client_paired r.result (linked_to c.self.inside.client c.self.inside.server) (linked_to c.self.inside.server c.self.inside.client)
    (linked_to r.new.own r.new.peer) (linked_to r.new.peer r.new.own) c.self.inside.link_cut c.args.choice.now
    c.self.invariant.0 r.ensures.own r.ensures.peer r.ensures.own_same r.ensures.peer_same).joint

pub returns-in-Client-clause-delivered : goal.returns-in-Client-clause-delivered
returns-in-Client-clause-delivered c =
    let r = c.record_act in
    delivered (linked_to r.new.own r.new.peer) (linked_to r.new.peer r.new.own) r.new.link_cut (reverse r.new.order.items)
    (client_paired r.result (linked_to c.self.inside.client c.self.inside.server) (linked_to c.self.inside.server c.self.inside.client)
    (linked_to r.new.own r.new.peer) (linked_to r.new.peer r.new.own) c.self.inside.link_cut c.args.choice.now
    c.self.invariant.0 r.ensures.own r.ensures.peer r.ensures.own_same r.ensures.peer_same)

pub returns-in-Client-clause-few_empty : goal.returns-in-Client-clause-few_empty
returns-in-Client-clause-few_empty c =
    let r = c.record_act in
    few (linked_to r.new.own r.new.peer) (linked_to r.new.peer r.new.own) r.new.link_cut (reverse r.new.order.items)
    (client_paired r.result (linked_to c.self.inside.client c.self.inside.server) (linked_to c.self.inside.server c.self.inside.client)
    (linked_to r.new.own r.new.peer) (linked_to r.new.peer r.new.own) c.self.inside.link_cut c.args.choice.now
    c.self.invariant.0 r.ensures.own r.ensures.peer r.ensures.own_same r.ensures.peer_same)

pub returns-in-Client-clause-quiet : goal.returns-in-Client-clause-quiet
returns-in-Client-clause-quiet c =
    let r = c.record_act in
    once_quiet (linked_to r.new.own r.new.peer) (linked_to r.new.peer r.new.own) r.new.link_cut (reverse r.new.order.items)
    (client_paired r.result (linked_to c.self.inside.client c.self.inside.server) (linked_to c.self.inside.server c.self.inside.client)
    (linked_to r.new.own r.new.peer) (linked_to r.new.peer r.new.own) c.self.inside.link_cut c.args.choice.now
    c.self.invariant.0 r.ensures.own r.ensures.peer r.ensures.own_same r.ensures.peer_same)

pub record_act-requires-in-Server : goal.record_act-requires-in-Server
record_act-requires-in-Server c = record {
  pair = server_pair (linked_to c.self.inside.client c.self.inside.server) (linked_to c.self.inside.server c.self.inside.client) c.self.invariant.0;
  tied = turned c.self.inside.link c.self.inside.client c.self.inside.server c.self.inside.link_cut c.self.invariant.1;
}

pub invariant_of-self-in-Server : goal.invariant_of-self-in-Server
invariant_of-self-in-Server c = let r = c.record_act-in-Server in (
  server_paired r.result (linked_to c.self.inside.client c.self.inside.server) (linked_to c.self.inside.server c.self.inside.client)
      (linked_to r.new.peer r.new.own) (linked_to r.new.own r.new.peer) c.self.inside.link_cut c.args.choice.now
      c.self.invariant.0 r.ensures.own r.ensures.peer r.ensures.own_same r.ensures.peer_same,
  turned r.new.link r.new.own r.new.peer r.new.link_cut r.ensures.tied,
)

pub returns-in-Server-clause-step : goal.returns-in-Server-clause-step
returns-in-Server-clause-step c =
    let r = c.record_act-in-Server in
    server_stepped r.result (linked_to c.self.inside.client c.self.inside.server) (linked_to c.self.inside.server c.self.inside.client)
    (linked_to r.new.peer r.new.own) (linked_to r.new.own r.new.peer) c.self.inside.link_cut r.new.link_cut
    (reverse c.self.inside.order.items) (reverse r.new.order.items) c.args.choice.now c.args.self.now c.self.invariant.0 (sym c.end.ensures ∙ c.in-Server.is) c.self.view_is
    r.ensures.own r.ensures.peer r.ensures.link r.ensures.order

pub returns-in-Server-clause-joint : goal.returns-in-Server-clause-joint
returns-in-Server-clause-joint c =
    let r = c.record_act-in-Server in
    (server_paired r.result (linked_to c.self.inside.client c.self.inside.server) (linked_to c.self.inside.server c.self.inside.client)
    (linked_to r.new.peer r.new.own) (linked_to r.new.own r.new.peer) c.self.inside.link_cut c.args.choice.now
    c.self.invariant.0 r.ensures.own r.ensures.peer r.ensures.own_same r.ensures.peer_same).joint

pub returns-in-Server-clause-delivered : goal.returns-in-Server-clause-delivered
returns-in-Server-clause-delivered c =
    let r = c.record_act-in-Server in
    delivered (linked_to r.new.peer r.new.own) (linked_to r.new.own r.new.peer) r.new.link_cut (reverse r.new.order.items)
    (server_paired r.result (linked_to c.self.inside.client c.self.inside.server) (linked_to c.self.inside.server c.self.inside.client)
    (linked_to r.new.peer r.new.own) (linked_to r.new.own r.new.peer) c.self.inside.link_cut c.args.choice.now
    c.self.invariant.0 r.ensures.own r.ensures.peer r.ensures.own_same r.ensures.peer_same)

pub returns-in-Server-clause-few_empty : goal.returns-in-Server-clause-few_empty
returns-in-Server-clause-few_empty c =
    let r = c.record_act-in-Server in
    few (linked_to r.new.peer r.new.own) (linked_to r.new.own r.new.peer) r.new.link_cut (reverse r.new.order.items)
    (server_paired r.result (linked_to c.self.inside.client c.self.inside.server) (linked_to c.self.inside.server c.self.inside.client)
    (linked_to r.new.peer r.new.own) (linked_to r.new.own r.new.peer) c.self.inside.link_cut c.args.choice.now
    c.self.invariant.0 r.ensures.own r.ensures.peer r.ensures.own_same r.ensures.peer_same)

pub returns-in-Server-clause-quiet : goal.returns-in-Server-clause-quiet
returns-in-Server-clause-quiet c =
    let r = c.record_act-in-Server in
    once_quiet (linked_to r.new.peer r.new.own) (linked_to r.new.own r.new.peer) r.new.link_cut (reverse r.new.order.items)
    (server_paired r.result (linked_to c.self.inside.client c.self.inside.server) (linked_to c.self.inside.server c.self.inside.client)
    (linked_to r.new.peer r.new.own) (linked_to r.new.own r.new.peer) c.self.inside.link_cut c.args.choice.now
    c.self.invariant.0 r.ensures.own r.ensures.peer r.ensures.own_same r.ensures.peer_same)
