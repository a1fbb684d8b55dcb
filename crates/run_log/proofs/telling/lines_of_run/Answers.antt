use Rattle.std.proofs.Common.{◌≡◌, ◌∙◌, ap, sym, ◌++◌, ◌∷◌, [], reverse, take, ℕ, List}
use Rattle.smbd_base.specs.declared.end_id.EndId.TheVariants.{Client, Server}
use Rattle.run_log.proofs.Following.{named_there, next_there, can_tell, told_own, told_other, client_more, server_more, all_told}
use Rattle.run_log.proofs.telling.lines_of_run.Goals as goal
use Rattle.run_log.proofs.telling.lines_of_run.Goals.{in-Client+in_ok-line-in-Client, in-Server+in_ok-line-in-Server}

pub next_line-requires-clause-more : goal.next_line-requires-clause-more
next_line-requires-clause-more c =
    let can = can_tell c.args.world.now c.order-order.result.now c.history-client.result.now c.history-server.result.now c.requires c.history-client.ensures.joint
    c.order-order.ensures c.history-client.ensures.past c.history-server.ensures.past in
    next_there Client c.order-order.result.now c.loop-end.end-index c.history-client.result.now c.loop-end.client_told.events c.loop-end.client_told.next c.loop-end-test.true
    (sym c.in-Client.is) can.client_events c.loop-end.invariant.client_told

pub next_line-requires-clause-few : goal.next_line-requires-clause-few
next_line-requires-clause-few c =
    (can_tell c.args.world.now c.order-order.result.now c.history-client.result.now c.history-server.result.now c.requires c.history-client.ensures.joint
    c.order-order.ensures c.history-client.ensures.past c.history-server.ensures.past).client_few

pub next_line-requires-clause-tellable : goal.next_line-requires-clause-tellable
next_line-requires-clause-tellable c =
    (can_tell c.args.world.now c.order-order.result.now c.history-client.result.now c.history-server.result.now c.requires c.history-client.ensures.joint
    c.order-order.ensures c.history-client.ensures.past c.history-server.ensures.past).client_tellable

pub next_line-requires-in-Server-clause-more : goal.next_line-requires-in-Server-clause-more
next_line-requires-in-Server-clause-more c =
    let can = can_tell c.args.world.now c.order-order.result.now c.history-client.result.now c.history-server.result.now c.requires c.history-client.ensures.joint
    c.order-order.ensures c.history-client.ensures.past c.history-server.ensures.past in
    next_there Server c.order-order.result.now c.loop-end.end-index c.history-server.result.now c.loop-end.server_told.events c.loop-end.server_told.next c.loop-end-test.true
    (named_there c.order-order.result.now c.loop-end.end-index Client Server c.loop-end-test.true c.in-Server.is) can.server_events c.loop-end.invariant.server_told

pub next_line-requires-in-Server-clause-few : goal.next_line-requires-in-Server-clause-few
next_line-requires-in-Server-clause-few c =
    (can_tell c.args.world.now c.order-order.result.now c.history-client.result.now c.history-server.result.now c.requires c.history-client.ensures.joint
    c.order-order.ensures c.history-client.ensures.past c.history-server.ensures.past).server_few

pub next_line-requires-in-Server-clause-tellable : goal.next_line-requires-in-Server-clause-tellable
next_line-requires-in-Server-clause-tellable c =
    (can_tell c.args.world.now c.order-order.result.now c.history-client.result.now c.history-server.result.now c.requires c.history-client.ensures.joint
    c.order-order.ensures c.history-client.ensures.past c.history-server.ensures.past).server_tellable

pub loop-end-preserved : goal.loop-end-preserved
loop-end-preserved c =
    let order = c.order-order.result.now in
    let i = c.loop-end.end-index in
    let client = c.history-client.result.now in
    let server = c.history-server.result.now in
    let was = c.loop-end in
    let within = c.loop-end-test.true in
    let can = can_tell c.args.world.now order client server c.requires c.history-client.ensures.joint c.order-order.ensures c.history-client.ensures.past c.history-server.ensures.past in
    elim c.match-end.branch [
      | in-Client+in_ok-line-in-Client w ↦
          let told = w.next_line.new.told in
          let next = w.in_ok-line-in-Client in
          let named = sym w.in-Client.is in
          let there = next_there Client order i client was.client_told.events was.client_told.next within named can.client_events was.invariant.client_told in
          let pushed : c.push.new.self.items ≡ was.lines.items ++ next.line ∷ [] = c.in_ok-push.ensures.items ∙ ap (λ (l : List ℕ). was.lines.items ++ l ∷ []) w.line-is in
          rw (w.client_told-is, w.server_told-is) (record {
            lines =
                client_more order i client was.client_told.events told.events (reverse (take was.server_told.events server)) was.lines.items c.push.new.self.items next.line
                within named there next.ensures.events was.invariant.lines next.ensures.line pushed;
            client_told =
                told_own Client order i client was.client_told.events was.client_told.next told.events told.next within named was.invariant.client_told next.ensures.events
                next.ensures.next;
            server_told = told_other Server order i server was.server_told.events was.server_told.next within named was.invariant.server_told;
          })
      | in-Server+in_ok-line-in-Server w ↦
          let told = w.next_line-in-Server.new.told in
          let next = w.in_ok-line-in-Server in
          let named = named_there order i Client Server within w.in-Server.is in
          let there = next_there Server order i server was.server_told.events was.server_told.next within named can.server_events was.invariant.server_told in
          let pushed : c.push.new.self.items ≡ was.lines.items ++ next.line ∷ [] = c.in_ok-push.ensures.items ∙ ap (λ (l : List ℕ). was.lines.items ++ l ∷ []) w.line-is in
          rw (w.client_told-is, w.server_told-is) (record {
            lines =
                server_more order i server was.server_told.events told.events (reverse (take was.client_told.events client)) was.lines.items c.push.new.self.items next.line
                within named there next.ensures.events was.invariant.lines next.ensures.line pushed;
            client_told = told_other Client order i client was.client_told.events was.client_told.next within named was.invariant.client_told;
            server_told =
                told_own Server order i server was.server_told.events was.server_told.next told.events told.next within named was.invariant.server_told next.ensures.events
                next.ensures.next;
          })
    ]

pub returns : goal.returns
returns c =
    all_told c.args.world.now c.requires c.order-order.result.now c.history-client.result.now c.history-server.result.now c.loop-end.end-index
    c.loop-end.client_told.events c.loop-end.server_told.events c.loop-end.client_told.next c.loop-end.server_told.next c.loop-end.lines.items
    c.order-order.ensures c.history-client.ensures.past c.history-server.ensures.past c.loop-end-test.false
    c.loop-end.invariant.client_told c.loop-end.invariant.server_told c.loop-end.invariant.lines
