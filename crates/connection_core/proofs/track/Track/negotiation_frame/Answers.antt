use Rattle.std.proofs.Common.{◌≡◌, ℕ, List, false, true, sym, ap, subst, ◌∙◌, arith}
use Rattle.std.specs.Prelude.{IfOk}
use Rattle.smbd_base.specs.History.{is_closed, is_cut, is_negotiating, is_post_due, negotiation_frame}
use Rattle.smbd_base.specs.NegotiateMessages.{answer_to, response_bytes}
use Rattle.smbd_base.proofs.BalanceLemmas.{silent_opening}
use Rattle.negotiate_msg.specs.Shown.{shown_request}
use Rattle.connection_core.specs.Peers.{Knows}
use Rattle.connection_core.specs.Tracked.{Tracked}
use Rattle.connection_core.specs.declared.peer.Peer.{Peer}
use Rattle.connection_core.proofs.PeerLemmas.{grantable_some, opens-response, opens-refusing}
use Rattle.connection_core.proofs.TrackLemmas.{balance}
use Rattle.connection_core.proofs.track.Track.negotiation_frame.Goals as goal

pub response-requires-clause-grantable : goal.response-requires-clause-grantable
response-requires-clause-grantable c =
    let t = c.self.inside in
    let k = c.self.invariant in
    let view = sym c.self.view_is in
    let heard = subst (λ (p : Peer). Knows t.side t.limits t.history.past p) c.in-Requests.is k.peer in
    let opening = subst (λ (v : Tracked). is_negotiating v.side v.past ≡ true) view c.requires.opening in
    let some = grantable_some t.side t.limits t.history.past k.lawful (balance t k) (silent_opening t.side t.history.past opening) heard.heard
    (subst (λ (v : Tracked). is_cut v.past ≡ false) view c.requires.uncut)
    (subst (λ (v : Tracked). is_closed v.side v.limits v.past ≡ false) view c.requires.going)
    (subst (λ (v : Tracked). is_post_due v.past ≡ false) view c.requires.reposted) in
    omega (arith, some, c.grantable.ensures, k.ledger.counts.grantable)

pub returns-in-Requests : goal.returns-in-Requests
returns-in-Requests c =
    let t = c.self.inside in
    let k = c.self.invariant in
    let heard = subst (λ (p : Peer). Knows t.side t.limits t.history.past p) c.in-Requests.is k.peer in
    let is : response_bytes (answer_to (shown_request c.in-Requests.request) t.limits c.grantable.result) ≡ negotiation_frame t.side t.limits t.history.past =
    ap (λ (n : ℕ). response_bytes (answer_to (shown_request c.in-Requests.request) t.limits n)) (c.grantable.ensures ∙ k.ledger.counts.grantable)
    ∙ opens-response t.side t.limits t.history.past c.in-Requests.request heard in
    subst (λ (v : Tracked). IfOk c.response.result (λ f. f ≡ negotiation_frame v.side v.limits v.past)) c.self.view_is
    (subst (λ (bytes : List ℕ). IfOk c.response.result (λ f. f ≡ bytes)) is c.response.ensures)

pub returns-in-Refused : goal.returns-in-Refused
returns-in-Refused c =
    let t = c.self.inside in
    let k = c.self.invariant in
    let refused = subst (λ (p : Peer). Knows t.side t.limits t.history.past p) c.in-Refused.is k.peer in
    let is = opens-refusing t.side t.limits t.history.past k.legal refused
    (subst (λ (v : Tracked). is_closed v.side v.limits v.past ≡ false) (sym c.self.view_is) c.requires.going) in
    subst (λ (v : Tracked). IfOk c.refusing.result (λ f. f ≡ negotiation_frame v.side v.limits v.past)) c.self.view_is
    (subst (λ (bytes : List ℕ). IfOk c.refusing.result (λ f. f ≡ bytes)) is c.refusing.ensures)
