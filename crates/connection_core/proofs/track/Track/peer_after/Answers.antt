use Rattle.std.proofs.Common.{◌≡◌, Result, Err, ap, subst, ◌∙◌}
use Rattle.smbd_base.specs.declared.faults.NegotiateFault.{NegotiateFault}
use Rattle.connection_core.specs.Heard.{IsHeard}
use Rattle.connection_core.specs.declared.heard.Heard.{Heard}
use Rattle.connection_core.specs.declared.heard.Heard.TheVariants.{Negotiation}
use Rattle.connection_core.specs.declared.peer.Peer.{Peer}
use Rattle.connection_core.proofs.PeerLemmas.{first_refused}
use Rattle.connection_core.proofs.track.Track.peer_after.Goals as goal

pub unreachable-requires : goal.unreachable-requires
unreachable-requires c =
    let t = c.args.self.now in
    let said : c.in-Negotiation-Err.field-0 ≡ Err c.in-Negotiation-Err.field-0-0 = rw c.in-Negotiation-Err.is at c.in-Negotiation-Err.field-0-is in
    let is : c.args.heard.now ≡ Negotiation (Err c.in-Negotiation-Err.field-0-0) =
    c.in-Negotiation-Err.is ∙ ap (λ (r : Result Peer NegotiateFault). Negotiation r) said in
    let h = subst (λ (x : Heard). IsHeard t.side t.limits t.past c.args.frame.now x) is c.requires.heard in
    let so = first_refused t.side t.limits t.past c.args.frame.now c.in-Negotiation-Err.field-0-0 h.0 h.1 in
    let refused = c.requires.refused in
    let not_so = c.if-refused.false in
    cc
