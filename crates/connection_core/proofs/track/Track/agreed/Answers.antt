use Rattle.std.proofs.Common.{◌≡◌, None, sym, subst}
use Rattle.smbd_base.specs.History.{agreed_of}
use Rattle.connection_core.specs.Peers.{Knows}
use Rattle.connection_core.specs.Tracked.{Tracked}
use Rattle.connection_core.specs.declared.peer.Peer.{Peer}
use Rattle.connection_core.proofs.PeerLemmas.{unheard_unwelcome, unsettled}
use Rattle.connection_core.proofs.track.Track.agreed.Goals as goal

pub returns-in-Unheard-clause-agreed : goal.returns-in-Unheard-clause-agreed
returns-in-Unheard-clause-agreed c =
    let t = c.self.inside in
    let unheard = subst (λ (p : Peer). Knows t.side t.limits t.history.past p) c.in-Unheard.is c.self.invariant.peer in
    subst (λ (v : Tracked). None ≡ agreed_of v.side v.limits v.past) c.self.view_is
    (sym (unsettled t.side t.limits t.history.past (unheard_unwelcome t.side t.limits t.history.past unheard)))

pub returns-in-Refused-clause-agreed : goal.returns-in-Refused-clause-agreed
returns-in-Refused-clause-agreed c =
    let t = c.self.inside in
    let refused = subst (λ (p : Peer). Knows t.side t.limits t.history.past p) c.in-Refused.is c.self.invariant.peer in
    subst (λ (v : Tracked). None ≡ agreed_of v.side v.limits v.past) c.self.view_is
    (sym (unsettled t.side t.limits t.history.past refused.unwelcome))
