use Rattle.std.proofs.Common.{◌≡◌, false, sym, subst}
use Rattle.smbd_base.specs.History.{is_agreed}
use Rattle.connection_core.specs.Peers.{Knows}
use Rattle.connection_core.specs.Tracked.{Tracked}
use Rattle.connection_core.specs.declared.peer.Peer.{Peer}
use Rattle.connection_core.proofs.PeerLemmas.{unheard_unwelcome, unagreed}
use Rattle.connection_core.proofs.track.Track.is_agreed.Goals as goal

pub returns-in-Unheard : goal.returns-in-Unheard
returns-in-Unheard c =
    let t = c.self.inside in
    let unheard = subst (λ (p : Peer). Knows t.side t.limits t.history.past p) c.in-Unheard.is c.self.invariant.peer in
    subst (λ (v : Tracked). false ≡ is_agreed v.side v.limits v.past) c.self.view_is
    (sym (unagreed t.side t.limits t.history.past (unheard_unwelcome t.side t.limits t.history.past unheard)))
