use Rattle.std.proofs.Common.{◌≡◌, ◌∷◌, Bool, ◌||◌, not, true, sym, ap, subst, ◌∙◌}
use Rattle.smbd_base.specs.declared.event.Event.TheVariants.{Take}
use Rattle.smbd_base.specs.Counts.{is_out_of_turn, is_silent, is_unheard, peer_of}
use Rattle.smbd_base.specs.Grant.{credits_in}
use Rattle.smbd_base.specs.History.{is_ready, is_response_owed, take_fault}
use Rattle.connection_core.specs.Peers.{Knows}
use Rattle.connection_core.specs.Standing.{taken_standing}
use Rattle.connection_core.specs.Tracked.{Tracked}
use Rattle.connection_core.proofs.TrackLemmas.{Keeps-take}
use Rattle.connection_core.proofs.track.Track.add_take.Goals as goal

pub invariant_of-self : goal.invariant_of-self
invariant_of-self c =
    let view = sym c.self.view_is in
    Keeps-take c.self.inside c.push.new.self c.earn.new.ledger c.standing_after_taking-standing.result c.args.peer c.args.frame c.args.fault
    (not c.is_out_of_turn-in_turn.result) c.response_owed_after-response_owed.result c.grant_in-granted.result _ c.self.invariant
    (subst (λ (v : Tracked). is_ready v.side v.limits v.past ≡ true) view c.requires.ready)
    (subst (λ (v : Tracked). c.args.fault ≡ take_fault v.side v.limits v.past c.args.frame) view c.requires.fault)
    (subst (λ (v : Tracked). not c.is_out_of_turn-in_turn.result ≡ not (is_out_of_turn v.side v.past)) view (ap not c.is_out_of_turn-in_turn.ensures))
    (subst (λ (v : Tracked). c.grant_in-granted.result ≡ credits_in (peer_of v.side) (is_unheard v.past) c.args.frame) view c.grant_in-granted.ensures)
    (subst (λ (v : Tracked). c.standing_after_taking-standing.result ≡ taken_standing v.side (is_silent v.past) c.args.fault) view c.standing_after_taking-standing.ensures)
    (subst (λ (v : Tracked). Knows v.side v.limits (Take c.args.frame ∷ v.past) c.args.peer) view c.requires.peer)
    (subst (λ (v : Tracked). c.response_owed_after-response_owed.result ≡ is_response_owed (Take c.args.frame ∷ v.past)) view
    (c.response_owed_after-response_owed.ensures ∙ ap (λ (b : Bool). b || is_response_owed c.args.self.now.past) c.requires.asks))
    c.push.ensures c.earn.ensures
