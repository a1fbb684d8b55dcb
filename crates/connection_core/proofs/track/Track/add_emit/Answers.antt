use Rattle.std.proofs.Common.{◌≡◌, sym, subst, ap, ◌∙◌}
use Rattle.smbd_base.specs.declared.next.Next.TheVariants as due
use Rattle.smbd_base.specs.History.{next_event}
use Rattle.connection_core.specs.Standing.{standing_of, sent_standing}
use Rattle.connection_core.specs.Tracked.{Tracked}
use Rattle.connection_core.proofs.TrackLemmas.{Keeps-emit, holds_one, may_be_spent}
use Rattle.connection_core.proofs.track.Track.add_emit.Goals as goal

pub spend-requires-clause-one : goal.spend-requires-clause-one
spend-requires-clause-one c = holds_one c.self.inside c.granted-granted.result c.self.invariant

pub spend-requires-clause-may : goal.spend-requires-clause-may
spend-requires-clause-may c =
    may_be_spent c.self.inside c.args.frame c.granted-granted.result c.self.invariant
    (subst (λ (t : Tracked). next_event t.side t.limits t.past ≡ due.Emit c.args.frame) (sym c.self.view_is) c.requires.due) c.granted-granted.ensures

pub invariant_of-self : goal.invariant_of-self
invariant_of-self c =
    Keeps-emit c.self.inside c.push.new.self c.spend.new.ledger c.standing_after_sending-standing.result c.args.frame c.granted-granted.result _ c.self.invariant
    (subst (λ (t : Tracked). next_event t.side t.limits t.past ≡ due.Emit c.args.frame) (sym c.self.view_is) c.requires.due) c.granted-granted.ensures
    (c.standing_after_sending-standing.ensures ∙ ap (λ (t : Tracked). sent_standing (standing_of t.side t.limits t.past)) (sym c.self.view_is))
    c.push.ensures c.spend.ensures
