use Rattle.std.proofs.Common.{ℕ, List, sym, ap, ◌∙◌}
use Rattle.smbd_base.specs.declared.next.Next.TheVariants as due
use Rattle.smbd_base.proofs.NextLemmas.{next-cut, next-closed, next-post, next-opening, next-sending, next-idle}
use Rattle.connection_core.proofs.TrackLemmas.{standing_cut, standing_closed, standing_going}
use Rattle.connection_core.proofs.track.Track.next.Goals as goal

pub returns-in-Cut : goal.returns-in-Cut
returns-in-Cut c =
    let t = c.args.self.now in
    sym (next-cut t.side t.limits t.past (standing_cut t.side t.limits t.past c.in-Cut.ensures.standing))

pub returns-in-Closed : goal.returns-in-Closed
returns-in-Closed c =
    let t = c.args.self.now in
    let h = standing_closed t.side t.limits t.past c.in-Closed.ensures.standing in
    sym (next-closed t.side t.limits t.past h.0 c.in-Closed.ensures.opened h.1)

pub returns-then-is_post_due : goal.returns-then-is_post_due
returns-then-is_post_due c =
    let t = c.args.self.now in
    let g = standing_going t.side t.limits t.past c.standing.result c.standing.ensures.standing c.in-Declining.is c.standing.ensures.opened in
    sym (next-post t.side t.limits t.past g (sym c.if-is_post_due.ensures))

pub returns-then-is_negotiating : goal.returns-then-is_negotiating
returns-then-is_negotiating c =
    let t = c.args.self.now in
    let g = standing_going t.side t.limits t.past c.standing.result c.standing.ensures.standing c.in-Declining.is c.standing.ensures.opened in
    ap (λ (f : List ℕ). due.Emit f) c.in_ok-negotiation_frame.ensures
    ∙ sym (next-opening t.side t.limits t.past g (sym c.if-is_post_due.ensures) (sym c.if-is_negotiating.ensures))

pub returns-then-is_sending : goal.returns-then-is_sending
returns-then-is_sending c =
    let t = c.args.self.now in
    let g = standing_going t.side t.limits t.past c.standing.result c.standing.ensures.standing c.in-Declining.is c.standing.ensures.opened in
    ap (λ (f : List ℕ). due.Emit f) c.in_ok-frame_due.ensures
    ∙ sym (next-sending t.side t.limits t.past g (sym c.if-is_post_due.ensures) (sym c.if-is_negotiating.ensures) (sym c.if-is_sending.ensures))

pub returns : goal.returns
returns c =
    let t = c.args.self.now in
    let g = standing_going t.side t.limits t.past c.standing.result c.standing.ensures.standing c.in-Declining.is c.standing.ensures.opened in
    sym (next-idle t.side t.limits t.past g (sym c.if-is_post_due.ensures) (sym c.if-is_negotiating.ensures) (sym c.if-is_sending.ensures))
