-- An end at which a frame comes next is not cut, and one that refused no frame has not to close.
use Rattle.std.proofs.Common.{◌≡◌, ℕ, Bool, true, false, cond, List, refl}
use Rattle.std.specs.Prelude.{◌&&◌}
use Rattle.smbd_base.specs.declared.end_id.EndId.{EndId}
use Rattle.smbd_base.specs.declared.event.Event.{Event}
use Rattle.smbd_base.specs.declared.next.Next.TheVariants as due
use Rattle.smbd_base.specs.Limits.{Limits}
use Rattle.smbd_base.specs.History.{next_event, negotiation_frame, frame_due, is_cut, is_new, is_refused, is_closed, is_post_due, is_negotiating, is_sending}
use Rattle.smbd_base.proofs.Inversion.{emits}

closes_by : (cut new closed post opening sending : Bool) (n : ℕ) (first later : List ℕ)
    → cond cut due.Idle (cond new (due.Post n) (cond closed due.Close (cond post (due.Post 1) (cond opening (due.Emit first) (cond sending (due.Emit later) due.Idle))))) ≡ due.Close
    → closed ≡ true
closes_by true new closed post opening sending n first later e = absurd (let b : ⊥ = cc in b)
closes_by false true closed post opening sending n first later e = absurd (let b : ⊥ = cc in b)
closes_by false false true post opening sending n first later e = refl
closes_by false false false true opening sending n first later e = absurd (let b : ⊥ = cc in b)
closes_by false false false false true sending n first later e = absurd (let b : ⊥ = cc in b)
closes_by false false false false false true n first later e = absurd (let b : ⊥ = cc in b)
closes_by false false false false false false n first later e = absurd (let b : ⊥ = cc in b)

refused_by : (refused rest : Bool) → refused ≡ false → (refused && rest) ≡ true → ⊥
refused_by true rest e c = cc
refused_by false rest e c = let d : false ≡ true = c in cc

pub closes_never : (side : EndId) (limits : Limits) (past : List Event) → is_refused side limits past ≡ false → next_event side limits past ≡ due.Close → ⊥
unfolding next_event
closes_never side limits past whole e =
    let closed : is_closed side limits past ≡ true = closes_by (is_cut past) (is_new past) (is_closed side limits past) (is_post_due past) (is_negotiating side past) (is_sending side limits past)
    limits.credits (negotiation_frame side limits past) (frame_due side limits past) e in
    refused_by (is_refused side limits past) _ whole closed

pub emits_uncut : (side : EndId) (limits : Limits) (past : List Event) (frame : List ℕ) → next_event side limits past ≡ due.Emit frame → is_cut past ≡ false
emits_uncut side limits past frame e = (emits side limits past frame e).going.cut
