-- An end that has refused no frame takes what comes and refuses no message.
use Rattle.std.proofs.Common.{◌≡◌, ℕ, ◌≤◌, ◌==◌, nat_lt, not, ◌&&◌, Bool, true, false, cond, Some, None, List, length, refl, arith}
use Rattle.std.proofs.lemmas.Bool.Decides.{nat_tests}
use Rattle.smbd_base.specs.declared.end_id.EndId.{EndId}
use Rattle.smbd_base.specs.declared.event.Event.{Event}
use Rattle.smbd_base.specs.declared.faults.SubmitFault.TheVariants as refusals
use Rattle.smbd_base.specs.Limits.{Limits}
use Rattle.smbd_base.specs.History.{submit_fault, message_limit, is_cut, is_new, is_open, is_ready, is_refused, is_post_due}
use Rattle.link_ends.specs.declared.link_end.LinkEnd.{LinkEnd}
use Rattle.link_ends.specs.Beside.{limits_in}
use Rattle.link_ends.specs.Ends.{view_of, past_of}
use Rattle.copy_ends.specs.Turns.{IsSendable}
use Rattle.copy_ends.proofs.Accepted.{idle_posted, limit_most}
use Rattle.end_shares.specs.Turns.{IsIdle}

open_by : (cut refused new : Bool) → cut ≡ false → refused ≡ false → new ≡ false → (not cut && not refused && not new) ≡ true
open_by true refused new c r n = absurd (let b : ⊥ = cc in b)
open_by false true new c r n = absurd (let b : ⊥ = cc in b)
open_by false false true c r n = absurd (let b : ⊥ = cc in b)
open_by false false false c r n = refl

ready_by : (going post : Bool) → going ≡ true → post ≡ false → (going && not post) ≡ true
ready_by true true g p = absurd (let b : ⊥ = cc in b)
ready_by true false g p = refl
ready_by false post g p = absurd (let b : ⊥ = cc in b)

unrefused_by : (going empty long : Bool) → going ≡ true → empty ≡ false → long ≡ false
    → cond (not going) (Some refusals.Closed) (cond empty (Some refusals.Empty) (cond long (Some refusals.TooLong) None)) ≡ None
unrefused_by false empty long o e l = absurd (let b : ⊥ = cc in b)
unrefused_by true true long o e l = absurd (let b : ⊥ = cc in b)
unrefused_by true false true o e l = absurd (let b : ⊥ = cc in b)
unrefused_by true false false o e l = refl

not_empty : (n : ℕ) → 1 ≤ n → (n == 0) ≡ false
not_empty n h = grind (arith, nat_tests)

not_longer : (n most : ℕ) → n ≤ most → nat_lt most n ≡ false
not_longer n most h = grind (arith, nat_tests)

never_refused : (side : EndId) (limits : Limits) (past : List Event) (message : List ℕ) → is_open side limits past ≡ true → IsSendable message → submit_fault side limits past message ≡ None
never_refused side limits past message opened s =
    unrefused_by (is_open side limits past) (length message == 0) (nat_lt (message_limit side limits past) (length message))
    opened (not_empty (length message) s.some)
    (not_longer (length message) (message_limit side limits past) (let least = limit_most side limits past in let short : length message ≤ 131072 = s.short in omega arith))

-- an end that is not cut
opened_at : (e : LinkEnd) → is_cut (past_of e) ≡ false → is_open (view_of e).side (limits_in (view_of e)) (past_of e) ≡ true
opened_at e uncut = open_by (is_cut (past_of e)) (is_refused (view_of e).side (limits_in (view_of e)) (past_of e)) (is_new (past_of e)) uncut e.one.3 e.one.2

pub ready_at : (e : LinkEnd) → is_cut (past_of e) ≡ false → IsIdle (view_of e) → is_ready (view_of e).side (limits_in (view_of e)) (past_of e) ≡ true
ready_at e uncut idle =
    ready_by (is_open (view_of e).side (limits_in (view_of e)) (past_of e)) (is_post_due (past_of e)) (opened_at e uncut)
    (idle_posted (view_of e).side (limits_in (view_of e)) (past_of e) (record { opened = e.one.2; uncut = uncut }) idle)

pub accepts_at : (e : LinkEnd) (message : List ℕ) → is_cut (past_of e) ≡ false → IsSendable message → submit_fault (view_of e).side (limits_in (view_of e)) (past_of e) message ≡ None
accepts_at e message uncut s = never_refused (view_of e).side (limits_in (view_of e)) (past_of e) message (opened_at e uncut) s
