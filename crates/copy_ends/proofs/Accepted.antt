-- No end of two that fit together has refused a frame, and so none refuses a message for anything but its length.
use Rattle.std.proofs.Common.{◌≡◌, ℕ, ◌≤◌, ◌==◌, nat_lt, Bool, true, false, not, ◌&&◌, cond, List, [], ◌∷◌, length, Option, Some, None, is_some, refl, ap, arith}
use Rattle.std.proofs.lemmas.Bool.Decides.{nat_tests}
use Rattle.smbd_base.specs.declared.end_id.EndId.{EndId}
use Rattle.smbd_base.specs.declared.end_id.EndId.TheVariants.{Client, Server}
use Rattle.smbd_base.specs.declared.event.Event.{Event}
use Rattle.smbd_base.specs.declared.event.Event.TheVariants.{Post, Submit, Emit, Take, Cut}
use Rattle.smbd_base.specs.declared.faults.SubmitFault.TheVariants as refusals
use Rattle.smbd_base.specs.declared.faults.NegotiateFault.{NegotiateFault}
use Rattle.smbd_base.specs.declared.next.Next.TheVariants as due
use Rattle.smbd_base.specs.Limits.{Limits}
use Rattle.smbd_base.specs.NegotiateMessages.{request_fields, request_fault, response_fields, response_fault, fault_in_request, fault_in_response}
use Rattle.smbd_base.specs.History.{next_event, submit_fault, message_limit, settled, settled_by, negotiation_fault, negotiation_frame, frame_due, peer_negotiation, is_cut, is_new, is_open, is_ready, is_refused, is_version_refused, is_closed, is_post_due, is_negotiating, is_sending, is_agreed, is_welcomed}
use Rattle.smbd_base.specs.Counts.{is_silent}
use Rattle.smbd_base.specs.Joint.{AreAccepted}
use Rattle.smbd_base.proofs.Inversion.{both}
use Rattle.smbd_base.proofs.NegotiationLaws.{lawful_request, lawful_response}
use Rattle.smbd_laws.proofs.Settling.{welcomed_sound}
use Rattle.world_core.specs.Run.{State, past_of, limits_of, AreJointIn}
use Rattle.copy_ends.specs.Turns.{GoesOn, IsSendable}

-- ---- no frame was refused

pub accepted : (end : EndId) (w : State) → AreJointIn w → AreAccepted end (limits_of end w) (past_of end w)
accepted Client w j = j.linked.client_accepted
accepted Server w j = j.linked.server_accepted

pub none_refused : (end : EndId) (limits : Limits) (past : List Event) → AreAccepted end limits past → is_refused end limits past ≡ false
none_refused end limits [] a = refl
none_refused end limits (Post n ∷ past) a = none_refused end limits past a
none_refused end limits (Submit m ∷ past) a = none_refused end limits past a
none_refused end limits (Emit f ∷ past) a = none_refused end limits past a
none_refused end limits (Take f ∷ past) a = ap is_some a.0
none_refused end limits (Cut ∷ past) a = none_refused end limits past a

closes_by : (cut new closed post opening sending : Bool) (n : ℕ) (first later : List ℕ)
    → cond cut due.Idle (cond new (due.Post n) (cond closed due.Close (cond post (due.Post 1) (cond opening (due.Emit first) (cond sending (due.Emit later) due.Idle))))) ≡ due.Close
    → closed ≡ true
closes_by true new closed post opening sending n first later e = absurd (let b : ⊥ = cc in b)
closes_by false true closed post opening sending n first later e = absurd (let b : ⊥ = cc in b)
closes_by false false true post opening sending n first later e = refl
closes_by false false false true opening sending n first later e = absurd (let b : ⊥ = cc in b)
closes_by false false false false true sending n first later e = absurd (let b : ⊥ = cc in b)
closes_by false false false false false true n first later e = absurd (let b : ⊥ = cc in b)
closes_by false false false false false false n first later e = absurd (let b : ⊥ = cc in b)

unrefused_closed : (refused rest : Bool) → refused ≡ false → (refused && rest) ≡ true → ⊥
unrefused_closed true rest e f = cc
unrefused_closed false rest e f = cc

-- so it need not close
pub never_closes : (end : EndId) (limits : Limits) (past : List Event) → is_refused end limits past ≡ false → next_event end limits past ≡ due.Close → ⊥
unfolding next_event
never_closes end limits past e close =
    unrefused_closed (is_refused end limits past) (not (is_version_refused end limits past && is_silent past)) e
    (closes_by (is_cut past) (is_new past) (is_closed end limits past) (is_post_due past) (is_negotiating end past) (is_sending end limits past)
    limits.credits (negotiation_frame end limits past) (frame_due end limits past) close)

idle_posts : (cut new closed post opening sending : Bool) (n : ℕ) (first later : List ℕ) → cut ≡ false → new ≡ false
    → cond cut due.Idle (cond new (due.Post n) (cond closed due.Close (cond post (due.Post 1) (cond opening (due.Emit first) (cond sending (due.Emit later) due.Idle))))) ≡ due.Idle
    → post ≡ false
idle_posts true new closed post opening sending n first later c f e = absurd (let b : ⊥ = cc in b)
idle_posts false true closed post opening sending n first later c f e = absurd (let b : ⊥ = cc in b)
idle_posts false false true post opening sending n first later c f e = absurd (let b : ⊥ = cc in b)
idle_posts false false false true opening sending n first later c f e = absurd (let b : ⊥ = cc in b)
idle_posts false false false false opening sending n first later c f e = refl

-- an end at which nothing comes next has posted its receives
pub idle_posted : (end : EndId) (limits : Limits) (past : List Event) → GoesOn past → next_event end limits past ≡ due.Idle → is_post_due past ≡ false
unfolding next_event
idle_posted end limits past g e =
    idle_posts (is_cut past) (is_new past) (is_closed end limits past) (is_post_due past) (is_negotiating end past) (is_sending end limits past)
    limits.credits (negotiation_frame end limits past) (frame_due end limits past) g.uncut g.opened e

-- ---- the longest message

long_enough : (short : Bool) (fault : NegotiateFault) (o : Option NegotiateFault) → cond short (Some fault) o ≡ None → o ≡ None
long_enough true fault o e = absurd (let b : ⊥ = cc in b)
long_enough false fault o e = e

sound_request : (bytes : List ℕ) → request_fault bytes ≡ None → fault_in_request (request_fields bytes) ≡ None
unfolding request_fault
sound_request bytes e = long_enough _ _ (fault_in_request (request_fields bytes)) e

sound_response : (limits : Limits) (bytes : List ℕ) → response_fault limits bytes ≡ None → fault_in_response limits (response_fields bytes) ≡ None
unfolding response_fault
sound_response limits bytes e = long_enough _ _ (fault_in_response limits (response_fields bytes)) e

settled_most : (end : EndId) (limits : Limits) (frame : List ℕ) → negotiation_fault end limits frame ≡ None → 131072 ≤ (settled_by end limits frame).message_max
settled_most Client limits frame e = (lawful_response limits (response_fields frame) (sound_response limits frame e)).max_fragmented_size
settled_most Server limits frame e = (lawful_request (request_fields frame) (sound_request frame e)).max_fragmented_size

limit_by : (agreed : Bool) (most : ℕ) → (agreed ≡ true → 131072 ≤ most) → 131072 ≤ cond agreed most 131072
limit_by true most h = h refl
limit_by false most h = omega arith

pub limit_most : (end : EndId) (limits : Limits) (past : List Event) → 131072 ≤ message_limit end limits past
limit_most end limits past = limit_by (is_agreed end limits past) (settled end limits past).message_max
    (λ (agreed : is_agreed end limits past ≡ true). settled_most end limits (peer_negotiation past)
    (welcomed_sound end limits past (both (is_welcomed end limits past) (not (is_silent past)) agreed).0))

-- ---- no message is refused

open_by : (cut refused new : Bool) → cut ≡ false → refused ≡ false → new ≡ false → (not cut && not refused && not new) ≡ true
open_by true refused new c r n = absurd (let b : ⊥ = cc in b)
open_by false true new c r n = absurd (let b : ⊥ = cc in b)
open_by false false true c r n = absurd (let b : ⊥ = cc in b)
open_by false false false c r n = refl

unrefused_by : (going empty long : Bool) → going ≡ true → empty ≡ false → long ≡ false
    → cond (not going) (Some refusals.Closed) (cond empty (Some refusals.Empty) (cond long (Some refusals.TooLong) None)) ≡ None
unrefused_by false empty long o e l = absurd (let b : ⊥ = cc in b)
unrefused_by true true long o e l = absurd (let b : ⊥ = cc in b)
unrefused_by true false true o e l = absurd (let b : ⊥ = cc in b)
unrefused_by true false false o e l = refl

not_empty : (n : ℕ) → 1 ≤ n → (n == 0) ≡ false
not_empty n h = grind (arith, nat_tests)

not_longer : (n most : ℕ) → n ≤ most → nat_lt most n ≡ false
not_longer n most h = grind (arith, nat_tests)

pub is_opened : (end : EndId) (limits : Limits) (past : List Event) → AreAccepted end limits past → GoesOn past → is_open end limits past ≡ true
is_opened end limits past a g = open_by (is_cut past) (is_refused end limits past) (is_new past) g.uncut (none_refused end limits past a) g.opened

ready_by : (going post : Bool) → going ≡ true → post ≡ false → (going && not post) ≡ true
ready_by true true g p = absurd (let b : ⊥ = cc in b)
ready_by true false g p = refl
ready_by false post g p = absurd (let b : ⊥ = cc in b)

pub ready : (end : EndId) (limits : Limits) (past : List Event) → AreAccepted end limits past → GoesOn past → is_post_due past ≡ false → is_ready end limits past ≡ true
ready end limits past a g p = ready_by (is_open end limits past) (is_post_due past) (is_opened end limits past a g) p

pub never_refused : (end : EndId) (limits : Limits) (past : List Event) (message : List ℕ) → AreAccepted end limits past → GoesOn past → IsSendable message
    → submit_fault end limits past message ≡ None
never_refused end limits past message a g s =
    unrefused_by (is_open end limits past) (length message == 0) (nat_lt (message_limit end limits past) (length message))
    (is_opened end limits past a g) (not_empty (length message) s.some)
    (not_longer (length message) (message_limit end limits past) (let least = limit_most end limits past in let short : length message ≤ 131072 = s.short in omega arith))
