-- What follows from which event comes next, and from that a frame is not refused.
use Rattle.std.proofs.Common.{◌≡◌, ◌⊎◌, inl, inr, ℕ, Bool, true, false, not, ◌&&◌, cond, List, ◌∷◌, Option, Some, is_some, refl}
use Rattle.smbd_base.specs.declared.end_id.EndId.{EndId}
use Rattle.smbd_base.specs.declared.event.Event.{Event}
use Rattle.smbd_base.specs.declared.event.Event.TheVariants.{Post}
use Rattle.smbd_base.specs.declared.next.Next.TheVariants as due
use Rattle.smbd_base.specs.Limits.{Limits}
use Rattle.smbd_base.specs.declared.faults.TakeFault.{TakeFault}
use Rattle.smbd_base.specs.declared.faults.TakeFault.TheVariants as faults
use Rattle.smbd_base.specs.Counts.{is_out_of_turn, is_silent}
use Rattle.smbd_base.specs.History.{next_event, take_fault, fault_expecting, negotiation_frame, frame_due, is_cut, is_new, is_refused, is_version_refused, is_closed, is_post_due, is_negotiating, is_agreed, is_welcomed, is_sending, is_ready}

-- the past of an end that goes on: opened, neither cut nor closed
pub record IsGoing (side : EndId) (limits : Limits) (past : List Event) : Type 0 where
  pub cut : is_cut past ≡ false
  pub opened : is_new past ≡ false
  pub closed : is_closed side limits past ≡ false

-- the past of an end that may take a frame
pub record CanTake (side : EndId) (limits : Limits) (past : List Event) : Type 0 where
  pub going : IsGoing side limits past
  pub refused : is_refused side limits past ≡ false
  pub post_due : is_post_due past ≡ false

-- both tests are true
pub both : (a b : Bool) → (a && b) ≡ true → (a ≡ true) × (b ≡ true)
both true b e = (refl, e)
both false b e = absurd cc

pub from_not : (a : Bool) → not a ≡ true → a ≡ false
from_not true e = absurd cc
from_not false e = refl

-- which test chose the frame
pub record Chosen (opening sending : Bool) (first later frame : List ℕ) : Type 0 where
  pub why : ((opening ≡ true) × (first ≡ frame)) ⊎ ((opening ≡ false) × (sending ≡ true) × (later ≡ frame))

-- which tests had failed before
pub record Passed (cut new closed : Bool) : Type 0 where
  pub cut_is : cut ≡ false
  pub new_is : new ≡ false
  pub closed_is : closed ≡ false

emit_chosen : (cut new closed post opening sending : Bool) (n : ℕ) (first later frame : List ℕ)
    → cond cut due.Idle (cond new (due.Post n) (cond closed due.Close (cond post (due.Post 1) (cond opening (due.Emit first) (cond sending (due.Emit later) due.Idle))))) ≡ due.Emit frame
    → Passed cut new closed × (post ≡ false) × Chosen opening sending first later frame
emit_chosen true new closed post opening sending n first later frame e = absurd cc
emit_chosen false true closed post opening sending n first later frame e = absurd cc
emit_chosen false false true post opening sending n first later frame e = absurd cc
emit_chosen false false false true opening sending n first later frame e = absurd cc
emit_chosen false false false false true sending n first later frame e =
    (record { cut_is = refl; new_is = refl; closed_is = refl }, refl, record { why = inl (refl, cc) })
emit_chosen false false false false false true n first later frame e =
    (record { cut_is = refl; new_is = refl; closed_is = refl }, refl, record { why = inr (refl, refl, cc) })
emit_chosen false false false false false false n first later frame e = absurd cc

post_chosen : (cut new closed post opening sending : Bool) (n m : ℕ) (first later : List ℕ)
    → cond cut due.Idle (cond new (due.Post n) (cond closed due.Close (cond post (due.Post 1) (cond opening (due.Emit first) (cond sending (due.Emit later) due.Idle))))) ≡ due.Post m
    → (cut ≡ false) × (((new ≡ true) × (n ≡ m)) ⊎ ((new ≡ false) × (closed ≡ false) × (post ≡ true) × (1 ≡ m)))
post_chosen true new closed post opening sending n m first later e = absurd cc
post_chosen false true closed post opening sending n m first later e = (refl, inl (refl, cc))
post_chosen false false true post opening sending n m first later e = absurd cc
post_chosen false false false true opening sending n m first later e = (refl, inr (refl, refl, refl, cc))
post_chosen false false false false true sending n m first later e = absurd cc
post_chosen false false false false false true n m first later e = absurd cc
post_chosen false false false false false false n m first later e = absurd cc

-- ---- of a past

-- a frame is sent by an end that goes on and owes no receive: the negotiation message, or a data transfer message
pub record Emits (side : EndId) (limits : Limits) (past : List Event) (frame : List ℕ) : Type 0 where
  pub going : IsGoing side limits past
  pub post_due : is_post_due past ≡ false
  pub chosen : Chosen (is_negotiating side past) (is_sending side limits past) (negotiation_frame side limits past) (frame_due side limits past) frame

pub emits : (side : EndId) (limits : Limits) (past : List Event) (frame : List ℕ) → next_event side limits past ≡ due.Emit frame → Emits side limits past frame
unfolding next_event
emits side limits past frame e =
    let h = emit_chosen (is_cut past) (is_new past) (is_closed side limits past) (is_post_due past) (is_negotiating side past) (is_sending side limits past)
    limits.credits (negotiation_frame side limits past) (frame_due side limits past) frame e in
    record { going = record { cut = h.0.cut_is; opened = h.0.new_is; closed = h.0.closed_is }; post_due = h.1; chosen = h.2 }

-- receives are posted at the opening, and one after each frame that was taken
pub posts : (side : EndId) (limits : Limits) (past : List Event) (n : ℕ) → next_event side limits past ≡ due.Post n
    → (is_cut past ≡ false) × (((is_new past ≡ true) × (limits.credits ≡ n)) ⊎ ((is_new past ≡ false) × (is_closed side limits past ≡ false) × (is_post_due past ≡ true) × (1 ≡ n)))
unfolding next_event
posts side limits past n e =
    post_chosen (is_cut past) (is_new past) (is_closed side limits past) (is_post_due past) (is_negotiating side past) (is_sending side limits past)
    limits.credits n (negotiation_frame side limits past) (frame_due side limits past) e

not_closed : (refused later : Bool) → refused ≡ false → (refused && later) ≡ false
not_closed true later e = absurd cc
not_closed false later e = refl

-- a frame may be taken by an end that has refused none and owes no receive
pub ready_parts : (side : EndId) (limits : Limits) (past : List Event) → is_ready side limits past ≡ true → CanTake side limits past
ready_parts side limits past e =
    let a = both _ _ e in
    let b = both _ _ a.0 in
    let c = both _ _ b.0 in
    let none = from_not (is_refused side limits past) c.1 in
    record {
      going = record { cut = from_not _ c.0; opened = from_not _ b.1; closed = not_closed (is_refused side limits past) _ none };
      refused = none;
      post_due = from_not _ a.1;
    }

open_by : (refused version silent : Bool) → (refused && not (version && silent)) ≡ false → silent ≡ false → refused ≡ false
open_by false version silent e spoken = refl
open_by true true true e spoken = absurd cc
open_by true true false e spoken = absurd cc
open_by true false silent e spoken = absurd cc

-- an end that sends a data transfer message is agreed, and has refused no frame
pub record Sends (side : EndId) (limits : Limits) (past : List Event) : Type 0 where
  pub agreed : is_agreed side limits past ≡ true
  pub welcomed : is_welcomed side limits past ≡ true
  pub spoken : is_silent past ≡ false
  pub refused : is_refused side limits past ≡ false

pub sending_parts : (side : EndId) (limits : Limits) (past : List Event) → is_closed side limits past ≡ false → is_sending side limits past ≡ true → Sends side limits past
sending_parts side limits past going sending =
    let agreed : is_agreed side limits past ≡ true = (both (is_agreed side limits past) _ sending).0 in
    let parts = both (is_welcomed side limits past) _ agreed in
    let spoken : is_silent past ≡ false = from_not (is_silent past) parts.1 in
    record {
      agreed = agreed;
      welcomed = parts.0;
      spoken = spoken;
      refused = open_by (is_refused side limits past) (is_version_refused side limits past) (is_silent past) going spoken;
    }

turn_by : (turn : Bool) (fault : TakeFault) (later : Option TakeFault) → is_some (cond turn (Some fault) later) ≡ false → turn ≡ false
turn_by true fault later e = absurd cc
turn_by false fault later e = refl

-- a frame that is not refused came in turn
pub in_turn : (side : EndId) (limits : Limits) (past : List Event) (frame : List ℕ) → is_some (take_fault side limits past frame) ≡ false → is_out_of_turn side past ≡ false
unfolding take_fault fault_expecting
in_turn side limits past frame e = turn_by (is_out_of_turn side past) _ _ e

-- a frame that comes out of turn is refused for that
pub out_of_turn : (side : EndId) (limits : Limits) (past : List Event) (frame : List ℕ) → is_out_of_turn side past ≡ true → take_fault side limits past frame ≡ Some faults.OutOfTurn
unfolding take_fault fault_expecting
out_of_turn side limits past frame turn = rw turn refl

-- no second Post comes right after one
pub no_second_post : (side : EndId) (limits : Limits) (past : List Event) (n m : ℕ) → next_event side limits (Post n ∷ past) ≡ due.Post m → ⊥
no_second_post side limits past n m e =
    elim (posts side limits (Post n ∷ past) m e).1 as (λ _. ⊥) [
      | inl opening ↦ (let o = opening.0 in cc)
      | inr later ↦ (let o = later.2 in cc)
    ]
