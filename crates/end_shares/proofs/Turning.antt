-- What a step of an end on a link leaves of what it knows.
use Rattle.std.proofs.Common.{◌≡◌, ℕ, ◌+◌, true, false, not, Result, Ok, Err, List, [], ◌∷◌, ◌++◌, length, Option, option_to_list, refl, sym, ap, ◌∙◌, subst, append-nil, append_assoc, length-append, arith}
use Rattle.std.specs.Prelude.{IfOk, OnErr}
use Rattle.smbd_base.specs.declared.end_id.EndId.{EndId}
use Rattle.smbd_base.specs.declared.event.Event.{Event}
use Rattle.smbd_base.specs.declared.event.Event.TheVariants.{Post, Submit, Emit, Take, Cut}
use Rattle.smbd_base.specs.declared.next.Next.{Next}
use Rattle.smbd_base.specs.declared.no_memory.NoMemory.{NoMemory}
use Rattle.smbd_base.specs.History.{messages_submitted, is_cut}
use Rattle.smbd_base.specs.Joint.{emitted_frames, taken_frames}
use Rattle.sim_adapter.specs.declared.view.EndView.{EndView}
use Rattle.sim_adapter.specs.Plays.{with_event, was_cut, saw, emits, takes_frame}
use Rattle.link_ends.specs.declared.answer.Driven.{Driven}
use Rattle.link_ends.specs.declared.answer.Driven.TheVariants as driven
use Rattle.link_ends.specs.declared.answer.Received.{Received}
use Rattle.link_ends.specs.declared.answer.Received.TheVariants as received
use Rattle.link_ends.specs.Answers.{HasDriven, HasTakenFrame, HasHeard, HasReceived}
use Rattle.link_ends.specs.Ends.{next_of, is_emit}
use Rattle.copy_ends.specs.Cuts.{frames_sent}
use Rattle.end_shares.specs.Turns.{HasActed, HasGoneOn, HasTurned, HasAdded, IsIdle, IsAtRest, TakesNothing, delivered_by, frames_in, heard_in, is_idle, is_nothing}
use Rattle.end_shares.specs.Shares.{HasDoneAtMost}

-- ---- acting

pub acted_none : (v w : EndView) → w ≡ v → HasActed v w
acted_none v w is = subst (λ (x : EndView). HasActed v x) (sym is) (record { own = record { events = []; is = refl }; side = refl; ends = refl; seen = omega arith; told = λ t. t })

pub acted_more : (u v w : EndView) → HasActed u v → HasActed v w → HasActed u w
acted_more u v w a b = record {
  own = record {
    events = b.own.events ++ a.own.events;
    is = b.own.is ∙ ap (λ (p : List Event). b.own.events ++ p) a.own.is ∙ sym (append_assoc b.own.events a.own.events u.past);
  };
  side = b.side ∙ a.side;
  ends = b.ends ∙ a.ends;
  seen = (let x = a.seen in let y = b.seen in omega arith);
  told = λ t. b.told (a.told t);
}

pub gone_on : (v w : EndView) → HasActed v w → HasGoneOn v w
gone_on v w a = record { own = a.own; side = a.side; ends = a.ends; seen = a.seen }

-- the end acted, and then has one event more
pub gone_one : (u v w : EndView) (e : Event) → HasActed u v → w ≡ with_event v e → HasGoneOn u w
gone_one u v w e a is = subst (λ (x : EndView). HasGoneOn u x) (sym is) (record {
  own = record { events = e ∷ a.own.events; is = ap (λ (p : List Event). e ∷ p) a.own.is };
  side = a.side;
  ends = a.ends;
  seen = a.seen;
})

-- an event was added that is no cut, and no frame was seen besides
acted_one : (v : EndView) (e : Event) → is_cut (e ∷ v.past) ≡ is_cut v.past → HasActed v (with_event v e)
acted_one v e uncut = record { own = record { events = e ∷ []; is = refl }; side = refl; ends = refl; seen = omega arith; told = λ t. t ∙ sym uncut }

-- nothing was said or heard
quiet_turn : (side : EndId) (v w : EndView) → HasActed v w → messages_submitted w.past ≡ messages_submitted v.past → delivered_by side w ≡ delivered_by side v → HasTurned side [] [] v w
quiet_turn side v w a said heard = record {
  acted = a;
  submitted = said ∙ sym (append-nil (messages_submitted v.past));
  delivered = heard ∙ sym (append-nil (delivered_by side v));
}

pub turned_none : (side : EndId) (v w : EndView) → w ≡ v → HasTurned side [] [] v w
turned_none side v w is = quiet_turn side v w (acted_none v w is) (ap (λ (x : EndView). messages_submitted x.past) is) (ap (λ (x : EndView). delivered_by side x) is)

pub one_most : (v w : EndView) → HasAdded 1 v w → HasDoneAtMost 1 v w
one_most v w h = let one : length w.past ≡ length v.past + 1 = h in omega arith

pub none_most : (v w : EndView) → w ≡ v → HasDoneAtMost 1 v w
none_most v w h = let same : length w.past ≡ length v.past = ap (λ (x : EndView). length x.past) h in omega arith

-- ---- driving

posted : (side : EndId) (v : EndView) (n : ℕ) → HasTurned side [] [] v (with_event v (Post n))
posted side v n = quiet_turn side v (with_event v (Post n)) (acted_one v (Post n) refl) refl refl

emitted : (side : EndId) (v : EndView) (f : List ℕ) → HasTurned side [] [] v (emits v f)
emitted side v f = quiet_turn side v (emits v f) (record { own = record { events = Emit f ∷ []; is = refl }; side = refl; ends = refl; seen = omega arith; told = λ t. t }) refl refl

found_cut : (side : EndId) (v : EndView) → HasTurned side [] [] v (with_event (was_cut v) Cut)
found_cut side v =
    quiet_turn side v (with_event (was_cut v) Cut) (record { own = record { events = Cut ∷ []; is = refl }; side = refl; ends = refl; seen = omega arith; told = λ t. refl }) refl refl

pub drove : (side : EndId) (d : Driven) (next : Next) (v w : EndView) → HasDriven d next v w → HasTurned side [] [] v w
drove side driven.Posted next v w h = subst (λ (x : EndView). HasTurned side [] [] v x) (sym h.2) (posted side v h.0)
drove side driven.Sent next v w h = subst (λ (x : EndView). HasTurned side [] [] v x) (sym h.2) (emitted side v h.0)
drove side driven.Cut next v w h = subst (λ (x : EndView). HasTurned side [] [] v x) (sym h.2) (found_cut side v)
drove side driven.Idle next v w h = turned_none side v w h.1

pub drove_sent : (d : Driven) (next : Next) (v w : EndView) → HasDriven d next v w → frames_sent w.past ≡ frames_sent v.past + frames_in d
drove_sent driven.Posted next v w h = let e : frames_sent w.past ≡ frames_sent v.past = ap (λ (x : EndView). frames_sent x.past) h.2 in omega arith
drove_sent driven.Sent next v w h = ap (λ (x : EndView). frames_sent x.past) h.2 ∙ length-append (emitted_frames v.past) (h.0 ∷ [])
drove_sent driven.Cut next v w h = let e : frames_sent w.past ≡ frames_sent v.past = ap (λ (x : EndView). frames_sent x.past) h.2 in omega arith
drove_sent driven.Idle next v w h = let e : frames_sent w.past ≡ frames_sent v.past = ap (λ (x : EndView). frames_sent x.past) h.1 in omega arith

longer : (v w x : EndView) (e : Event) → w ≡ x → x.past ≡ e ∷ v.past → HasAdded 1 v w
longer v w x e is past = let one : length w.past ≡ length (e ∷ v.past) = ap (λ (y : EndView). length y.past) is ∙ ap length past in omega arith

pub drove_one : (d : Driven) (next : Next) (v w : EndView) → HasDriven d next v w → not (is_idle d) ≡ true → HasAdded 1 v w
drove_one driven.Posted next v w h e = longer v w (with_event v (Post h.0)) (Post h.0) h.2 refl
drove_one driven.Sent next v w h e = longer v w (emits v h.0) (Emit h.0) h.2 refl
drove_one driven.Cut next v w h e = longer v w (with_event (was_cut v) Cut) Cut h.2 refl
drove_one driven.Idle next v w h e = absurd (let b : ⊥ = cc in b)

pub drove_none : (d : Driven) (v w : EndView) → HasDriven d (next_of v) v w → not (is_idle d) ≡ false → IsIdle w × (w ≡ v)
drove_none driven.Posted v w h e = absurd (let b : ⊥ = cc in b)
drove_none driven.Sent v w h e = absurd (let b : ⊥ = cc in b)
drove_none driven.Cut v w h e = absurd (let b : ⊥ = cc in b)
drove_none driven.Idle v w h e = (subst (λ (x : EndView). IsIdle x) (sym h.1) h.0, h.1)

pub sent_is_emit : (d : Driven) (next : Next) (v w : EndView) → HasDriven d next v w → d ≡ driven.Sent → is_emit next ≡ true
sent_is_emit driven.Posted next v w h e = absurd (let b : ⊥ = cc in b)
sent_is_emit driven.Sent next v w h e = ap is_emit h.1
sent_is_emit driven.Cut next v w h e = absurd (let b : ⊥ = cc in b)
sent_is_emit driven.Idle next v w h e = absurd (let b : ⊥ = cc in b)

-- ---- taking

took : (v w : EndView) → HasTakenFrame v w → HasActed v w
took v w h = subst (λ (x : EndView). HasActed v x) (sym h.after_is) (record { own = record { events = Take h.frame ∷ []; is = refl }; side = refl; ends = refl; seen = h.more; told = λ t. t })

took_one : (v w : EndView) → HasTakenFrame v w → HasAdded 1 v w
took_one v w h = longer v w (takes_frame (saw v h.seen) h.frame) (Take h.frame) h.after_is refl

took_sent : (v w : EndView) → HasTakenFrame v w → frames_sent w.past ≡ frames_sent v.past
took_sent v w h = ap (λ (x : EndView). frames_sent x.past) h.after_is

heard_frame : (side : EndId) (m : Option (List ℕ)) (v w : EndView) → HasHeard m v w → v.side ≡ side → HasTurned side [] (option_to_list m) v w
heard_frame side m v w h is =
    let same : w.side ≡ side = ap (λ (x : EndView). x.side) h.took.after_is ∙ is in
    record {
      acted = took v w h.took;
      submitted = ap (λ (x : EndView). messages_submitted x.past) h.took.after_is ∙ sym (append-nil (messages_submitted v.past));
      delivered = ap (λ (s : EndId). delivered_by s w) (sym same) ∙ h.delivered ∙ ap (λ (s : EndId). delivered_by s v ++ option_to_list m) is;
    }

took_nothing : (side : EndId) (v w : EndView) → TakesNothing v w → HasTurned side [] [] v w
took_nothing side v w t =
    subst (λ (x : EndView). HasTurned side [] [] v x) (sym t.0)
    (quiet_turn side v (saw v (length (taken_frames v.past))) (record { own = record { events = []; is = refl }; side = refl; ends = refl; seen = t.1; told = λ s. s }) refl refl)

heard_by : (side : EndId) (r : Received) (v w : EndView) → HasReceived r v w → v.side ≡ side → HasTurned side [] (heard_in r) v w
heard_by side (received.Frame m) v w h is = heard_frame side m v w h is
heard_by side received.Nothing v w h is = took_nothing side v w h
heard_by side received.Cut v w h is = subst (λ (x : EndView). HasTurned side [] [] v x) (sym h) (found_cut side v)

pub received_turn : (side : EndId) (res : Result Received NoMemory) (v w : EndView) → IfOk res (λ r. HasReceived r v w) → v.side ≡ side → IfOk res (λ r. HasTurned side [] (heard_in r) v w)
received_turn side (Err fault) v w h is = tt
received_turn side (Ok r) v w h is = heard_by side r v w h is

pub received_acted : (res : Result Received NoMemory) (v w : EndView) → IfOk res (λ r. HasReceived r v w) → OnErr res (HasTakenFrame v w) → HasActed v w
received_acted (Err fault) v w h lost = took v w lost
received_acted (Ok r) v w h lost = (heard_by v.side r v w h refl).acted

added_by : (r : Received) (v w : EndView) → HasReceived r v w → is_nothing r ≡ false → HasAdded 1 v w
added_by (received.Frame m) v w h e = took_one v w h.took
added_by received.Nothing v w h e = absurd (let b : ⊥ = cc in b)
added_by received.Cut v w h e = longer v w (with_event (was_cut v) Cut) Cut h refl

pub received_one : (res : Result Received NoMemory) (v w : EndView) → IfOk res (λ r. HasReceived r v w) → IfOk res (λ r. is_nothing r ≡ false → HasAdded 1 v w)
received_one (Err fault) v w h = tt
received_one (Ok r) v w h = added_by r v w h

nothing_by : (r : Received) (v w : EndView) → HasReceived r v w → is_nothing r ≡ true → TakesNothing v w
nothing_by (received.Frame m) v w h e = absurd (let b : ⊥ = cc in b)
nothing_by received.Nothing v w h e = h
nothing_by received.Cut v w h e = absurd (let b : ⊥ = cc in b)

pub received_none : (res : Result Received NoMemory) (v w : EndView) → IfOk res (λ r. HasReceived r v w) → IfOk res (λ r. is_nothing r ≡ true → TakesNothing v w)
received_none (Err fault) v w h = tt
received_none (Ok r) v w h = nothing_by r v w h

most_by : (r : Received) (v w : EndView) → HasReceived r v w → HasDoneAtMost 1 v w
most_by (received.Frame m) v w h = one_most v w (took_one v w h.took)
most_by received.Nothing v w h = let same : length w.past ≡ length v.past = ap (λ (x : EndView). length x.past) h.0 in omega arith
most_by received.Cut v w h = one_most v w (longer v w (with_event (was_cut v) Cut) Cut h refl)

pub received_most : (res : Result Received NoMemory) (v w : EndView) → IfOk res (λ r. HasReceived r v w) → OnErr res (HasTakenFrame v w) → HasDoneAtMost 1 v w
received_most (Err fault) v w h lost = one_most v w (took_one v w lost)
received_most (Ok r) v w h lost = most_by r v w h

sent_by : (r : Received) (v w : EndView) → HasReceived r v w → frames_sent w.past ≡ frames_sent v.past
sent_by (received.Frame m) v w h = took_sent v w h.took
sent_by received.Nothing v w h = ap (λ (x : EndView). frames_sent x.past) h.0
sent_by received.Cut v w h = ap (λ (x : EndView). frames_sent x.past) h

pub received_sent : (res : Result Received NoMemory) (v w : EndView) → IfOk res (λ r. HasReceived r v w) → OnErr res (HasTakenFrame v w) → frames_sent w.past ≡ frames_sent v.past
received_sent (Err fault) v w h lost = took_sent v w lost
received_sent (Ok r) v w h lost = sent_by r v w h

-- an end that is idle, and then took nothing, is at rest, and not cut if it was not
pub rests : (v w : EndView) → IsIdle v → is_cut v.past ≡ false → TakesNothing v w → IsAtRest w × (is_cut w.past ≡ false)
rests v w idle uncut t =
    subst (λ (x : EndView). IsAtRest x × (is_cut x.past ≡ false)) (sym t.0) (record { idle = idle; taken = omega arith }, uncut)

-- ---- submitting

pub submitted : (side : EndId) (v w : EndView) (m : List ℕ) → w ≡ with_event v (Submit m) → HasTurned side (m ∷ []) [] v w
submitted side v w m is =
    subst (λ (x : EndView). HasTurned side (m ∷ []) [] v x) (sym is)
    (record { acted = acted_one v (Submit m) refl; submitted = refl; delivered = sym (append-nil (delivered_by side v)) })

pub submitted_one : (v w : EndView) (m : List ℕ) → w ≡ with_event v (Submit m) → HasAdded 1 v w
submitted_one v w m is = longer v w (with_event v (Submit m)) (Submit m) is refl

pub submitted_sent : (v w : EndView) (m : List ℕ) → w ≡ with_event v (Submit m) → frames_sent w.past ≡ frames_sent v.past
submitted_sent v w m is = ap (λ (x : EndView). frames_sent x.past) is
