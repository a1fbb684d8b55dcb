-- What a choice does to the two ends of a link.
use Rattle.std.proofs.Common.{◌≡◌, ℕ, Bool, true, false, cond, Option, Some, None, is_none, List, [], ◌∷◌, ◌++◌, option_to_list, refl, ap, subst, sym, ◌∙◌, append-nil, append_assoc}
use Rattle.std.proofs.lemmas.List.{append_cancel_left}
use Rattle.smbd_base.specs.declared.event.Event.{Event}
use Rattle.smbd_base.specs.declared.event.Event.TheVariants.{Post, Submit, Emit, Take, Cut}
use Rattle.smbd_base.specs.declared.next.Next.{Next}
use Rattle.smbd_base.specs.declared.next.Next.TheVariants as due
use Rattle.smbd_base.specs.declared.faults.SubmitFault.{SubmitFault}
use Rattle.smbd_base.specs.Delivery.{messages_delivered, message_brought}
use Rattle.smbd_base.specs.History.{next_event, submit_fault, take_fault, is_cut, is_ready, messages_submitted}
use Rattle.smbd_base.specs.Joint.{emitted_frames, taken_frames}
use Rattle.joint_laws.specs.Growth.{IsNextFrame, MayAdd}
use Rattle.joint_laws.proofs.Growing.{grown}
use Rattle.world_core.specs.declared.choice.Choice.{Choice}
use Rattle.world_core.specs.declared.choice.Choice.TheVariants as choices
use Rattle.world_core.specs.Linked.{Linked, driven, arrival, event_of_choice, event_at, still_arriving, frames_in, still_undelivered, messages_in, own_after, peer_after, StandsFirst, TakesNext}
use Rattle.world_core.specs.Newest.{newest_brought}
use Rattle.world_core.specs.Paired.{IsPair}
use Rattle.smbd_base.proofs.DeliveryLemmas.{delivered-take}
use Rattle.smbd_laws.proofs.Accepting.{accepted_legal}
use Rattle.smbd_laws.proofs.Delivering.{delivered_both}

-- the oldest frame in flight is not refused
pub accepted : (own peer : Linked) (frame : List ℕ) (later : List (List ℕ)) → IsPair own peer → own.arriving ≡ frame ∷ later
    → IsNextFrame frame own.past peer.past × (take_fault own.side own.limits own.past frame ≡ None)
accepted own peer frame later h is =
    let sent : emitted_frames peer.past ≡ taken_frames own.past ++ frame ∷ later = h.to_own ∙ ap (λ (fs : List (List ℕ)). taken_frames own.past ++ fs) is in (
      record { later = later; sent = sent },
      accepted_legal own.side own.limits peer.limits own.past peer.past frame later h.own_lawful h.peer_lawful h.beside.there.legal h.beside.here.legal h.beside.there.in_time.front sent,
    )

stands_by : (o : Option (List ℕ)) (messages rest : List (List ℕ)) → messages ≡ option_to_list o ++ rest → StandsFirst o messages
stands_by None messages rest is = tt
stands_by (Some message) messages rest is = (rest, is)

-- the message that a frame ends, where it ends one, is the oldest one that is undelivered
stands : (own peer : Linked) (frame : List ℕ) → IsPair own peer → MayAdd own.side own.limits (Take frame) own.past peer.past
    → StandsFirst (message_brought own.side own.limits own.past frame) own.undelivered
stands own peer frame h may =
    let brought : Option (List ℕ) = message_brought own.side own.limits own.past frame in
    let earlier : List (List ℕ) = messages_delivered own.side own.limits own.past in
    let after = grown own.side own.limits peer.limits own.past peer.past (Take frame) h.own_lawful h.peer_lawful h.beside may in
    let front = delivered_both own.side own.limits peer.limits (Take frame ∷ own.past) peer.past h.own_lawful h.peer_lawful
    after.here.legal after.there.legal after.here.accepted after.here.in_time.front after.there.in_time.front in
    let all : earlier ++ (option_to_list brought ++ front.0) ≡ messages_submitted peer.past =
    sym (append_assoc earlier (option_to_list brought) front.0)
    ∙ ap (λ (ms : List (List ℕ)). ms ++ front.0) (sym (delivered-take own.side own.limits own.past frame)) ∙ front.1 in
    stands_by brought own.undelivered front.0
    (append_cancel_left earlier own.undelivered (option_to_list brought ++ front.0) (sym h.for_own ∙ sym all))

pub takes_next : (own peer : Linked) → IsPair own peer → TakesNext own
takes_next own peer h = record {
  accepted = λ frame later is. (accepted own peer frame later h is).1;
  brings = λ frame later is ready. stands own peer frame h (ready, accepted own peer frame later h is);
}

-- ---- the event that a choice adds

cut_follows : (own peer : Linked) → IsPair own peer → is_cut own.past ≡ false → MayAdd own.side own.limits Cut own.past peer.past
cut_follows own peer h uncut = ((uncut, h.beside.here.opened), tt)

submission_adds : (own peer : Linked) (message : List ℕ) (fault : Option SubmitFault) (event : Event) → submit_fault own.side own.limits own.past message ≡ fault
    → cond {A = Option Event} (is_none fault) (Some (Submit message)) None ≡ Some event → MayAdd own.side own.limits event own.past peer.past
submission_adds own peer message None event is e =
    let same : Submit message ≡ event = cc in
    subst (λ (x : Event). MayAdd own.side own.limits x own.past peer.past) same (is, tt)
submission_adds own peer message (Some fault) event is e = absurd cc

turn_adds : (own peer : Linked) (link_cut : Bool) (next : Next) (event : Event) → IsPair own peer → is_cut own.past ≡ false
    → next_event own.side own.limits own.past ≡ next → driven link_cut next ≡ Some event → MayAdd own.side own.limits event own.past peer.past
turn_adds own peer link_cut (due.Post n) event h uncut is e =
    let same : Post n ≡ event = cc in
    subst (λ (x : Event). MayAdd own.side own.limits x own.past peer.past) same (is, tt)
turn_adds own peer true (due.Emit frame) event h uncut is e =
    let same : Cut ≡ event = cc in
    subst (λ (x : Event). MayAdd own.side own.limits x own.past peer.past) same (cut_follows own peer h uncut)
turn_adds own peer false (due.Emit frame) event h uncut is e =
    let same : Emit frame ≡ event = cc in
    subst (λ (x : Event). MayAdd own.side own.limits x own.past peer.past) same (is, tt)
turn_adds own peer link_cut due.Close event h uncut is e =
    let same : Cut ≡ event = cc in
    subst (λ (x : Event). MayAdd own.side own.limits x own.past peer.past) same (cut_follows own peer h uncut)
turn_adds own peer link_cut due.Idle event h uncut is e = absurd cc

arrival_adds : (own peer : Linked) (frames : List (List ℕ)) (event : Event) → IsPair own peer → is_ready own.side own.limits own.past ≡ true
    → own.arriving ≡ frames → arrival frames ≡ Some event → MayAdd own.side own.limits event own.past peer.past
arrival_adds own peer [] event h ready is e = absurd cc
arrival_adds own peer (frame ∷ later) event h ready is e =
    let same : Take frame ≡ event = cc in
    subst (λ (x : Event). MayAdd own.side own.limits x own.past peer.past) same (ready, accepted own peer frame later h is)

delivery_adds : (own peer : Linked) (ready link_cut : Bool) (event : Event) → IsPair own peer → is_cut own.past ≡ false → is_ready own.side own.limits own.past ≡ ready
    → cond {A = Option Event} ready (cond link_cut (Some Cut) (arrival own.arriving)) None ≡ Some event → MayAdd own.side own.limits event own.past peer.past
delivery_adds own peer true true event h uncut is e =
    let same : Cut ≡ event = cc in
    subst (λ (x : Event). MayAdd own.side own.limits x own.past peer.past) same (cut_follows own peer h uncut)
delivery_adds own peer true false event h uncut is e = arrival_adds own peer own.arriving event h is refl e
delivery_adds own peer false link_cut event h uncut is e = absurd cc

choice_adds : (own peer : Linked) (link_cut : Bool) (choice : Choice) (event : Event) → IsPair own peer → is_cut own.past ≡ false
    → event_of_choice own link_cut choice ≡ Some event → MayAdd own.side own.limits event own.past peer.past
choice_adds own peer link_cut (choices.Submit end message) event h uncut e = submission_adds own peer message (submit_fault own.side own.limits own.past message) event refl e
choice_adds own peer link_cut (choices.Drive end) event h uncut e = turn_adds own peer link_cut (next_event own.side own.limits own.past) event h uncut refl e
choice_adds own peer link_cut (choices.Carry end) event h uncut e = delivery_adds own peer (is_ready own.side own.limits own.past) link_cut event h uncut refl e
choice_adds own peer link_cut (choices.Cut end) event h uncut e =
    let same : Cut ≡ event = cc in
    subst (λ (x : Event). MayAdd own.side own.limits x own.past peer.past) same (cut_follows own peer h uncut)

event_adds : (own peer : Linked) (link_cut cut : Bool) (choice : Choice) (event : Event) → IsPair own peer → is_cut own.past ≡ cut
    → cond {A = Option Event} cut None (event_of_choice own link_cut choice) ≡ Some event → MayAdd own.side own.limits event own.past peer.past
event_adds own peer link_cut true choice event h is e = absurd cc
event_adds own peer link_cut false choice event h is e = choice_adds own peer link_cut choice event h is e

-- ---- the frames in flight after an event

taken_next : (own peer : Linked) (frame : List ℕ) → IsPair own peer → IsNextFrame frame own.past peer.past
    → emitted_frames peer.past ≡ (taken_frames own.past ++ frame ∷ []) ++ still_arriving (Take frame) own.arriving
taken_next own peer frame h next =
    let is : own.arriving ≡ frame ∷ next.later = append_cancel_left (taken_frames own.past) own.arriving (frame ∷ next.later) (sym h.to_own ∙ next.sent) in
    let left : still_arriving (Take frame) own.arriving ≡ next.later = ap (λ (fs : List (List ℕ)). still_arriving (Take frame) fs) is in
    next.sent ∙ sym (append_assoc (taken_frames own.past) (frame ∷ []) next.later)
    ∙ ap (λ (fs : List (List ℕ)). (taken_frames own.past ++ frame ∷ []) ++ fs) (sym left)

own_arrivals : (own peer : Linked) (event : Event) → IsPair own peer → MayAdd own.side own.limits event own.past peer.past
    → emitted_frames peer.past ≡ taken_frames (event ∷ own.past) ++ still_arriving event own.arriving
own_arrivals own peer (Post n) h may = h.to_own
own_arrivals own peer (Submit m) h may = h.to_own
own_arrivals own peer (Emit f) h may = h.to_own
own_arrivals own peer (Take f) h may = taken_next own peer f h may.1.0
own_arrivals own peer Cut h may = h.to_own

peer_arrivals : (own peer : Linked) (event : Event) → IsPair own peer → emitted_frames (event ∷ own.past) ≡ taken_frames peer.past ++ (peer.arriving ++ frames_in event)
peer_arrivals own peer event h = by_kind event where
  same : emitted_frames own.past ≡ taken_frames peer.past ++ (peer.arriving ++ [])
  same = h.to_peer ∙ ap (λ (fs : List (List ℕ)). taken_frames peer.past ++ fs) (sym (append-nil peer.arriving))

  by_kind : (e : Event) → emitted_frames (e ∷ own.past) ≡ taken_frames peer.past ++ (peer.arriving ++ frames_in e)
  by_kind (Post n) = same
  by_kind (Submit m) = same
  by_kind (Emit f) = ap (λ (fs : List (List ℕ)). fs ++ f ∷ []) h.to_peer ∙ append_assoc (taken_frames peer.past) peer.arriving (f ∷ [])
  by_kind (Take f) = same
  by_kind Cut = same

-- ---- the messages that are kept for each end, after an event

left_after : (o : Option (List ℕ)) (messages : List (List ℕ)) → StandsFirst o messages → messages ≡ option_to_list o ++ still_undelivered o messages
left_after None messages first = refl
left_after (Some message) messages first =
    first.1 ∙ ap (λ (ms : List (List ℕ)). message ∷ still_undelivered (Some message) ms) (sym first.1)

delivered_next : (own peer : Linked) (frame : List ℕ) → IsPair own peer → MayAdd own.side own.limits (Take frame) own.past peer.past
    → messages_submitted peer.past ≡ messages_delivered own.side own.limits (Take frame ∷ own.past)
    ++ still_undelivered (message_brought own.side own.limits own.past frame) own.undelivered
delivered_next own peer frame h may =
    let brought : Option (List ℕ) = message_brought own.side own.limits own.past frame in
    let earlier : List (List ℕ) = messages_delivered own.side own.limits own.past in
    let left : List (List ℕ) = still_undelivered brought own.undelivered in
    h.for_own ∙ ap (λ (ms : List (List ℕ)). earlier ++ ms) (left_after brought own.undelivered (stands own peer frame h may))
    ∙ sym (append_assoc earlier (option_to_list brought) left)
    ∙ ap (λ (ms : List (List ℕ)). ms ++ left) (sym (delivered-take own.side own.limits own.past frame))

own_messages : (own peer : Linked) (event : Event) → IsPair own peer → MayAdd own.side own.limits event own.past peer.past
    → messages_submitted peer.past ≡ messages_delivered own.side own.limits (event ∷ own.past)
    ++ still_undelivered (newest_brought own.side own.limits (event ∷ own.past)) own.undelivered
own_messages own peer (Post n) h may = h.for_own
own_messages own peer (Submit m) h may = h.for_own
own_messages own peer (Emit f) h may = h.for_own
own_messages own peer (Take f) h may = delivered_next own peer f h may
own_messages own peer Cut h may = h.for_own

peer_messages : (own peer : Linked) (event : Event) → IsPair own peer
    → messages_submitted (event ∷ own.past) ≡ messages_delivered peer.side peer.limits peer.past ++ (peer.undelivered ++ messages_in event)
peer_messages own peer event h = by_kind event where
  same : messages_submitted own.past ≡ messages_delivered peer.side peer.limits peer.past ++ (peer.undelivered ++ [])
  same = h.for_peer ∙ ap (λ (ms : List (List ℕ)). messages_delivered peer.side peer.limits peer.past ++ ms) (sym (append-nil peer.undelivered))

  by_kind : (e : Event) → messages_submitted (e ∷ own.past) ≡ messages_delivered peer.side peer.limits peer.past ++ (peer.undelivered ++ messages_in e)
  by_kind (Post n) = same
  by_kind (Submit m) =
      ap (λ (ms : List (List ℕ)). ms ++ m ∷ []) h.for_peer ∙ append_assoc (messages_delivered peer.side peer.limits peer.past) peer.undelivered (m ∷ [])
  by_kind (Emit f) = same
  by_kind (Take f) = same
  by_kind Cut = same

-- ---- after a choice

pub pair_after : (own peer : Linked) (link_cut : Bool) (choice : Choice) → IsPair own peer
    → IsPair (own_after own (event_at own link_cut choice)) (peer_after peer (event_at own link_cut choice))
pair_after own peer link_cut choice h = by_event (event_at own link_cut choice) refl where
  by_event : (o : Option Event) → event_at own link_cut choice ≡ o → IsPair (own_after own o) (peer_after peer o)
  by_event None is = h
  by_event (Some event) is =
      let may = event_adds own peer link_cut (is_cut own.past) choice event h refl is in
      record {
        peer_side = h.peer_side;
        own_lawful = h.own_lawful;
        peer_lawful = h.peer_lawful;
        beside = grown own.side own.limits peer.limits own.past peer.past event h.own_lawful h.peer_lawful h.beside may;
        to_own = own_arrivals own peer event h may;
        to_peer = peer_arrivals own peer event h;
        for_own = own_messages own peer event h may;
        for_peer = peer_messages own peer event h;
      }
