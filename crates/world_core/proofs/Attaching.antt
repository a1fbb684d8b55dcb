-- A step of two ends at a link, as the code keeps them, is one of the two ends with the frames in flight to them.
use Rattle.std.proofs.Common.{rules, ◌≡◌, ℕ, ◌+◌, ◌≤◌, Bool, true, false, ◌||◌, ◌&&◌, not, cond, is_none, is_some, Option, Some, None, List, [], ◌∷◌, ◌++◌, length, take, drop, reverse, refl, ap, subst, sym, ◌∙◌, append-nil, length-append, arith}
use Rattle.std.proofs.lemmas.Bool.{or_parts}
use Rattle.std.proofs.lemmas.List.{drop-append-le, drop-drop, take-append-le, reverse-append, length-reverse}
use Rattle.smbd_base.specs.declared.end_id.EndId.{EndId}
use Rattle.smbd_base.specs.declared.end_id.EndId.TheVariants.{Client, Server}
use Rattle.smbd_base.specs.declared.event.Event.{Event}
use Rattle.smbd_base.specs.declared.event.Event.TheVariants.{Post, Submit, Emit, Take, Cut}
use Rattle.smbd_base.specs.declared.next.Next.{Next}
use Rattle.smbd_base.specs.declared.next.Next.TheVariants as due
use Rattle.smbd_base.specs.Counts.{peer_of}
use Rattle.smbd_base.specs.Limits.{Limits}
use Rattle.smbd_base.specs.History.{next_event, submit_fault, take_fault, negotiation_frame, frame_due, is_cut, is_new, is_closed, is_refused, is_version_refused, is_post_due, is_negotiating, is_sending, is_ready}
use Rattle.smbd_base.specs.Counts.{is_silent}
use Rattle.smbd_base.specs.Joint.{AreAccepted, emitted_frames, taken_frames}
use Rattle.smbd_base.proofs.Inversion.{both}
use Rattle.joint_laws.proofs.Accounts.{peer-peer}
use Rattle.sim_adapter.specs.Rule.{limits_of}
use Rattle.world_core.specs.declared.choice.Choice.{Choice}
use Rattle.world_core.specs.declared.choice.Choice.TheVariants as choices
use Rattle.world_core.specs.Choices.{cuts_link}
use Rattle.world_core.specs.Attached.{Attached, linked_to, attached_after, attached_peer, HasLooked, IsToldOf, AreTied}
use Rattle.world_core.specs.Linked.{Linked, driven, arrival, event_of_choice, event_at, still_arriving, own_after, peer_after}
use Rattle.world_core.specs.Met.{Met, history_at, with_event_at, with_event_if, IsWhole}
use Rattle.world_core.specs.Paired.{IsPair}
use Rattle.world_core.specs.Run.{frames_in_flight, link_after}

-- ---- the frames in flight

tail_is : (frame : List ℕ) (frames : List (List ℕ)) → drop 1 frames ≡ still_arriving (Take frame) frames
tail_is frame [] = refl
tail_is frame (first ∷ later) = refl

one_less : (past peer : List Event) (frame : List ℕ) → frames_in_flight (Take frame ∷ past) peer ≡ still_arriving (Take frame) (frames_in_flight past peer)
one_less past peer frame =
    ap (λ (n : ℕ). drop n (emitted_frames peer)) (length-append (taken_frames past) (frame ∷ []))
    ∙ sym (drop-drop 1 (length (taken_frames past)) (emitted_frames peer)) ∙ tail_is frame (frames_in_flight past peer)

own_flight : (past peer : List Event) (event : Event) → frames_in_flight (event ∷ past) peer ≡ still_arriving event (frames_in_flight past peer)
own_flight past peer (Post n) = refl
own_flight past peer (Submit m) = refl
own_flight past peer (Emit f) = refl
own_flight past peer (Take f) = one_less past peer f
own_flight past peer Cut = refl

pub own_linked : (own peer : Attached) (o : Option Event) (n : ℕ) → linked_to (record (attached_after own o) { looked = n }) (attached_peer peer o) ≡ own_after (linked_to own peer) o
own_linked own peer None n = refl
own_linked own peer (Some event) n =
    ap (λ (fs : List (List ℕ)). record (own_after (linked_to own peer) (Some event)) { arriving = fs }) (own_flight own.past peer.past event)

pub peer_linked : (own peer : Attached) (o : Option Event) (n : ℕ) → length (taken_frames peer.past) ≤ length (emitted_frames own.past)
    → linked_to (attached_peer peer o) (record (attached_after own o) { looked = n }) ≡ peer_after (linked_to peer own) o
peer_linked own peer None n few = refl
peer_linked own peer (Some event) n few = ap (λ (fs : List (List ℕ)). record (peer_after (linked_to peer own) (Some event)) { arriving = fs }) (by_kind event)
  where
    by_kind : (e : Event) → frames_in_flight peer.past (e ∷ own.past) ≡ (peer_after (linked_to peer own) (Some e)).arriving
    by_kind (Post n) = sym (append-nil (frames_in_flight peer.past own.past))
    by_kind (Submit m) = sym (append-nil (frames_in_flight peer.past own.past))
    by_kind (Emit f) = drop-append-le (length (taken_frames peer.past)) (emitted_frames own.past) (f ∷ []) few
    by_kind (Take f) = sym (append-nil (frames_in_flight peer.past own.past))
    by_kind Cut = sym (append-nil (frames_in_flight peer.past own.past))

-- ---- what the link tells

here : (side : EndId) (event : Event) (link : Met) → history_at side (with_event_at side event link) ≡ event ∷ history_at side link
here Client event link = refl
here Server event link = refl

there : (side : EndId) (event : Event) (link : Met) → history_at (peer_of side) (with_event_at side event link) ≡ history_at (peer_of side) link
there Client event link = refl
there Server event link = refl

limits_stay : (side x : EndId) (event : Event) (link : Met) → limits_of (with_event_at side event link).ends x ≡ limits_of link.ends x
limits_stay Client x event link = refl
limits_stay Server x event link = refl

own_told : (link : Met) (own : Attached) (o : Option Event) (n : ℕ) → IsToldOf link own → IsToldOf (with_event_if own.side o link) (record (attached_after own o) { looked = n })
own_told link own None n h = record { limits = h.limits; past = h.past }
own_told link own (Some event) n h = record {
  limits = limits_stay own.side own.side event link ∙ h.limits;
  past = here own.side event link ∙ ap (λ (es : List Event). event ∷ es) h.past;
}

peer_told : (link : Met) (side : EndId) (peer : Attached) (o : Option Event) → peer.side ≡ peer_of side → IsToldOf link peer → IsToldOf (with_event_if side o link) (attached_peer peer o)
peer_told link side peer None is h = h
peer_told link side peer (Some event) is h = record {
  limits = limits_stay side peer.side event link ∙ h.limits;
  past = ap (λ (x : EndId). history_at x (with_event_at side event link)) is ∙ there side event link ∙ ap (λ (x : EndId). history_at x link) (sym is) ∙ h.past;
}

-- ---- a peer's history that grows

longer : (own : Attached) (peer : List Event) (event : Event) → HasLooked own peer → HasLooked own (event ∷ peer)
longer own peer event h =
    let more : reverse (event ∷ peer) ≡ reverse peer ++ event ∷ [] = reverse-append (event ∷ []) peer in
    let within = h.within in
    let long : length (reverse peer) ≡ length peer = length-reverse peer in
    record {
      within = omega arith;
      taken = ap (λ (es : List Event). emitted_frames (reverse (take own.looked es))) more
          ∙ ap (λ (es : List Event). emitted_frames (reverse es)) (take-append-le own.looked (reverse peer) (event ∷ []) (omega arith)) ∙ h.taken;
    }

peer_looked : (own peer : Attached) (o : Option Event) (n : ℕ) → HasLooked peer own.past → HasLooked (attached_peer peer o) (record (attached_after own o) { looked = n }).past
peer_looked own peer None n h = h
peer_looked own peer (Some event) n h = let more = longer peer own.past event h in record { within = more.within; taken = more.taken }

-- ---- a link that stays whole

none_refused : (side : EndId) (limits : Limits) (past : List Event) → AreAccepted side limits past → is_refused side limits past ≡ false
none_refused side limits [] h = refl
none_refused side limits (Post n ∷ past) h = none_refused side limits past h
none_refused side limits (Submit m ∷ past) h = none_refused side limits past h
none_refused side limits (Emit f ∷ past) h = none_refused side limits past h
none_refused side limits (Take f ∷ past) h = rw h.0 refl
none_refused side limits (Cut ∷ past) h = none_refused side limits past h

close_chosen : (cut new closed post opening sending : Bool) (n : ℕ) (first later : List ℕ)
    → cond cut due.Idle (cond new (due.Post n) (cond closed due.Close (cond post (due.Post 1) (cond opening (due.Emit first) (cond sending (due.Emit later) due.Idle))))) ≡ due.Close
    → closed ≡ true
close_chosen true new closed post opening sending n first later e = absurd cc
close_chosen false true closed post opening sending n first later e = absurd cc
close_chosen false false true post opening sending n first later e = refl
close_chosen false false false true opening sending n first later e = absurd cc
close_chosen false false false false true sending n first later e = absurd cc
close_chosen false false false false false true n first later e = absurd cc
close_chosen false false false false false false n first later e = absurd cc

closes_never : (side : EndId) (limits : Limits) (past : List Event) → AreAccepted side limits past → next_event side limits past ≡ due.Close → ⊥
unfolding next_event
closes_never side limits past h e =
    let closed = close_chosen (is_cut past) (is_new past) (is_closed side limits past) (is_post_due past) (is_negotiating side past) (is_sending side limits past)
    limits.credits (negotiation_frame side limits past) (frame_due side limits past) e in
    let refused = (both (is_refused side limits past) (not (is_version_refused side limits past && is_silent past)) closed).0 in
    let none = none_refused side limits past h in
    cc

no_cut_submitted : (b : Bool) (message : List ℕ) → cond {A = Option Event} b (Some (Submit message)) None ≡ Some Cut → ⊥
no_cut_submitted true message e = cc
no_cut_submitted false message e = cc

no_cut_driven : (next : Next) → (next ≡ due.Close → ⊥) → driven false next ≡ Some Cut → ⊥
no_cut_driven (due.Post n) going e = cc
no_cut_driven (due.Emit frame) going e = cc
no_cut_driven due.Close going e = going refl
no_cut_driven due.Idle going e = cc

no_cut_arrives : (ready : Bool) (frames : List (List ℕ)) → cond {A = Option Event} ready (arrival frames) None ≡ Some Cut → ⊥
no_cut_arrives true [] e = cc
no_cut_arrives true (frame ∷ later) e = cc
no_cut_arrives false frames e = cc

-- only the choice to cut the link cuts an end of a link that is whole
no_cut : (own : Linked) (choice : Choice) → AreAccepted own.side own.limits own.past → cuts_link choice ≡ false → event_of_choice own false choice ≡ Some Cut → ⊥
no_cut own (choices.Submit end message) h other e = no_cut_submitted (is_none (submit_fault own.side own.limits own.past message)) message e
no_cut own (choices.Drive end) h other e = no_cut_driven (next_event own.side own.limits own.past) (closes_never own.side own.limits own.past h) e
no_cut own (choices.Carry end) h other e = no_cut_arrives (is_ready own.side own.limits own.past) own.arriving e
no_cut own (choices.Cut end) h other e = absurd cc

stays_open : (event : Event) (past : List Event) → (event ≡ Cut → ⊥) → is_cut past ≡ false → is_cut (event ∷ past) ≡ false
stays_open (Post n) past other uncut = uncut
stays_open (Submit m) past other uncut = uncut
stays_open (Emit f) past other uncut = uncut
stays_open (Take f) past other uncut = uncut
stays_open Cut past other uncut = absurd (other refl)

at_whole : (side : EndId) (link : Met) → IsWhole link → is_cut (history_at side link) ≡ false
at_whole Client link h = h.0
at_whole Server link h = h.1

still_whole : (side : EndId) (link : Met) (event : Event) → IsWhole link → is_cut (event ∷ history_at side link) ≡ false → IsWhole (with_event_at side event link)
still_whole Client link event h uncut = (uncut, h.1)
still_whole Server link event h uncut = (h.0, uncut)

whole_after : (link : Met) (own : Attached) (flight : Linked) (link_cut : Bool) (choice : Choice) (o : Option Event) → IsToldOf link own
    → AreAccepted own.side own.limits own.past → flight.side ≡ own.side → flight.limits ≡ own.limits → flight.past ≡ own.past
    → event_at flight link_cut choice ≡ o → (link_cut ≡ false → IsWhole link) → link_after link_cut choice o ≡ false → IsWhole (with_event_if own.side o link)
whole_after link own flight link_cut choice None told h side limits past is whole uncut = whole uncut
whole_after link own flight link_cut choice (Some event) told h side limits past is whole uncut =
    let both_not = or_parts link_cut (cuts_link choice) uncut in
    let all : IsWhole link = whole both_not.0 in
    let here_open : is_cut own.past ≡ false = ap is_cut (sym told.past) ∙ at_whole own.side link all in
    let flight_open : is_cut flight.past ≡ false = ap is_cut past ∙ here_open in
    let chosen : event_of_choice flight false choice ≡ Some event =
    ap (λ (b : Bool). event_of_choice flight b choice) (sym both_not.0)
    ∙ sym (ap (λ (b : Bool). cond {A = Option Event} b None (event_of_choice flight link_cut choice)) flight_open) ∙ is in
    let h' : AreAccepted flight.side flight.limits flight.past = rw (side, limits, past) h in
    still_whole own.side link event all
    (stays_open event (history_at own.side link)
    (λ cut. no_cut flight choice h' both_not.1 (chosen ∙ ap (λ (e : Event). Some e) cut))
    (at_whole own.side link all))

-- ---- a step

-- what a step leaves of two ends on a link
pub record Steps (own peer : Attached) (o : Option Event) (link' : Met) (own' peer' : Attached) (link_cut' : Bool) : Type 0 where
  pub own_is : linked_to own' peer' ≡ own_after (linked_to own peer) o
  pub peer_is : linked_to peer' own' ≡ peer_after (linked_to peer own) o
  pub tied : AreTied link' own' peer' link_cut'

stepped_to : (link : Met) (own peer : Attached) (link_cut : Bool) (choice : Choice) (n : ℕ) → IsPair (linked_to own peer) (linked_to peer own) → AreTied link own peer link_cut
    → HasLooked (record (attached_after own (event_at (linked_to own peer) link_cut choice)) { looked = n }) peer.past
    → Steps own peer (event_at (linked_to own peer) link_cut choice) (with_event_if own.side (event_at (linked_to own peer) link_cut choice) link)
    (record (attached_after own (event_at (linked_to own peer) link_cut choice)) { looked = n }) (attached_peer peer (event_at (linked_to own peer) link_cut choice))
    (link_after link_cut choice (event_at (linked_to own peer) link_cut choice))
stepped_to link own peer link_cut choice n pair tied looked =
    let o : Option Event = event_at (linked_to own peer) link_cut choice in
    let long : length (emitted_frames own.past) ≡ length (taken_frames peer.past) + length (linked_to peer own).arriving =
    ap (λ (fs : List (List ℕ)). length fs) pair.to_peer ∙ length-append (taken_frames peer.past) (linked_to peer own).arriving in
    record {
      own_is = own_linked own peer o n;
      peer_is = peer_linked own peer o n (omega arith);
      tied = record {
        sides = peer_side peer o ∙ tied.sides ∙ ap peer_of (sym (own_side own o n));
        own_told = own_told link own o n tied.own_told;
        peer_told = peer_told link own.side peer o tied.sides tied.peer_told;
        whole = whole_after link own (linked_to own peer) link_cut choice o tied.own_told pair.beside.here.accepted refl refl refl refl tied.whole;
        own_looked = looks peer o looked;
        peer_looked = peer_looked own peer o n tied.peer_looked;
      };
    }
  where
    peer_side : (p : Attached) (e : Option Event) → (attached_peer p e).side ≡ p.side
    peer_side p None = refl
    peer_side p (Some event) = refl

    own_side : (a : Attached) (e : Option Event) (k : ℕ) → (record (attached_after a e) { looked = k }).side ≡ a.side
    own_side a None k = refl
    own_side a (Some event) k = refl

    looks : {a : Attached} (p : Attached) (e : Option Event) → HasLooked a p.past → HasLooked a (attached_peer p e).past
    looks p None h = h
    looks p (Some event) h = h

pub stepped : (link : Met) (own peer : Attached) (link_cut : Bool) (choice : Choice) (link' : Met) (own' peer' : Attached) (link_cut' : Bool)
    → IsPair (linked_to own peer) (linked_to peer own) → AreTied link own peer link_cut
    → own' ≡ record (attached_after own (event_at (linked_to own peer) link_cut choice)) { looked = own'.looked }
    → peer' ≡ attached_peer peer (event_at (linked_to own peer) link_cut choice)
    → link' ≡ with_event_if own.side (event_at (linked_to own peer) link_cut choice) link
    → HasLooked own' peer.past → link_cut' ≡ link_after link_cut choice (event_at (linked_to own peer) link_cut choice)
    → Steps own peer (event_at (linked_to own peer) link_cut choice) link' own' peer' link_cut'
stepped link own peer link_cut choice link' own' peer' link_cut' pair tied own_is peer_is link_is looked cut_is =
    let o : Option Event = event_at (linked_to own peer) link_cut choice in
    let all = stepped_to link own peer link_cut choice own'.looked pair tied (subst (λ (a : Attached). HasLooked a peer.past) own_is looked) in
    subst (λ (s : Met × Attached × Attached × Bool). Steps own peer o s.0 s.1 s.2 s.3) (λ i. (sym link_is i, sym own_is i, sym peer_is i, sym cut_is i)) all

-- a step that wants memory leaves all as it was, but how far the end has looked
pub record Stays (own peer : Attached) (link' : Met) (own' peer' : Attached) (link_cut : Bool) : Type 0 where
  pub own_same : linked_to own' peer' ≡ linked_to own peer
  pub peer_same : linked_to peer' own' ≡ linked_to peer own
  pub tied : AreTied link' own' peer' link_cut

pub stayed : (link : Met) (own peer : Attached) (link_cut : Bool) (link' : Met) (own' peer' : Attached) → AreTied link own peer link_cut
    → own' ≡ record own { looked = own'.looked } → peer' ≡ peer → link' ≡ link → HasLooked own' peer.past → Stays own peer link' own' peer' link_cut
stayed link own peer link_cut link' own' peer' tied own_is peer_is link_is looked =
    subst (λ (s : Met × Attached × Attached). Stays own peer s.0 s.1 s.2 link_cut) (λ i. (sym link_is i, sym own_is i, sym peer_is i)) (record {
      own_same = refl;
      peer_same = refl;
      tied = record {
        sides = tied.sides;
        own_told = record { limits = tied.own_told.limits; past = tied.own_told.past };
        peer_told = tied.peer_told;
        whole = tied.whole;
        own_looked = subst (λ (a : Attached). HasLooked a peer.past) own_is looked;
        peer_looked = record { within = tied.peer_looked.within; taken = tied.peer_looked.taken };
      };
    })

-- ---- both ends

pub turned : (link : Met) (own peer : Attached) (link_cut : Bool) → AreTied link own peer link_cut → AreTied link peer own link_cut
turned link own peer link_cut h = record {
  sides = sym (peer-peer own.side) ∙ ap peer_of (sym h.sides);
  own_told = h.peer_told;
  peer_told = h.own_told;
  whole = h.whole;
  own_looked = h.peer_looked;
  peer_looked = h.own_looked;
}

-- two ends that have posted their receives
pub opened : (link : Met) (client server : Attached) (client_limits server_limits : Limits)
    → link ≡ record { ends = record { client = client_limits; server = server_limits }; client = Post client_limits.credits ∷ []; server = Post server_limits.credits ∷ [] }
    → client ≡ record { side = Client; limits = client_limits; past = Post client_limits.credits ∷ []; looked = 0; undelivered = [] }
    → server ≡ record { side = Server; limits = server_limits; past = Post server_limits.credits ∷ []; looked = 0; undelivered = [] }
    → AreTied link client server false
opened link client server client_limits server_limits link_is is is' = rw (link_is, is, is') (record {
  sides = refl;
  own_told = record { limits = refl; past = refl };
  peer_told = record { limits = refl; past = refl };
  whole = λ _. (refl, refl);
  own_looked = record { within = search rules; taken = refl };
  peer_looked = record { within = search rules; taken = refl };
})
