-- What a step of one end of a world leaves.
use Rattle.std.proofs.Common.{◌≡◌, ℕ, ◌+◌, length, arith, Result, Ok, Err, Bool, true, false, ◌||◌, cond, List, [], ◌∷◌, ◌++◌, Option, Some, None, is_none, option_to_list, refl, sym, ap, ◌∙◌, subst, append-nil, append_assoc}
use Rattle.std.specs.Prelude.{IfOk}
use Rattle.smbd_base.specs.declared.no_memory.NoMemory.{NoMemory}
use Rattle.smbd_base.specs.declared.end_id.EndId.{EndId}
use Rattle.smbd_base.specs.declared.end_id.EndId.TheVariants.{Client, Server}
use Rattle.smbd_base.specs.declared.event.Event.{Event}
use Rattle.smbd_base.specs.declared.event.Event.TheVariants.{Post, Submit, Emit, Take, Cut}
use Rattle.smbd_base.specs.declared.faults.SubmitFault.{SubmitFault}
use Rattle.smbd_base.specs.declared.next.Next.{Next}
use Rattle.smbd_base.specs.declared.next.Next.TheVariants as due
use Rattle.smbd_base.specs.Limits.{Limits}
use Rattle.smbd_base.specs.Counts.{peer_of}
use Rattle.smbd_base.specs.Delivery.{messages_delivered}
use Rattle.smbd_base.specs.History.{next_event, submit_fault, messages_submitted, is_cut, is_ready}
use Rattle.smbd_base.proofs.DeliveryLemmas.{delivered-take}
use Rattle.world_core.specs.declared.choice.Choice.{Choice}
use Rattle.world_core.specs.declared.choice.Choice.TheVariants as choices
use Rattle.world_core.specs.declared.choice.Step.TheVariants.{Did, Nothing}
use Rattle.world_core.specs.Choices.{end_of, cuts_link, answer_of}
use Rattle.world_core.specs.Linked.{driven, arrival}
use Rattle.world_core.specs.Newest.{newest_brought}
use Rattle.world_core.specs.Run.{State, past_of, limits_of, frames_in_flight, event_chosen, past_after, state_after, step_of, AreJointIn}
use Rattle.copy_ends.specs.Turns.{GoesOn, IsUp, HasActed, HasAdded, HasTurned, heard_if, IsIdle, TakesNothing, IsAtRest, IsSendable}
use Rattle.copy_ends.proofs.Accepted.{accepted, none_refused, never_closes, ready, never_refused, idle_posted}

-- ---- acting

pub acted_none : (end : EndId) (w now : State) → now ≡ w → HasActed end w now
acted_none end w now is =
    subst (λ (x : State). HasActed end w x) (sym is) (record { own = record { events = []; is = refl }; peer = refl; own_limits = refl; peer_limits = refl; link = refl })

pub acted_more : (end : EndId) (u v w : State) → HasActed end u v → HasActed end v w → HasActed end u w
acted_more end u v w a b = record {
  own = record {
    events = b.own.events ++ a.own.events;
    is = b.own.is ∙ ap (λ (p : List Event). b.own.events ++ p) a.own.is ∙ sym (append_assoc b.own.events a.own.events (past_of end u));
  };
  peer = b.peer ∙ a.peer;
  own_limits = b.own_limits ∙ a.own_limits;
  peer_limits = b.peer_limits ∙ a.peer_limits;
  link = b.link ∙ a.link;
}

-- ---- one step

-- the end added this event, if there is one, and nothing else has changed
pub record HasStepped (end : EndId) (added : Option Event) (old new : State) : Type 0 where
  pub own : past_of end new ≡ past_after (past_of end old) added
  pub peer : past_of (peer_of end) new ≡ past_of (peer_of end) old
  pub own_limits : limits_of end new ≡ limits_of end old
  pub peer_limits : limits_of (peer_of end) new ≡ limits_of (peer_of end) old
  pub link : new.link_cut ≡ old.link_cut

or_not : (a b : Bool) → b ≡ false → (a || b) ≡ a
or_not true b is = refl
or_not false b is = is

after_choice : (end : EndId) (w : State) (choice : Choice) (added : Option Event) → cuts_link choice ≡ false → HasStepped end added w (state_after w end choice added)
after_choice Client w choice None uncut = record { own = refl; peer = refl; own_limits = refl; peer_limits = refl; link = refl }
after_choice Client w choice (Some e) uncut = record { own = refl; peer = refl; own_limits = refl; peer_limits = refl; link = or_not w.link_cut (cuts_link choice) uncut }
after_choice Server w choice None uncut = record { own = refl; peer = refl; own_limits = refl; peer_limits = refl; link = refl }
after_choice Server w choice (Some e) uncut = record { own = refl; peer = refl; own_limits = refl; peer_limits = refl; link = or_not w.link_cut (cuts_link choice) uncut }

pub stepped : (end : EndId) (w now : State) (choice : Choice) (added : Option Event) → end_of choice ≡ end → cuts_link choice ≡ false → event_chosen w choice ≡ added → now ≡ step_of w choice
    → HasStepped end added w now
stepped end w now choice added own uncut chosen is =
    let there : now ≡ state_after w end choice added =
    is ∙ ap (λ (o : Option Event). state_after w (end_of choice) choice o) chosen ∙ ap (λ (e : EndId). state_after w e choice added) own in
    subst (λ (x : State). HasStepped end added w x) (sym there) (after_choice end w choice added uncut)

no_event : (end : EndId) (w : State) (choice : Choice) → state_after w end choice None ≡ w
no_event Client w choice = refl
no_event Server w choice = refl

nothing_added : (o : Option Event) → Nothing ≡ answer_of o → o ≡ None
nothing_added None e = refl
nothing_added (Some event) e = absurd (let b : ⊥ = cc in b)

-- a step that did nothing
pub nothing_changed : (w now : State) (choice : Choice) → now ≡ step_of w choice → Nothing ≡ answer_of (event_chosen w choice) → now ≡ w
nothing_changed w now choice is e =
    is ∙ ap (λ (o : Option Event). state_after w (end_of choice) choice o) (nothing_added (event_chosen w choice) e) ∙ no_event (end_of choice) w choice

acted_by : (end : EndId) (added : Option Event) (old new : State) → HasStepped end added old new → HasActed end old new
acted_by end None old new s = record { own = record { events = []; is = s.own }; peer = s.peer; own_limits = s.own_limits; peer_limits = s.peer_limits; link = s.link }
acted_by end (Some e) old new s = record { own = record { events = e ∷ []; is = s.own }; peer = s.peer; own_limits = s.own_limits; peer_limits = s.peer_limits; link = s.link }

one_longer : (past : List Event) (added : Option Event) → Did ≡ answer_of added → length (past_after past added) ≡ length past + 1
one_longer past None e = absurd (let b : ⊥ = cc in b)
one_longer past (Some event) e = omega arith

-- a step that did something added one event
pub added_one : (end : EndId) (w now : State) (choice : Choice) → end_of choice ≡ end → cuts_link choice ≡ false → now ≡ step_of w choice → Did ≡ answer_of (event_chosen w choice)
    → HasAdded 1 end w now
added_one end w now choice own uncut is e =
    ap length (stepped end w now choice (event_chosen w choice) own uncut refl is).own ∙ one_longer (past_of end w) (event_chosen w choice) e

pub added_later : (end : EndId) (old v w x : State) (r : Result Bool NoMemory) → v ≡ old → w ≡ v → IfOk r (λ did. did ≡ true → HasAdded 1 end w x)
    → IfOk r (λ did. did ≡ true → HasAdded 1 end old x)
added_later end old v w x (Err fault) first second one = tt
added_later end old v w x (Ok did) first second one = λ e. subst (λ (s : State). HasAdded 1 end s x) (second ∙ first) (one e)

-- ---- nothing is cut

pub end_up : (end : EndId) (w : State) → IsUp w → GoesOn (past_of end w)
end_up Client w up = up.client
end_up Server w up = up.server

up_of : (end : EndId) (w : State) → w.link_cut ≡ false → GoesOn (past_of end w) → GoesOn (past_of (peer_of end) w) → IsUp w
up_of Client w link own peer = record { link = link; client = own; server = peer }
up_of Server w link own peer = record { link = link; client = peer; server = own }

-- no end is cut by this
AddsNoCut : Option Event → Type 0
AddsNoCut None = Unit {0}
AddsNoCut (Some (Post n)) = Unit {0}
AddsNoCut (Some (Submit m)) = Unit {0}
AddsNoCut (Some (Emit f)) = Unit {0}
AddsNoCut (Some (Take f)) = Unit {0}
AddsNoCut (Some Cut) = ⊥

goes_after : (past : List Event) (added : Option Event) → AddsNoCut added → GoesOn past → GoesOn (past_after past added)
unfolding AddsNoCut
goes_after past None n g = g
goes_after past (Some (Post k)) n g = record { opened = refl; uncut = g.uncut }
goes_after past (Some (Submit m)) n g = record { opened = refl; uncut = g.uncut }
goes_after past (Some (Emit f)) n g = record { opened = refl; uncut = g.uncut }
goes_after past (Some (Take f)) n g = record { opened = refl; uncut = g.uncut }
goes_after past (Some Cut) n g = absurd n

up_after : (end : EndId) (added : Option Event) (old new : State) → AddsNoCut added → HasStepped end added old new → IsUp old → IsUp new
up_after end added old new n s up =
    up_of end new (s.link ∙ up.link)
    (subst GoesOn (sym s.own) (goes_after (past_of end old) added n (end_up end old up)))
    (subst GoesOn (sym s.peer) (end_up (peer_of end) old up))

-- ---- what is said and heard

said_in : Option Event → List (List ℕ)
said_in None = []
said_in (Some (Post n)) = []
said_in (Some (Submit m)) = m ∷ []
said_in (Some (Emit f)) = []
said_in (Some (Take f)) = []
said_in (Some Cut) = []

said_after : (past : List Event) (added : Option Event) → messages_submitted (past_after past added) ≡ messages_submitted past ++ said_in added
unfolding said_in
said_after past None = sym (append-nil (messages_submitted past))
said_after past (Some (Post n)) = sym (append-nil (messages_submitted past))
said_after past (Some (Submit m)) = refl
said_after past (Some (Emit f)) = sym (append-nil (messages_submitted past))
said_after past (Some (Take f)) = sym (append-nil (messages_submitted past))
said_after past (Some Cut) = sym (append-nil (messages_submitted past))

heard_in : EndId → Limits → List Event → Option Event → List (List ℕ)
heard_in end limits past None = []
heard_in end limits past (Some e) = option_to_list (newest_brought end limits (e ∷ past))

heard_after : (end : EndId) (limits : Limits) (past : List Event) (added : Option Event)
    → messages_delivered end limits (past_after past added) ≡ messages_delivered end limits past ++ heard_in end limits past added
unfolding heard_in
heard_after end limits past None = sym (append-nil (messages_delivered end limits past))
heard_after end limits past (Some (Post n)) = sym (append-nil (messages_delivered end limits past))
heard_after end limits past (Some (Submit m)) = sym (append-nil (messages_delivered end limits past))
heard_after end limits past (Some (Emit f)) = sym (append-nil (messages_delivered end limits past))
heard_after end limits past (Some (Take f)) = delivered-take end limits past f
heard_after end limits past (Some Cut) = sym (append-nil (messages_delivered end limits past))

turned_by : (end : EndId) (added : Option Event) (said heard : List (List ℕ)) (old new : State) → AddsNoCut added → said_in added ≡ said
    → heard_in end (limits_of end old) (past_of end old) added ≡ heard → HasStepped end added old new → IsUp old → HasTurned end said heard old new
turned_by end added said heard old new n s_is h_is s up = record {
  acted = acted_by end added old new s;
  up = up_after end added old new n s up;
  submitted = ap messages_submitted s.own ∙ said_after (past_of end old) added ∙ ap (λ (ms : List (List ℕ)). messages_submitted (past_of end old) ++ ms) s_is;
  delivered = ap (λ (l : Limits). messages_delivered end l (past_of end new)) s.own_limits
      ∙ ap (λ (p : List Event). messages_delivered end (limits_of end old) p) s.own
      ∙ heard_after end (limits_of end old) (past_of end old) added
      ∙ ap (λ (ms : List (List ℕ)). messages_delivered end (limits_of end old) (past_of end old) ++ ms) h_is;
}

-- ---- driving

-- what is added by what comes next, where nothing is cut
record Drives (end : EndId) (limits : Limits) (past : List Event) (next : Next) (added : Option Event) : Type 0 where
  no_cut : AddsNoCut added
  says : said_in added ≡ []
  hears : heard_in end limits past added ≡ []
  rests : added ≡ None → next ≡ due.Idle

drives : (end : EndId) (limits : Limits) (past : List Event) (next : Next) → (next ≡ due.Close → ⊥) → Drives end limits past next (driven false next)
unfolding AddsNoCut said_in heard_in
drives end limits past (due.Post n) h = record { no_cut = tt; says = refl; hears = refl; rests = λ e. absurd (let b : ⊥ = cc in b) }
drives end limits past (due.Emit f) h = record { no_cut = tt; says = refl; hears = refl; rests = λ e. absurd (let b : ⊥ = cc in b) }
drives end limits past due.Close h = absurd (h refl)
drives end limits past due.Idle h = record { no_cut = tt; says = refl; hears = refl; rests = λ e. refl }

drive_chosen : (end : EndId) (w : State) → event_chosen w (choices.Drive end) ≡ cond {A = Option Event} (is_cut (past_of end w)) None (driven w.link_cut (next_event end (limits_of end w) (past_of end w)))
drive_chosen Client w = refl
drive_chosen Server w = refl

pub driven_up : (end : EndId) (w : State) → IsUp w → event_chosen w (choices.Drive end) ≡ driven false (next_event end (limits_of end w) (past_of end w))
driven_up end w up =
    drive_chosen end w
    ∙ ap (λ (b : Bool). cond {A = Option Event} b None (driven w.link_cut (next_event end (limits_of end w) (past_of end w)))) (end_up end w up).uncut
    ∙ ap (λ (b : Bool). driven b (next_event end (limits_of end w) (past_of end w))) up.link

goes_by : (end : EndId) (w : State) → AreJointIn w → Drives end (limits_of end w) (past_of end w) (next_event end (limits_of end w) (past_of end w)) (driven false (next_event end (limits_of end w) (past_of end w)))
goes_by end w j =
    drives end (limits_of end w) (past_of end w) (next_event end (limits_of end w) (past_of end w))
    (never_closes end (limits_of end w) (past_of end w) (none_refused end (limits_of end w) (past_of end w) (accepted end w j)))

pub drove : (end : EndId) (w now : State) → AreJointIn w → IsUp w → now ≡ step_of w (choices.Drive end) → HasTurned end [] [] w now
drove end w now j up is =
    let d = goes_by end w j in
    turned_by end (driven false (next_event end (limits_of end w) (past_of end w))) [] [] w now d.no_cut d.says d.hears
    (stepped end w now (choices.Drive end) (driven false (next_event end (limits_of end w) (past_of end w))) refl refl (driven_up end w up) is) up

pub idle_by : (end : EndId) (w now : State) → AreJointIn w → IsUp w → now ≡ step_of w (choices.Drive end) → Nothing ≡ answer_of (event_chosen w (choices.Drive end)) → IsIdle end now
idle_by end w now j up is e =
    subst (λ (x : State). IsIdle end x) (sym (nothing_changed w now (choices.Drive end) is e))
    ((goes_by end w j).rests (sym (driven_up end w up) ∙ nothing_added (event_chosen w (choices.Drive end)) e))

-- ---- carrying

carry_chosen : (end : EndId) (w : State) → event_chosen w (choices.Carry end)
    ≡ cond {A = Option Event} (is_cut (past_of end w)) None (cond (is_ready end (limits_of end w) (past_of end w))
    (cond w.link_cut (Some Cut) (arrival (frames_in_flight (past_of end w) (past_of (peer_of end) w)))) None)
carry_chosen Client w = refl
carry_chosen Server w = refl

-- a frame is taken, or there is none that may be
unfoldable pub Carries : Bool → List (List ℕ) → Option Event → Type 0
Carries ready frames None = ready ≡ true → frames ≡ []
Carries ready frames (Some (Post n)) = ⊥
Carries ready frames (Some (Submit m)) = ⊥
Carries ready frames (Some (Emit f)) = ⊥
Carries ready frames (Some (Take f)) = Unit {0}
Carries ready frames (Some Cut) = ⊥

carries : (cut ready link : Bool) (frames : List (List ℕ)) → cut ≡ false → link ≡ false
    → Carries ready frames (cond {A = Option Event} cut None (cond ready (cond link (Some Cut) (arrival frames)) None))
unfolding Carries
carries true ready link frames c l = absurd (let b : ⊥ = cc in b)
carries false true true frames c l = absurd (let b : ⊥ = cc in b)
carries false true false [] c l = λ r. refl
carries false true false (f ∷ later) c l = tt
carries false false link frames c l = λ r. absurd (let b : ⊥ = cc in b)

pub carried_up : (end : EndId) (w : State) → IsUp w
    → Carries (is_ready end (limits_of end w) (past_of end w)) (frames_in_flight (past_of end w) (past_of (peer_of end) w)) (event_chosen w (choices.Carry end))
carried_up end w up =
    subst (λ (o : Option Event). Carries (is_ready end (limits_of end w) (past_of end w)) (frames_in_flight (past_of end w) (past_of (peer_of end) w)) o) (sym (carry_chosen end w))
    (carries (is_cut (past_of end w)) (is_ready end (limits_of end w) (past_of end w)) w.link_cut (frames_in_flight (past_of end w) (past_of (peer_of end) w))
    (end_up end w up).uncut up.link)

no_cut_carried : (ready : Bool) (frames : List (List ℕ)) (added : Option Event) → Carries ready frames added → AddsNoCut added × (said_in added ≡ [])
unfolding Carries AddsNoCut said_in
no_cut_carried ready frames None c = (tt, refl)
no_cut_carried ready frames (Some (Post n)) c = absurd c
no_cut_carried ready frames (Some (Submit m)) c = absurd c
no_cut_carried ready frames (Some (Emit f)) c = absurd c
no_cut_carried ready frames (Some (Take f)) c = (tt, refl)
no_cut_carried ready frames (Some Cut) c = absurd c

heard_newest : (end : EndId) (limits : Limits) (past : List Event) (added : Option Event) → Did ≡ answer_of added
    → heard_in end limits past added ≡ option_to_list (newest_brought end limits (past_after past added))
unfolding heard_in
heard_newest end limits past None e = absurd (let b : ⊥ = cc in b)
heard_newest end limits past (Some event) e = refl

pub carried_one : (end : EndId) (w now : State) → IsUp w → now ≡ step_of w (choices.Carry end) → Did ≡ answer_of (event_chosen w (choices.Carry end))
    → HasTurned end [] (heard_if true (newest_brought end (limits_of end now) (past_of end now))) w now
carried_one end w now up is e =
    let n = no_cut_carried (is_ready end (limits_of end w) (past_of end w)) (frames_in_flight (past_of end w) (past_of (peer_of end) w)) (event_chosen w (choices.Carry end)) (carried_up end w up) in
    let s = stepped end w now (choices.Carry end) (event_chosen w (choices.Carry end)) refl refl refl is in
    turned_by end (event_chosen w (choices.Carry end)) [] (option_to_list (newest_brought end (limits_of end now) (past_of end now))) w now n.0 n.1
    (heard_newest end (limits_of end w) (past_of end w) (event_chosen w (choices.Carry end)) e
    ∙ ap (λ (p : List Event). option_to_list (newest_brought end (limits_of end w) p)) (sym s.own)
    ∙ ap (λ (l : Limits). option_to_list (newest_brought end l (past_of end now))) (sym s.own_limits)) s up

pub turned_none : (end : EndId) (w now : State) → IsUp w → now ≡ w → HasTurned end [] [] w now
turned_none end w now up is = record {
  acted = acted_none end w now is;
  up = subst IsUp (sym is) up;
  submitted = ap (λ (x : State). messages_submitted (past_of end x)) is ∙ sym (append-nil (messages_submitted (past_of end w)));
  delivered = ap (λ (x : State). messages_delivered end (limits_of end x) (past_of end x)) is ∙ sym (append-nil (messages_delivered end (limits_of end w) (past_of end w)));
}

none_by : (ready : Bool) (frames : List (List ℕ)) (added : Option Event) → Carries ready frames added → added ≡ None → ready ≡ true → frames ≡ []
unfolding Carries
none_by ready frames added c e r = (subst (λ (o : Option Event). Carries ready frames o) e c) r

pub takes_nothing : (end : EndId) (w now : State) → AreJointIn w → IsUp w → now ≡ step_of w (choices.Carry end) → Nothing ≡ answer_of (event_chosen w (choices.Carry end)) → TakesNothing end w now
takes_nothing end w now j up is e = record {
  same = nothing_changed w now (choices.Carry end) is e;
  none = λ posted. none_by (is_ready end (limits_of end w) (past_of end w)) (frames_in_flight (past_of end w) (past_of (peer_of end) w)) (event_chosen w (choices.Carry end)) (carried_up end w up)
      (nothing_added (event_chosen w (choices.Carry end)) e) (ready end (limits_of end w) (past_of end w) (accepted end w j) (end_up end w up) posted);
}

-- an end at which nothing comes next, and which then took nothing, is at rest
pub rests : (end : EndId) (v w : State) → IsUp v → IsIdle end v → TakesNothing end v w → IsAtRest end w
rests end v w up idle t =
    subst (λ (s : State). IsAtRest end s) (sym t.same)
    (record { idle = idle; none_in_flight = t.none (idle_posted end (limits_of end v) (past_of end v) (end_up end v up) idle) })

-- ---- submitting

submit_chosen : (end : EndId) (w : State) (m : List ℕ) → event_chosen w (choices.Submit end m)
    ≡ cond {A = Option Event} (is_cut (past_of end w)) None (cond (is_none (submit_fault end (limits_of end w) (past_of end w) m)) (Some (Submit m)) None)
submit_chosen Client w m = refl
submit_chosen Server w m = refl

pub submitted_event : (end : EndId) (w : State) (m : List ℕ) → AreJointIn w → IsUp w → IsSendable m → event_chosen w (choices.Submit end m) ≡ Some (Submit m)
submitted_event end w m j up fits =
    let fault = never_refused end (limits_of end w) (past_of end w) m (accepted end w j) (end_up end w up) fits in
    submit_chosen end w m
    ∙ ap (λ (b : Bool). cond {A = Option Event} b None (cond (is_none (submit_fault end (limits_of end w) (past_of end w) m)) (Some (Submit m)) None)) (end_up end w up).uncut
    ∙ ap (λ (o : Option SubmitFault). cond {A = Option Event} (is_none o) (Some (Submit m)) None) fault

pub submitted_adds : (end : EndId) (w now : State) (m : List ℕ) → AreJointIn w → IsUp w → IsSendable m → now ≡ step_of w (choices.Submit end m) → HasAdded 1 end w now
submitted_adds end w now m j up fits is =
    added_one end w now (choices.Submit end m) refl refl is (sym (ap answer_of (submitted_event end w m j up fits)))

pub submitted_one : (end : EndId) (w now : State) (m : List ℕ) → AreJointIn w → IsUp w → IsSendable m → now ≡ step_of w (choices.Submit end m) → HasTurned end (m ∷ []) [] w now
unfolding AddsNoCut said_in heard_in
submitted_one end w now m j up fits is =
    turned_by end (Some (Submit m)) (m ∷ []) [] w now tt refl refl
    (stepped end w now (choices.Submit end m) (Some (Submit m)) refl refl (submitted_event end w m j up fits) is) up
