-- A track after one event more.
use Rattle.std.proofs.Common.{◌≡◌, ◌⊎◌, inl, inr, ℕ, ◌+◌, ◌-◌, ◌≤◌, ◌==◌, min, Bool, true, false, not, ◌&&◌, ◌||◌, cond, List, [], ◌∷◌, Option, Some, None, is_some, refl, sym, ap, ◌∙◌, subst, arith}
use Rattle.std.proofs.lemmas.Bool.Decides.{nat_tests}
use Rattle.smbd_base.specs.declared.end_id.EndId.{EndId}
use Rattle.smbd_base.specs.declared.event.Event.{Event}
use Rattle.smbd_base.specs.declared.event.Event.TheVariants.{Post, Emit, Take}
use Rattle.smbd_base.specs.declared.faults.TakeFault.{TakeFault}
use Rattle.smbd_base.specs.declared.next.Next.TheVariants as due
use Rattle.smbd_base.specs.Limits.{Limits, IsLawful}
use Rattle.smbd_base.specs.Grant.{credits_in}
use Rattle.smbd_base.specs.Counts.{credits_held, frames_taken, receives_outstanding, is_early, is_silent, is_unheard, is_out_of_turn, peer_of}
use Rattle.smbd_base.specs.History.{next_event, take_fault, is_closed, is_cut, is_new, is_ready, is_refused, is_response_owed, is_server, is_version_fault, is_version_refused, IsLegal}
use Rattle.smbd_base.specs.Balance.{IsBalanced}
use Rattle.smbd_base.proofs.BalanceLemmas.{balanced}
use Rattle.smbd_base.proofs.Inversion.{IsGoing, emits, ready_parts}
use Rattle.credit_ledger.specs.Credits.{Credits, opened as opened_ledger, may_spend, with_spent, with_request}
use Rattle.credit_ledger.specs.Recorded.{IsLedgerOf}
use Rattle.credit_ledger.proofs.Recording.{posts_fit, recorded-legal, silent_one}
use Rattle.credit_ledger.proofs.Spending.{frames_may_be_spent}
use Rattle.connection_core.specs.Recorded.{Recorded}
use Rattle.connection_core.specs.Keeps.{Keeps}
use Rattle.connection_core.specs.Ledgered.{credits_after_sending, credits_after_taking}
use Rattle.connection_core.specs.Peers.{Knows}
use Rattle.connection_core.specs.Standing.{standing_of, sent_standing, taken_standing}
use Rattle.connection_core.specs.declared.peer.Peer.{Peer}
use Rattle.connection_core.specs.declared.peer.Peer.TheVariants as peers
use Rattle.connection_core.specs.declared.track.Standing.{Standing}
use Rattle.connection_core.specs.declared.track.Standing.TheVariants as standings
use Rattle.connection_core.specs.declared.track.Track.TheInside.{Inside}

-- ---- opened

-- an end that has posted its receives has a legal history
pub legal_opening : (side : EndId) (limits : Limits) → IsLegal side limits (Post limits.credits ∷ [])
unfolding next_event
legal_opening side limits = (refl, tt)

abbrev pub opened : EndId → Limits → Recorded → Credits → Inside
opened side limits history ledger = record {
  side = side;
  limits = limits;
  history = history;
  ledger = ledger;
  standing = standings.Open;
  spoken = false;
  peer = peers.Unheard;
  post_due = false;
  response_owed = false;
}

pub Keeps-opened : (side : EndId) (limits : Limits) (history before : Recorded) (ledger : Credits) (credits room : ℕ) → IsLawful limits → credits ≡ limits.credits → before.past ≡ []
    → history ≡ record { past = Post credits ∷ before.past; room = room } → ledger ≡ opened_ledger credits → Keeps (opened side limits history ledger)
Keeps-opened side limits history before ledger credits room lawful credits_is none history_is ledger_is =
    let past_is : history.past ≡ Post limits.credits ∷ [] =
    ap (λ (r : Recorded). r.past) history_is ∙ ap (λ (p : List Event). Post credits ∷ p) none ∙ ap (λ (n : ℕ). Post n ∷ []) credits_is in
    rw (past_is, ledger_is, credits_is) (record {
      lawful = lawful;
      opened = refl;
      legal = legal_opening side limits;
      ledger = recorded-legal side limits (Post limits.credits ∷ []) (opened_ledger limits.credits) lawful (legal_opening side limits) refl
          (record { held = refl; outstanding = refl; grantable = omega arith });
      most = refl;
      standing = refl;
      silent = refl;
      peer = refl;
      post_due = refl;
      response_owed = refl;
    })

-- ---- what a track knows

abbrev past_of : Inside → List Event
past_of t = t.history.past

pub balance : (t : Inside) → Keeps t → IsBalanced t.side t.limits (past_of t)
balance t k = balanced t.side t.limits (past_of t) k.lawful k.legal k.opened

pub standing_cut : (side : EndId) (limits : Limits) (past : List Event) → standings.Cut ≡ standing_of side limits past → is_cut past ≡ true
standing_cut side limits past is = by_tests (is_cut past) (is_closed side limits past) (is_refused side limits past) is where
  by_tests : (cut closed refused : Bool) → standings.Cut ≡ cond {A = Standing} cut standings.Cut (cond closed standings.Closed (cond refused standings.Declining standings.Open)) → cut ≡ true
  by_tests true closed refused e = refl
  by_tests false true refused e = absurd cc
  by_tests false false true e = absurd cc
  by_tests false false false e = absurd cc

pub standing_closed : (side : EndId) (limits : Limits) (past : List Event) → standings.Closed ≡ standing_of side limits past → (is_cut past ≡ false) × (is_closed side limits past ≡ true)
standing_closed side limits past is = by_tests (is_cut past) (is_closed side limits past) (is_refused side limits past) is where
  by_tests : (cut closed refused : Bool) → standings.Closed ≡ cond {A = Standing} cut standings.Cut (cond closed standings.Closed (cond refused standings.Declining standings.Open))
      → (cut ≡ false) × (closed ≡ true)
  by_tests true closed refused e = absurd cc
  by_tests false true refused e = (refl, refl)
  by_tests false false true e = absurd cc
  by_tests false false false e = absurd cc

-- an open end goes on, and so does one that still has to send the refusing response
pub standing_going : (side : EndId) (limits : Limits) (past : List Event) (standing : Standing) → standing ≡ standing_of side limits past
    → (standing ≡ standings.Declining) ⊎ (standing ≡ standings.Open) → is_new past ≡ false → IsGoing side limits past
standing_going side limits past standing is going new =
    let h = by_tests (is_cut past) (is_closed side limits past) (is_refused side limits past) standing is going in
    record { cut = h.0; opened = new; closed = h.1 } where
      not_stopped : {A : Type 0} (s : Standing) → (s ≡ standings.Declining) ⊎ (s ≡ standings.Open) → (s ≡ standings.Cut ⊎ s ≡ standings.Closed) → A
      not_stopped standings.Open going stopped = elim stopped [ inl h ↦ cc | inr h ↦ cc ]
      not_stopped standings.Declining going stopped = elim stopped [ inl h ↦ cc | inr h ↦ cc ]
      not_stopped standings.Closed going stopped = elim going [ inl h ↦ cc | inr h ↦ cc ]
      not_stopped standings.Cut going stopped = elim going [ inl h ↦ cc | inr h ↦ cc ]

      by_tests : (cut closed refused : Bool) (standing : Standing) → standing ≡ cond {A = Standing} cut standings.Cut (cond closed standings.Closed (cond refused standings.Declining standings.Open))
          → (standing ≡ standings.Declining) ⊎ (standing ≡ standings.Open) → (cut ≡ false) × (closed ≡ false)
      by_tests true closed refused s e g = not_stopped s g (inl e)
      by_tests false true refused s e g = not_stopped s g (inr e)
      by_tests false false refused s e g = (refl, refl)

-- ---- after a Post

-- the receive that is due has room
pub post_fits : (t : Inside) → Keeps t → next_event t.side t.limits (past_of t) ≡ due.Post 1 → t.ledger.grantable + t.ledger.outstanding + 1 ≤ t.ledger.max_receives
post_fits t k due = omega (arith, posts_fit t.side t.limits (past_of t) t.ledger 1 k.lawful k.legal k.ledger due, k.most)

-- ---- after an Emit

-- the first frame that an end sends spends the one credit of the negotiation where it grants nothing
pub holds_one : (t : Inside) (granted : ℕ) → Keeps t → (not t.spoken && granted == 0) ≡ true → t.ledger.held ≡ 1
holds_one t granted k e = by_spoken t.spoken k.silent e where
  by_spoken : (spoken : Bool) → is_silent (past_of t) ≡ not spoken → (not spoken && granted == 0) ≡ true → t.ledger.held ≡ 1
  by_spoken true s h = absurd cc
  by_spoken false s h = k.ledger.counts.held ∙ silent_one t.side (past_of t) s

-- any other may be spent
pub may_be_spent : (t : Inside) (frame : List ℕ) (granted : ℕ) → Keeps t → next_event t.side t.limits (past_of t) ≡ due.Emit frame
    → granted ≡ credits_in t.side (not t.spoken) frame → (not t.spoken && granted == 0) ≡ false → may_spend granted t.ledger ≡ true
may_be_spent t frame granted k due is e =
    let grant : credits_in t.side (is_silent (past_of t)) frame ≡ granted = ap (λ (first : Bool). credits_in t.side first frame) k.silent ∙ sym is in
    elim (frames_may_be_spent t.side t.limits (past_of t) t.ledger frame k.lawful k.legal k.ledger due) as (λ _. may_spend granted t.ledger ≡ true) [
      | inl first ↦
          let opening : not t.spoken ≡ true = sym k.silent ∙ first.0 in
          let none : granted ≡ 0 = sym grant ∙ ap (λ (f : Bool). credits_in t.side f frame) first.0 ∙ first.2 in
          absurd (let b : ⊥ = (let zero_is : (granted == 0) ≡ true = grind (arith, nat_tests) in (let c : (true && true) ≡ false = rw (opening, zero_is) at e in cc)) in b)
      | inr may ↦ subst (λ (n : ℕ). may_spend n t.ledger ≡ true) grant may
    ]

-- the ledger then
sent_ledger : (side : EndId) (past : List Event) (ledger : Credits) (frame : List ℕ) (opening none : Bool) (granted : ℕ) → IsLedgerOf side past ledger
    → granted ≡ credits_in side (is_silent past) frame → (opening && granted == 0) ≡ none
    → ((opening && granted == 0) ≡ true → ledger.held ≡ 1) → ((opening && granted == 0) ≡ false → may_spend granted ledger ≡ true)
    → IsLedgerOf side (Emit frame ∷ past) (cond none (with_request ledger) (with_spent granted ledger))
sent_ledger side past ledger frame opening true granted l is none one may =
    let zero_is : granted ≡ 0 = by_test opening (granted == 0) refl none in
    let nothing : credits_in side (is_silent past) frame ≡ 0 = sym is ∙ zero_is in
    let held = one none in
    record {
      counts = record {
        held = omega (arith, l.counts.held, held);
        outstanding = omega (arith, l.counts.outstanding, nothing, l.taken);
        grantable = omega (arith, l.counts.grantable, nothing);
      };
      granted = omega (arith, l.granted, nothing);
      taken = omega (arith, l.taken);
    } where
      by_test : (o z : Bool) → (granted == 0) ≡ z → (o && z) ≡ true → granted ≡ 0
      by_test true true e h = grind (arith, nat_tests)
      by_test true false e h = absurd cc
      by_test false z e h = absurd cc
sent_ledger side past ledger frame opening false granted l is none one may =
    let few : granted ≤ ledger.grantable = can granted ledger (may none) in
    record {
      counts = record {
        held = ap (λ (n : ℕ). n - 1) l.counts.held;
        outstanding = omega (arith, l.counts.outstanding, is, l.taken);
        grantable = omega (arith, l.counts.grantable, is);
      };
      granted = omega (arith, l.granted, is, l.counts.grantable, few);
      taken = omega (arith, l.taken);
    } where
      can : (n : ℕ) (c : Credits) → may_spend n c ≡ true → n ≤ c.grantable
      can n c e = grind (arith, nat_tests)

declined : (cut refused version silent : Bool) → silent ≡ true ⊎ silent ≡ false
    → sent_standing (cond {A = Standing} cut standings.Cut (cond (refused && not (version && silent)) standings.Closed (cond refused standings.Declining standings.Open)))
    ≡ cond {A = Standing} cut standings.Cut (cond (refused && not (version && false)) standings.Closed (cond refused standings.Declining standings.Open))
declined true refused version silent h = refl
declined false true true true h = refl
declined false true true false h = refl
declined false true false true h = refl
declined false true false false h = refl
declined false false version silent h = refl

either : (b : Bool) → b ≡ true ⊎ b ≡ false
either true = inl refl
either false = inr refl

pub Keeps-emit : (t : Inside) (history : Recorded) (ledger : Credits) (standing : Standing) (frame : List ℕ) (granted room : ℕ) → Keeps t
    → next_event t.side t.limits (past_of t) ≡ due.Emit frame → granted ≡ credits_in t.side (not t.spoken) frame
    → standing ≡ sent_standing (standing_of t.side t.limits (past_of t)) → history ≡ record { past = Emit frame ∷ past_of t; room = room }
    → ledger ≡ credits_after_sending (not t.spoken) granted t.ledger
    → Keeps (record t { history = history; ledger = ledger; standing = standing; spoken = true; response_owed = false })
Keeps-emit t history ledger standing frame granted room k due is standing_is history_is ledger_is =
    let past_is : history.past ≡ Emit frame ∷ past_of t = ap (λ (r : Recorded). r.past) history_is in
    let e = emits t.side t.limits (past_of t) frame due in
    let grant : granted ≡ credits_in t.side (is_silent (past_of t)) frame = is ∙ ap (λ (first : Bool). credits_in t.side first frame) (sym k.silent) in
    let own = sent_ledger t.side (past_of t) t.ledger frame (not t.spoken) (not t.spoken && granted == 0) granted k.ledger grant refl
    (holds_one t granted k) (may_be_spent t frame granted k due is) in
    rw (past_is, ledger_is) (record {
      lawful = k.lawful;
      opened = refl;
      legal = (due, k.legal);
      ledger = own;
      most = most_of (not t.spoken && granted == 0) ∙ k.most;
      standing = standing_is ∙ declined (is_cut (past_of t)) (is_refused t.side t.limits (past_of t)) (is_version_refused t.side t.limits (past_of t)) (is_silent (past_of t)) (either _);
      silent = refl;
      peer = knows t.peer k.peer;
      post_due = k.post_due ∙ e.post_due;
      response_owed = refl;
    }) where
      most_of : (b : Bool) → (cond b (with_request t.ledger) (with_spent granted t.ledger)).max_receives ≡ t.ledger.max_receives
      most_of true = refl
      most_of false = refl

      knows : (p : Peer) → Knows t.side t.limits (past_of t) p → Knows t.side t.limits (Emit frame ∷ past_of t) p
      knows peers.Unheard h = h
      knows (peers.Requests r) h = record { heard = h.heard; welcomed = h.welcomed; says = h.says }
      knows (peers.Responds a) h = record { heard = h.heard; welcomed = h.welcomed; says = h.says }
      knows peers.Refused h = record { heard = h.heard; unwelcome = h.unwelcome }

-- ---- after a Take

some_left : (early : Bool) (outstanding : ℕ) → (early || outstanding == 0) ≡ false → 1 ≤ outstanding
some_left true outstanding e = absurd cc
some_left false outstanding e = grind (arith, nat_tests)

-- what may be earned from a frame that came in turn
pub earns : (t : Inside) (in_turn : Bool) → Keeps t → in_turn ≡ not (is_out_of_turn t.side (past_of t)) → in_turn ≡ true → 1 ≤ t.ledger.outstanding
earns t in_turn k is turn =
    let h : is_out_of_turn t.side (past_of t) ≡ false = by_turn (is_out_of_turn t.side (past_of t)) (sym is ∙ turn) in
    omega (arith, some_left (is_early t.side (past_of t)) (receives_outstanding t.side (past_of t)) h, k.ledger.counts.outstanding) where
      by_turn : (b : Bool) → not b ≡ true → b ≡ false
      by_turn true e = absurd cc
      by_turn false e = refl

-- the ledger then
taken_ledger : (side : EndId) (past : List Event) (ledger : Credits) (frame : List ℕ) (turn : Bool) (granted : ℕ) → IsLedgerOf side past ledger
    → granted ≡ credits_in (peer_of side) (is_unheard past) frame → is_out_of_turn side past ≡ turn → IsLedgerOf side (Take frame ∷ past) (credits_after_taking (not turn) granted ledger)
taken_ledger side past ledger frame true granted l is turn =
    let taken_is : frames_taken side (Take frame ∷ past) ≡ frames_taken side past = ap (λ (b : Bool). cond b (frames_taken side past) (frames_taken side past + 1)) turn in
    let held_is : credits_held side (Take frame ∷ past) ≡ credits_held side past =
    ap (λ (b : Bool). cond b (credits_held side past) (min 65535 (credits_held side past + credits_in (peer_of side) (is_unheard past) frame))) turn in
    record {
      counts = record { held = l.counts.held ∙ sym held_is; outstanding = omega (arith, l.counts.outstanding, taken_is); grantable = l.counts.grantable };
      granted = l.granted;
      taken = omega (arith, l.taken, taken_is);
    }
taken_ledger side past ledger frame false granted l is turn =
    let taken_is : frames_taken side (Take frame ∷ past) ≡ frames_taken side past + 1 = ap (λ (b : Bool). cond b (frames_taken side past) (frames_taken side past + 1)) turn in
    let held_is : credits_held side (Take frame ∷ past) ≡ min 65535 (credits_held side past + credits_in (peer_of side) (is_unheard past) frame) =
    ap (λ (b : Bool). cond b (credits_held side past) (min 65535 (credits_held side past + credits_in (peer_of side) (is_unheard past) frame))) turn in
    let left = some_left (is_early side past) (receives_outstanding side past) turn in
    record {
      counts = record {
        held = ap (λ (n : ℕ). min 65535 (n + granted)) l.counts.held ∙ ap (λ (n : ℕ). min 65535 (credits_held side past + n)) is ∙ sym held_is;
        outstanding = omega (arith, l.counts.outstanding, taken_is);
        grantable = l.counts.grantable;
      };
      granted = l.granted;
      taken = omega (arith, taken_is, left);
    }

not_not : (b c : Bool) → c ≡ not b → not c ≡ b
not_not true c e = rw e refl
not_not false c e = rw e refl

-- how an end stands that was open
taken_stands : (side : EndId) (cut silent : Bool) (fault : Option TakeFault) → cut ≡ false
    → taken_standing side silent fault
    ≡ cond {A = Standing} cut standings.Cut
    (cond (is_some fault && not (is_version_fault fault && is_server side && silent)) standings.Closed (cond (is_some fault) standings.Declining standings.Open))
taken_stands side cut silent None e = rw e refl
taken_stands side cut silent (Some fault) e = rw e (by_test (is_version_fault (Some fault) && is_server side && silent)) where
  by_test : (b : Bool) → cond {A = Standing} b standings.Declining standings.Closed ≡ cond (not b) standings.Closed standings.Declining
  by_test true = refl
  by_test false = refl

pub Keeps-take : (t : Inside) (history : Recorded) (ledger : Credits) (standing : Standing) (peer : Peer) (frame : List ℕ) (fault : Option TakeFault) (in_turn owed : Bool) (granted room : ℕ) → Keeps t
    → is_ready t.side t.limits (past_of t) ≡ true → fault ≡ take_fault t.side t.limits (past_of t) frame
    → in_turn ≡ not (is_out_of_turn t.side (past_of t)) → granted ≡ credits_in (peer_of t.side) (is_unheard (past_of t)) frame
    → standing ≡ taken_standing t.side (is_silent (past_of t)) fault → Knows t.side t.limits (Take frame ∷ past_of t) peer
    → owed ≡ is_response_owed (Take frame ∷ past_of t) → history ≡ record { past = Take frame ∷ past_of t; room = room } → ledger ≡ credits_after_taking in_turn granted t.ledger
    → Keeps (record t { history = history; ledger = ledger; standing = standing; peer = peer; post_due = true; response_owed = owed })
Keeps-take t history ledger standing peer frame fault in_turn owed granted room k ready fault_is turn_is grant_is standing_is knows owed_is history_is ledger_is =
    let past_is : history.past ≡ Take frame ∷ past_of t = ap (λ (r : Recorded). r.past) history_is in
    let r = ready_parts t.side t.limits (past_of t) ready in
    let turn : is_out_of_turn t.side (past_of t) ≡ not in_turn = sym (not_not (is_out_of_turn t.side (past_of t)) in_turn turn_is) in
    let own : IsLedgerOf t.side (Take frame ∷ past_of t) (credits_after_taking (not (not in_turn)) granted t.ledger) =
    taken_ledger t.side (past_of t) t.ledger frame (not in_turn) granted k.ledger grant_is turn in
    rw (past_is, ledger_is) (record {
      lawful = k.lawful;
      opened = refl;
      legal = (ready, k.legal);
      ledger = subst (λ (b : Bool). IsLedgerOf t.side (Take frame ∷ past_of t) (credits_after_taking b granted t.ledger)) (twice in_turn) own;
      most = most_of in_turn ∙ k.most;
      standing = standing_is ∙ ap (λ (o : Option TakeFault). taken_standing t.side (is_silent (past_of t)) o) fault_is
          ∙ taken_stands t.side (is_cut (past_of t)) (is_silent (past_of t)) (take_fault t.side t.limits (past_of t) frame) r.going.cut;
      silent = k.silent;
      peer = knows;
      post_due = refl;
      response_owed = owed_is;
    }) where
      twice : (b : Bool) → not (not b) ≡ b
      twice true = refl
      twice false = refl

      most_of : (b : Bool) → (credits_after_taking b granted t.ledger).max_receives ≡ t.ledger.max_receives
      most_of true = refl
      most_of false = refl
