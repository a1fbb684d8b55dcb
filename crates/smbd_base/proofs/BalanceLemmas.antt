-- The counts of a legal history, by induction over its events.
use Rattle.std.proofs.Common.{◌≡◌, inl, inr, ℕ, ◌+◌, ◌≤◌, ◌<◌, ◌==◌, nat_le, Bool, true, false, not, ◌&&◌, ◌||◌, length, cond, List, [], ◌∷◌, is_some, min, Option, refl, ap, subst, arith}
use Rattle.std.proofs.lemmas.Bool.Decides.{nat_tests}
use Rattle.smbd_base.specs.declared.end_id.EndId.{EndId}
use Rattle.smbd_base.specs.declared.end_id.EndId.TheVariants.{Client, Server}
use Rattle.smbd_base.specs.declared.event.Event.{Event}
use Rattle.smbd_base.specs.declared.event.Event.TheVariants.{Post, Submit, Emit, Take, Cut}
use Rattle.smbd_base.specs.declared.faults.TakeFault.{TakeFault}
use Rattle.smbd_base.specs.Limits.{Limits, IsLawful}
use Rattle.smbd_base.specs.Grant.{credits_in}
use Rattle.smbd_base.specs.Pieces.{Piece}
use Rattle.smbd_base.specs.Counts.{frames_sent, frames_taken, credits_earned, credits_held, receives_outstanding, receives_grantable, is_silent, is_unheard, is_early, is_out_of_turn, peer_of}
use Rattle.smbd_base.specs.History.{negotiation_frame, peer_negotiation, data_frame_due, pieces_waiting, is_response_owed, is_cut, is_new, is_version_fault, is_server, is_version_refused, is_closed, is_post_due, is_negotiating, is_agreed, is_ready, sends, MayFollow, IsLegal}
use Rattle.smbd_base.specs.NegotiateMessages.{Request, request_fields, response_bytes, answer_to, refusing_response}
use Rattle.smbd_base.specs.Balance.{IsBalanced, IsNeverFull, receives_due}
use Rattle.smbd_base.proofs.FrameLaws.{credits_in-frame_bytes}
use Rattle.smbd_base.proofs.NegotiationLaws.{credits_in-response_bytes, fits-answer}
use Rattle.smbd_base.proofs.Inversion.{Emits, CanTake, emits, posts, both, sending_parts, ready_parts, out_of_turn}

-- ---- what a frame that is sent grants

pub silent_opening : (side : EndId) (past : List Event) → is_negotiating side past ≡ true → is_silent past ≡ true
silent_opening Client past opening = opening
silent_opening Server past opening = (both (is_silent past) _ opening).0

-- a data transfer message grants all that can be granted
pub granted-data_frame_due : (side : EndId) (limits : Limits) (held grantable : ℕ) (waiting : List Piece) → grantable < 65536
    → credits_in side false (data_frame_due limits held grantable waiting) ≡ grantable
granted-data_frame_due side limits held grantable [] lt = credits_in-frame_bytes side limits.credits grantable false 0 [] lt
granted-data_frame_due side limits held grantable (p ∷ later) lt =
    credits_in-frame_bytes side limits.credits grantable (not (length later == 0) && nat_le held 2) p.remaining p.payload lt

-- the response to a request grants no more than can be granted
grants_answer : (limits : Limits) (request : Request) (grantable : ℕ) → IsLawful limits → grantable < 65536
    → credits_in Server true (response_bytes (answer_to request limits grantable)) ≤ grantable
grants_answer limits request grantable lawful small =
    let is : credits_in Server true (response_bytes (answer_to request limits grantable)) ≡ min request.credits_requested grantable =
    credits_in-response_bytes (answer_to request limits grantable) (fits-answer limits request grantable lawful small) in
    omega (arith, is)

grants_response : (limits : Limits) (past : List Event) (version : Bool) → IsLawful limits → receives_grantable Server past < 65536
    → credits_in Server true (cond version (response_bytes refusing_response) (response_bytes (answer_to (request_fields (peer_negotiation past)) limits (receives_grantable Server past))))
    ≤ receives_grantable Server past
grants_response limits past true lawful small = omega arith
grants_response limits past false lawful small = grants_answer limits (request_fields (peer_negotiation past)) (receives_grantable Server past) lawful small

-- what the opening frame grants can be granted
grants_opening : (side : EndId) (limits : Limits) (past : List Event) → IsLawful limits → IsBalanced side limits past → is_silent past ≡ true
    → credits_in side (is_silent past) (negotiation_frame side limits past) ≤ receives_grantable side past
grants_opening Client limits past lawful b silent = rw silent (omega arith)
grants_opening Server limits past lawful b silent =
    rw silent (grants_response limits past (is_version_refused Server limits past) lawful (omega (arith, b.posted, b.taken, lawful.credits.1)))

-- what a sent frame grants can be granted
pub grants : (side : EndId) (limits : Limits) (past : List Event) (frame : List ℕ) → IsLawful limits → IsBalanced side limits past
    → Emits side limits past frame → credits_in side (is_silent past) frame ≤ receives_grantable side past
grants side limits past frame lawful b e =
    elim e.chosen.why as (λ _. credits_in side (is_silent past) frame ≤ receives_grantable side past) [
      | inl first ↦ rw (← first.1) (grants_opening side limits past lawful b (silent_opening side past first.0))
      | inr later ↦
          let spoken = (sending_parts side limits past e.going.closed later.1).spoken in
          let small : receives_grantable side past < 65536 = omega (arith, b.posted, b.taken, lawful.credits.1) in
          rw (← later.2, spoken, granted-data_frame_due side limits (credits_held side past) (receives_grantable side past) _ small) (omega arith)
    ]

-- ---- one event more

-- opening
balanced_open : (side : EndId) (limits : Limits) (n : ℕ) → IsLawful limits → limits.credits ≡ n → IsBalanced side limits (Post n ∷ [])
balanced_open side limits n lawful is = record {
  granted = omega (arith, lawful.credits.0);
  taken = omega arith;
  posted = omega arith;
  reposted = λ _ _. omega arith;
  spent = omega arith;
  silent_granted = λ _. refl;
  silent_held = λ _. omega arith;
  heard_taken = λ h _. absurd cc;
}

balanced_post : (side : EndId) (limits : Limits) (past : List Event) → is_cut past ≡ false → is_post_due past ≡ true → is_closed side limits past ≡ false → IsBalanced side limits past → IsBalanced side limits (Post 1 ∷ past)
balanced_post side limits past uncut owed accepted b =
    let one : receives_due past ≡ 1 = rw owed refl in
    record {
      granted = omega (arith, b.granted);
      taken = b.taken;
      posted = omega (arith, b.reposted uncut accepted);
      reposted = λ cut closed. omega (arith, b.reposted cut closed);
      spent = b.spent;
      silent_granted = b.silent_granted;
      silent_held = b.silent_held;
      heard_taken = b.heard_taken;
    }

balanced_submit : (side : EndId) (limits : Limits) (past : List Event) (m : List ℕ) → IsBalanced side limits past → IsBalanced side limits (Submit m ∷ past)
balanced_submit side limits past m b = record {
  granted = b.granted;
  taken = b.taken;
  posted = b.posted;
  reposted = b.reposted;
  spent = b.spent;
  silent_granted = b.silent_granted;
  silent_held = b.silent_held;
  heard_taken = b.heard_taken;
}

balanced_cut : (side : EndId) (limits : Limits) (past : List Event) → IsBalanced side limits past → IsBalanced side limits (Cut ∷ past)
balanced_cut side limits past b = record {
  granted = b.granted;
  taken = b.taken;
  posted = b.posted;
  reposted = λ cut _. absurd cc;
  spent = b.spent;
  silent_granted = b.silent_granted;
  silent_held = b.silent_held;
  heard_taken = b.heard_taken;
}

held_sends : (held outstanding grantable : ℕ) (waits owes : Bool) → sends held outstanding grantable waits owes ≡ true → 1 ≤ held
held_sends held outstanding grantable waits owes e =
    let h : nat_le 1 held ≡ true = (both _ _ (both _ _ e).0).0 in
    grind (arith, nat_tests)

-- an end that sends holds a credit
pub holds_one : (side : EndId) (limits : Limits) (past : List Event) (frame : List ℕ) → IsBalanced side limits past → Emits side limits past frame → 1 ≤ credits_held side past
holds_one side limits past frame b e =
    elim e.chosen.why as (λ _. 1 ≤ credits_held side past) [
      | inl first ↦ b.silent_held (silent_opening side past first.0)
      | inr later ↦ held_sends (credits_held side past) (receives_outstanding side past) (receives_grantable side past) (not (length (pieces_waiting side limits past) == 0)) (is_response_owed past) (both (is_agreed side limits past) _ later.1).1
    ]

balanced_emit : (side : EndId) (limits : Limits) (past : List Event) (frame : List ℕ) → IsLawful limits → IsBalanced side limits past → Emits side limits past frame → IsBalanced side limits (Emit frame ∷ past)
balanced_emit side limits past frame lawful b e =
    let grant = grants side limits past frame lawful b e in
    let one = holds_one side limits past frame b e in
    let none : receives_due past ≡ 0 = rw e.post_due refl in
    record {
      granted = omega (arith, b.granted);
      taken = omega (arith, b.taken);
      posted = b.posted;
      reposted = λ cut closed. omega (arith, b.reposted cut e.going.closed);
      spent = omega (arith, b.spent);
      silent_granted = λ h. absurd cc;
      silent_held = λ h. absurd cc;
      heard_taken = λ h closed. b.heard_taken h e.going.closed;
    }

some_left : (early : Bool) (outstanding : ℕ) → (early || outstanding == 0) ≡ false → 1 ≤ outstanding
some_left true outstanding e = absurd cc
some_left false outstanding e = grind (arith, nat_tests)

balanced_take : (side : EndId) (limits : Limits) (past : List Event) (frame : List ℕ) → IsBalanced side limits past → is_ready side limits past ≡ true → IsBalanced side limits (Take frame ∷ past)
balanced_take side limits past frame b ready = by_turn (is_out_of_turn side past) refl where
  parts : CanTake side limits past
  parts = ready_parts side limits past ready

  by_turn : (turn : Bool) → is_out_of_turn side past ≡ turn → IsBalanced side limits (Take frame ∷ past)
  by_turn true is =
      let taken_is : frames_taken side (Take frame ∷ past) ≡ frames_taken side past = ap (λ (t : Bool). cond t (frames_taken side past) (frames_taken side past + 1)) is in
      let held_is : credits_held side (Take frame ∷ past) ≡ credits_held side past =
      ap (λ (t : Bool). cond t (credits_held side past) (min 65535 (credits_held side past + credits_in (peer_of side) (is_unheard past) frame))) is in
      let earned_is : credits_earned side (Take frame ∷ past) ≡ credits_earned side past =
      ap (λ (t : Bool). cond t (credits_earned side past) (credits_earned side past + credits_in (peer_of side) (is_unheard past) frame)) is in
      let closed : is_closed side limits (Take frame ∷ past) ≡ true =
      ap (λ (o : Option TakeFault). is_some o && not (is_version_fault o && is_server side && is_silent past)) (out_of_turn side limits past frame is) in
      let early : is_closed side limits (Take frame ∷ past) ≡ false → ⊥ = λ h. (let other = closed in cc) in
      record {
        granted = b.granted;
        taken = omega (arith, b.taken, taken_is);
        posted = omega (arith, b.posted, taken_is);
        reposted = λ cut h. absurd (early h);
        spent = omega (arith, b.spent, held_is, earned_is);
        silent_granted = b.silent_granted;
        silent_held = λ h. omega (arith, b.silent_held h, held_is);
        heard_taken = λ h still. absurd (early still);
      }
  by_turn false is =
      let taken_is : frames_taken side (Take frame ∷ past) ≡ frames_taken side past + 1 = ap (λ (t : Bool). cond t (frames_taken side past) (frames_taken side past + 1)) is in
      let held_is : credits_held side (Take frame ∷ past) ≡ min 65535 (credits_held side past + credits_in (peer_of side) (is_unheard past) frame) =
      ap (λ (t : Bool). cond t (credits_held side past) (min 65535 (credits_held side past + credits_in (peer_of side) (is_unheard past) frame))) is in
      let earned_is : credits_earned side (Take frame ∷ past) ≡ credits_earned side past + credits_in (peer_of side) (is_unheard past) frame =
      ap (λ (t : Bool). cond t (credits_earned side past) (credits_earned side past + credits_in (peer_of side) (is_unheard past) frame)) is in
      let none : receives_due past ≡ 0 = rw parts.post_due refl in
      let left : 1 ≤ receives_outstanding side past = some_left (is_early side past) (receives_outstanding side past) is in
      record {
        granted = b.granted;
        taken = omega (arith, b.taken, taken_is);
        posted = omega (arith, b.posted, taken_is);
        reposted = λ cut closed. omega (arith, b.reposted parts.going.cut parts.going.closed, taken_is);
        spent = omega (arith, b.spent, held_is, earned_is);
        silent_granted = b.silent_granted;
        silent_held = λ h. omega (arith, b.silent_held h, held_is);
        heard_taken = λ h closed. omega (arith, taken_is);
      }

-- ---- all events

-- the first event posts the receives
first : (side : EndId) (limits : Limits) (e : Event) → IsLawful limits → MayFollow side limits e [] → IsBalanced side limits (e ∷ [])
first side limits (Post n) lawful follows =
    elim (posts side limits [] n follows).1 as (λ _. IsBalanced side limits (Post n ∷ [])) [
      | inl opening ↦ balanced_open side limits n lawful opening.1
      | inr later ↦ absurd (let b : ⊥ = (let o = later.0 in cc) in b)
    ]
first side limits (Submit m) lawful follows = absurd cc
first side limits (Emit f) lawful follows = let h = emits side limits [] f follows in absurd (let b : ⊥ = (let o = h.going.opened in cc) in b)
first side limits (Take f) lawful follows = absurd cc
first side limits Cut lawful follows = absurd (let b : ⊥ = (let o = follows.1 in cc) in b)

one_more : (side : EndId) (limits : Limits) (e : Event) (past : List Event) → IsLawful limits → MayFollow side limits e past → IsBalanced side limits past → is_new past ≡ false → IsBalanced side limits (e ∷ past)
one_more side limits (Post n) past lawful follows b opened =
    let h = posts side limits past n follows in
    elim h.1 as (λ _. IsBalanced side limits (Post n ∷ past)) [
      | inl opening ↦ absurd (let b : ⊥ = (let o = opening.0 in cc) in b)
      | inr later ↦ subst (λ (k : ℕ). IsBalanced side limits (Post k ∷ past)) later.3 (balanced_post side limits past h.0 later.2 later.1 b)
    ]
one_more side limits (Submit m) past lawful follows b opened = balanced_submit side limits past m b
one_more side limits (Emit f) past lawful follows b opened = balanced_emit side limits past f lawful b (emits side limits past f follows)
one_more side limits (Take f) past lawful follows b opened = balanced_take side limits past f b follows
one_more side limits Cut past lawful follows b opened = balanced_cut side limits past b

-- the counts of a legal history balance
pub balanced : (side : EndId) (limits : Limits) (past : List Event) → IsLawful limits → IsLegal side limits past → is_new past ≡ false → IsBalanced side limits past
balanced side limits [] lawful legal opened = absurd cc
balanced side limits (e ∷ []) lawful legal opened = first side limits e lawful legal.0
balanced side limits (e ∷ e' ∷ past) lawful legal opened = one_more side limits e (e' ∷ past) lawful legal.0 (balanced side limits (e' ∷ past) lawful legal.1 refl) refl

-- ---- what is held, where it is not at its most

held_by : (turn : Bool) (held earned sent grant : ℕ) → held + sent ≡ earned → cond turn held (min 65535 (held + grant)) < 65535
    → cond turn held (min 65535 (held + grant)) + sent ≡ cond turn earned (earned + grant)
held_by true held earned sent grant all small = all
held_by false held earned sent grant all small = omega arith

pub held_earned : (side : EndId) (limits : Limits) (past : List Event) → IsLawful limits → IsLegal side limits past → IsNeverFull side past
    → credits_held side past + frames_sent past ≡ credits_earned side past
held_earned side limits [] lawful legal small = refl
held_earned side limits (Post n ∷ past) lawful legal small = held_earned side limits past lawful legal.1 small.1
held_earned side limits (Submit m ∷ past) lawful legal small = held_earned side limits past lawful legal.1 small.1
held_earned side limits (Emit f ∷ past) lawful legal small =
    let e = emits side limits past f legal.0 in
    let one = holds_one side limits past f (balanced side limits past lawful legal.1 e.going.opened) e in
    omega (arith, one, held_earned side limits past lawful legal.1 small.1)
held_earned side limits (Take f ∷ past) lawful legal small =
    held_by (is_out_of_turn side past) (credits_held side past) (credits_earned side past) (frames_sent past)
    (credits_in (peer_of side) (is_unheard past) f) (held_earned side limits past lawful legal.1 small.1) small.0
held_earned side limits (Cut ∷ past) lawful legal small = held_earned side limits past lawful legal.1 small.1
