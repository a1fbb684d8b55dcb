-- An end that submits nothing, and does what comes next: how many frames it sends, and when it may take the next one.
use Rattle.std.proofs.Common.{◌≡◌, inl, inr, ℕ, length-append, get_or, add-one, suc, ◌+◌, ◌<◌, ◌≤◌, ◌==◌, nat_le, nat_lt, Bool, true, false, not, ◌&&◌, ◌||◌, cond, is_some, Option, Some, None, Result, Ok, Err, List, [], ◌∷◌, ◌++◌, length, take, drop, min, length-take, length-drop, refl, sym, ap, subst, ◌∙◌, arith}
use Rattle.std.specs.List.{flat_map}
use Rattle.std.proofs.lemmas.Bool.Decides.{nat_tests}
use Rattle.std.proofs.lemmas.Bool.{leb-true}
use Rattle.std.proofs.Math.Seq.{drop-nil, drop-cons}
use Rattle.std.proofs.lemmas.List.{take_min, drop_min}
use Rattle.smbd_base.specs.declared.end_id.EndId.{EndId}
use Rattle.smbd_base.specs.declared.end_id.EndId.TheVariants.{Client, Server}
use Rattle.smbd_base.specs.declared.event.Event.{Event}
use Rattle.smbd_base.specs.declared.event.Event.TheVariants.{Post, Submit, Emit, Take, Cut}
use Rattle.smbd_base.specs.declared.next.Next.{Next}
use Rattle.smbd_base.specs.declared.next.Next.TheVariants as due
use Rattle.smbd_base.specs.declared.faults.TakeFault.{TakeFault}
use Rattle.smbd_base.specs.declared.faults.TakeFault.TheVariants as faults
use Rattle.smbd_base.specs.Limits.{Limits, IsLawful}
use Rattle.smbd_base.specs.Balance.{IsBalanced, receives_due}
use Rattle.smbd_base.specs.Counts.{credits_granted, credits_held, frames_taken, receives_posted, receives_outstanding, receives_grantable, is_silent, is_unheard, is_out_of_turn}
use Rattle.smbd_base.specs.Grant.{credits_in}
use Rattle.smbd_base.specs.Pieces.{pieces_of, gather_fault}
use Rattle.smbd_base.specs.History.{next_event, due_event, take_fault, is_cut, is_new, is_refused, is_closed, is_post_due, is_open, is_ready, is_agreed, is_welcomed, is_sending, is_response_owed, sends, frame_due, messages_submitted, payload_size, pieces_sent, pieces_waiting, IsLegal, broken_fault, negotiate_fault, data_fault, negotiation_fault, fault_expecting, bytes_expected}
use Rattle.smbd_base.specs.declared.faults.Broken.{Broken}
use Rattle.smbd_base.specs.declared.faults.NegotiateFault.{NegotiateFault}
use Rattle.smbd_base.specs.declared.faults.FrameFault.{FrameFault}
use Rattle.smbd_base.specs.DataFrame.{DataFrame, data_frame_of}
use Rattle.smbd_base.specs.Joint.{taken_frames}
use Rattle.smbd_base.proofs.Inversion.{IsGoing, emits, posts, both, from_not, sending_parts, ready_parts, out_of_turn}
use Rattle.smbd_base.proofs.NextLemmas.{next-post}
use Rattle.smbd_base.proofs.BalanceLemmas.{silent_opening, granted-data_frame_due, balanced}
use Rattle.smbd_base.proofs.Counting.{taken_most}
use Rattle.connection_core.specs.Answered.{IsTakeRefused}
use Rattle.connection_core.specs.Shown.{Shown}
use Rattle.sim_adapter.specs.Raw.{Adapter}
use Rattle.world_core.specs.Raw.{Facing, frames_met, SendsFew, events_left, IsFacing, AreDue, Settles, Takes, first_unposted, Runs, RunsOn, Ended, Told, told_of, IsRawRun, with_event, with_taken}

-- ---- after a frame was sent, none comes next

-- the counts of a server that has sent nothing
pub record IsMute (past : List Event) : Type 0 where
  pub held : credits_held Server past ≡ 1
  pub granted : credits_granted Server past ≡ 1
  pub unheard : is_unheard past ≡ true → frames_taken Server past ≡ 0
  pub heard : is_unheard past ≡ false → frames_taken Server past ≡ 1

pub mute : (past : List Event) → is_silent past ≡ true → IsMute past
mute [] silent = record { held = refl; granted = refl; unheard = λ _. refl; heard = λ h. absurd cc }
mute (Post n ∷ past) silent = let m = mute past silent in record { held = m.held; granted = m.granted; unheard = m.unheard; heard = m.heard }
mute (Submit m ∷ past) silent = let m = mute past silent in record { held = m.held; granted = m.granted; unheard = m.unheard; heard = m.heard }
mute (Emit f ∷ past) silent = absurd cc
mute (Take f ∷ past) silent = pick (mute past silent) (is_unheard past) refl
  where
    pick : IsMute past → (b : Bool) → is_unheard past ≡ b → IsMute (Take f ∷ past)
    pick m true e =
        let none = m.unheard e in
        record {
          held = rw (m.granted, none, m.held, e) refl;
          granted = m.granted;
          unheard = λ h. absurd cc;
          heard = λ h. rw (m.granted, none) refl;
        }
    pick m false e =
        let one = m.heard e in
        record {
          held = rw (m.granted, one, m.held) refl;
          granted = m.granted;
          unheard = λ h. absurd cc;
          heard = λ h. rw (m.granted, one) refl;
        }
mute (Cut ∷ past) silent = let m = mute past silent in record { held = m.held; granted = m.granted; unheard = m.unheard; heard = m.heard }

-- a client that has sent nothing was not welcomed: what it takes comes out of turn
pub unwelcome : (limits : Limits) (past : List Event) → is_silent past ≡ true → is_welcomed Client limits past ≡ false
unwelcome limits [] silent = refl
unwelcome limits (Post n ∷ past) silent = unwelcome limits past silent
unwelcome limits (Submit m ∷ past) silent = unwelcome limits past silent
unwelcome limits (Emit f ∷ past) silent = absurd cc
unwelcome limits (Take f ∷ past) silent = pick (unwelcome limits past silent) (is_unheard past) refl
  where
    pick : is_welcomed Client limits past ≡ false → (b : Bool) → is_unheard past ≡ b → is_welcomed Client limits (Take f ∷ past) ≡ false
    pick before true e =
        let early : is_out_of_turn Client past ≡ true = rw silent refl in
        let refused = out_of_turn Client limits past f early in
        rw (e, refused) refl
    pick before false e = rw e before
unwelcome limits (Cut ∷ past) silent = unwelcome limits past silent

-- what an end that sends needs, where no piece waits and no response is owed
needs : (held outstanding grantable : ℕ) (waits owes : Bool) → waits ≡ false → owes ≡ false → sends held outstanding grantable waits owes ≡ true
    → (1 ≤ held) × (1 ≤ grantable)
needs held outstanding grantable true owes quiet paid e = absurd cc
needs held outstanding grantable false true quiet paid e = absurd cc
needs held outstanding grantable false false quiet paid e =
    let reasons = (both (nat_le 1 held && (nat_le outstanding 1 && nat_le 1 grantable)) (not (held == 1) || nat_le 1 grantable) e).0 in
    let all = both (nat_le 1 held) (nat_le outstanding 1 && nat_le 1 grantable) reasons in
    let grants = (both (nat_le outstanding 1) (nat_le 1 grantable) all.1).1 in
    (leb-true 1 held all.0, leb-true 1 grantable grants)

nothing_waits : (side : EndId) (limits : Limits) (past : List Event) → messages_submitted past ≡ [] → not (length (pieces_waiting side limits past) == 0) ≡ false
nothing_waits side limits past quiet =
    let none : pieces_waiting side limits past ≡ [] =
    ap (λ (ms : List (List ℕ)). drop (pieces_sent past) (flat_map (pieces_of (payload_size side limits past)) ms)) quiet ∙ drop-nil (pieces_sent past) in
    rw none refl

sending_needs : (side : EndId) (limits : Limits) (past : List Event) → messages_submitted past ≡ [] → is_response_owed past ≡ false → is_sending side limits past ≡ true
    → (1 ≤ credits_held side past) × (1 ≤ receives_grantable side past)
sending_needs side limits past quiet paid e =
    needs (credits_held side past) (receives_outstanding side past) (receives_grantable side past) (not (length (pieces_waiting side limits past) == 0)) (is_response_owed past)
    (nothing_waits side limits past quiet) paid (both (is_agreed side limits past) _ e).1

-- a client that has only requested is not agreed, and a server that has only responded holds no credit
opened_waits : (side : EndId) (limits : Limits) (past : List Event) (frame : List ℕ) → is_silent past ≡ true → messages_submitted past ≡ []
    → is_sending side limits (Emit frame ∷ past) ≡ true → ⊥
opened_waits Client limits past frame silent quiet e =
    let agreed = (both (is_agreed Client limits (Emit frame ∷ past)) _ e).0 in
    let welcomed = (both (is_welcomed Client limits past) _ agreed).0 in
    let not_welcomed = unwelcome limits past silent in
    let b : ⊥ = cc in b
opened_waits Server limits past frame silent quiet e =
    let n = sending_needs Server limits (Emit frame ∷ past) quiet refl e in
    let m = (mute past silent).held in
    omega (arith, n.0, m)

-- a data transfer message grants all that can be granted
sent_waits : (side : EndId) (limits : Limits) (past : List Event) (frame : List ℕ) → IsLawful limits → IsBalanced side limits past → is_closed side limits past ≡ false
    → is_sending side limits past ≡ true → frame_due side limits past ≡ frame → messages_submitted past ≡ [] → is_sending side limits (Emit frame ∷ past) ≡ true → ⊥
sent_waits side limits past frame lawful b open_ sent is quiet e =
    let spoken = (sending_parts side limits past open_ sent).spoken in
    let small : receives_grantable side past < 65536 = omega (arith, b.posted, b.taken, lawful.credits.1) in
    let all : credits_in side (is_silent past) frame ≡ receives_grantable side past =
    rw (← is, spoken) (granted-data_frame_due side limits (credits_held side past) (receives_grantable side past) _ small) in
    let n = sending_needs side limits (Emit frame ∷ past) quiet refl e in
    omega (arith, n.1, all)

emits_nothing : (side : EndId) (limits : Limits) (past : List Event) (frame next : List ℕ) → IsLawful limits → IsLegal side limits past → messages_submitted past ≡ []
    → next_event side limits past ≡ due.Emit frame → next_event side limits (Emit frame ∷ past) ≡ due.Emit next → ⊥
emits_nothing side limits past frame next lawful legal quiet first second =
    let e = emits side limits past frame first in
    let b = balanced side limits past lawful legal e.going.opened in
    elim (emits side limits (Emit frame ∷ past) next second).chosen.why as (λ _. ⊥) [
      | inl opening ↦ (let silent = silent_opening side (Emit frame ∷ past) opening.0 in let bad : ⊥ = cc in bad)
      | inr later ↦ elim e.chosen.why as (λ _. ⊥) [
        | inl opening ↦ opened_waits side limits past frame (silent_opening side past opening.0) quiet later.1
        | inr sent ↦ sent_waits side limits past frame lawful b e.going.closed sent.1 sent.2 quiet later.1
      ]
    ]

posts_nothing : (side : EndId) (limits : Limits) (past : List Event) (frame : List ℕ) (n : ℕ) → next_event side limits (Emit frame ∷ past) ≡ due.Post n → ⊥
posts_nothing side limits past frame n e =
    elim (posts side limits (Emit frame ∷ past) n e).1 as (λ _. ⊥) [
      | inl opening ↦ (let o = opening.0 in cc)
      | inr later ↦ (let o = later.2 in cc)
    ]

pub nothing_after : (side : EndId) (limits : Limits) (past : List Event) (frame : List ℕ) → IsLawful limits → IsLegal side limits past → messages_submitted past ≡ []
    → next_event side limits past ≡ due.Emit frame → is_some (due_event (next_event side limits (Emit frame ∷ past))) ≡ true → ⊥
nothing_after side limits past frame lawful legal quiet first = pick (next_event side limits (Emit frame ∷ past)) refl
  where
    pick : (n : Next) → next_event side limits (Emit frame ∷ past) ≡ n → is_some (due_event n) ≡ true → ⊥
    pick (due.Post k) e h = posts_nothing side limits past frame k e
    pick (due.Emit f) e h = emits_nothing side limits past frame f lawful legal quiet first e
    pick due.Close e h = cc
    pick due.Idle e h = cc

-- ---- how many it sends

-- opened
pub few_opened : (side : EndId) (limits : Limits) (n : ℕ) → SendsFew side limits (Post n ∷ [])
few_opened side limits n = record { opened = refl; most = omega arith; due = λ _. omega arith }

-- a receive was posted
pub few_post : (side : EndId) (limits : Limits) (past : List Event) (n : ℕ) → SendsFew side limits past → next_event side limits past ≡ due.Post n
    → SendsFew side limits (Post n ∷ past)
few_post side limits past n few next =
    let is : is_some (due_event (next_event side limits past)) ≡ true = rw next refl in
    record { opened = refl; most = few.most; due = λ _. few.due is }

-- a frame was sent
pub few_emit : (side : EndId) (limits : Limits) (past : List Event) (frame : List ℕ) → IsLawful limits → IsLegal side limits past → messages_submitted past ≡ []
    → SendsFew side limits past → next_event side limits past ≡ due.Emit frame → SendsFew side limits (Emit frame ∷ past)
few_emit side limits past frame lawful legal quiet few next =
    let is : is_some (due_event (next_event side limits past)) ≡ true = rw next refl in
    let sent = few.due is in
    record { opened = refl; most = omega arith; due = λ more. absurd (nothing_after side limits past frame lawful legal quiet next more) }

met_more : (past : List Event) (frame : List ℕ) → frames_met (Take frame ∷ past) ≡ frames_met past + 1
met_more past frame = omega (arith, length-append (taken_frames past) (frame ∷ []))

-- a frame was taken
pub few_take : (side : EndId) (limits : Limits) (past : List Event) (frame : List ℕ) → SendsFew side limits past → SendsFew side limits (Take frame ∷ past)
few_take side limits past frame few =
    let more = met_more past frame in
    let most = few.most in
    record { opened = refl; most = omega arith; due = λ _. omega arith }

-- each event leaves fewer to come
pub fewer_left : (side : EndId) (limits : Limits) (past : List Event) (event : Event) → SendsFew side limits past → due_event (next_event side limits past) ≡ Some event
    → events_left (event ∷ past) < events_left past
fewer_left side limits past event few h = pick (next_event side limits past) refl h
  where
    sent : (frame : List ℕ) → next_event side limits past ≡ due.Emit frame → events_left (Emit frame ∷ past) < events_left past
    sent frame e =
        let is : is_some (due_event (next_event side limits past)) ≡ true = rw e refl in
        let room = few.due is in
        omega arith

    posted : (n : ℕ) → next_event side limits past ≡ due.Post n → events_left (Post n ∷ past) < events_left past
    posted n e =
        elim (posts side limits past n e).1 as (λ _. events_left (Post n ∷ past) < events_left past) [
          | inl opening ↦ (let o = opening.0 in let opened = few.opened in let b : ⊥ = cc in absurd b)
          | inr later ↦ (let one : receives_due past ≡ 1 = rw later.2 refl in omega arith)
        ]

    pick : (n : Next) → next_event side limits past ≡ n → due_event n ≡ Some event → events_left (event ∷ past) < events_left past
    pick (due.Post k) e is = let same : Post k ≡ event = cc in subst (λ (x : Event). events_left (x ∷ past) < events_left past) same (posted k e)
    pick (due.Emit f) e is = let same : Emit f ≡ event = cc in subst (λ (x : Event). events_left (x ∷ past) < events_left past) same (sent f e)
    pick due.Close e is = absurd cc
    pick due.Idle e is = absurd cc

-- a receive that comes next has room
pub has_room : (side : EndId) (limits : Limits) (past : List Event) (n waiting free : ℕ) → IsLawful limits → IsLegal side limits past → next_event side limits past ≡ due.Post n
    → free + waiting + frames_met past ≡ receives_posted past → waiting + free + n ≤ limits.credits
has_room side limits past n waiting free lawful legal next placed =
    let legal_after : IsLegal side limits (Post n ∷ past) = (next, legal) in
    let b = balanced side limits (Post n ∷ past) lawful legal_after refl in
    omega (arith, b.posted, taken_most side (Post n ∷ past))

-- ---- what it keeps

-- what it keeps after a frame was sent
pub facing_emit : (end new : Shown) (link : Adapter) (delivered : List (List ℕ)) (emitted taken : ℕ) (frame : List ℕ) → IsFacing end link delivered emitted taken
    → next_event end.side end.limits end.past ≡ due.Emit frame → IsLegal end.side end.limits (Emit frame ∷ end.past)
    → new ≡ record end { past = Emit frame ∷ end.past; prepared = None } → IsFacing new link delivered (emitted + 1) taken
facing_emit end new link delivered emitted taken frame h next legal is = subst (λ (e : Shown). IsFacing e link delivered (emitted + 1) taken) (sym is) (record {
  lawful = h.lawful;
  legal = legal;
  room = h.room;
  placed = h.placed;
  messages = h.messages;
  sent = ap (λ (n : ℕ). n + 1) h.sent;
  met = h.met;
  quiet = h.quiet;
  few = few_emit end.side end.limits end.past frame h.lawful h.legal h.quiet h.few next;
})

-- ---- until nothing comes next

-- the end has added what came next
pub record HasAdded (first now : Facing) : Type 0 where
  pub added : List Event
  pub due : AreDue first.side first.limits first.past added
  pub all : now ≡ record first { past = added ++ first.past }
  pub met : frames_met now.past ≡ frames_met first.past

pub added_none : (first : Facing) → HasAdded first first
added_none first = record { added = []; due = tt; all = refl; met = refl }

met_same : (n : Next) (event : Event) (past : List Event) → due_event n ≡ Some event → frames_met (event ∷ past) ≡ frames_met past
met_same (due.Post k) event past is = let same : Post k ≡ event = cc in subst (λ (x : Event). frames_met (x ∷ past) ≡ frames_met past) same refl
met_same (due.Emit f) event past is = let same : Emit f ≡ event = cc in subst (λ (x : Event). frames_met (x ∷ past) ≡ frames_met past) same refl
met_same due.Close event past is = absurd cc
met_same due.Idle event past is = absurd cc

event_added : (first now : Facing) (event : Event) → HasAdded first now → due_event (next_event now.side now.limits now.past) ≡ Some event
    → HasAdded first (record now { past = event ∷ now.past })
event_added first now event h is =
    let same = ap (λ (f : Facing). due_event (next_event f.side f.limits f.past)) h.all in
    record {
      added = event ∷ h.added;
      due = (sym same ∙ is, h.due);
      all = ap (λ (f : Facing). record f { past = event ∷ f.past }) h.all;
      met = met_same (next_event now.side now.limits now.past) event now.past is ∙ h.met;
    }

-- where something came next, it was added, and fewer are left
pub record GoesOn (first now next : Facing) : Type 0 where
  pub added : HasAdded first next
  pub fewer : events_left next.past < events_left now.past

pub goes_on : (first now next : Facing) → HasAdded first now → SendsFew now.side now.limits now.past → is_some (due_event (next_event now.side now.limits now.past)) ≡ true
    → next ≡ with_event now (due_event (next_event now.side now.limits now.past)) → GoesOn first now next
goes_on first now next h few more is = pick (due_event (next_event now.side now.limits now.past)) refl more is
  where
    pick : (o : Option Event) → due_event (next_event now.side now.limits now.past) ≡ o → is_some o ≡ true → next ≡ with_event now o → GoesOn first now next
    pick None e some same = absurd cc
    pick (Some event) e some same = subst (λ (f : Facing). GoesOn first now f) (sym same) (record {
      added = event_added first now event h e;
      fewer = fewer_left now.side now.limits now.past event few e;
    })

none_is : (o : Option Event) → is_some o ≡ false → o ≡ None
none_is None h = refl
none_is (Some event) h = absurd cc

-- where nothing comes next, nothing has changed, and the end has settled
pub record IsSettled (first next : Facing) : Type 0 where
  pub settled : Settles first.side first.limits first.past next.past
  pub same : next ≡ record first { past = next.past }
  pub met : frames_met next.past ≡ frames_met first.past

pub is_settled : (first now next : Facing) → HasAdded first now → is_some (due_event (next_event now.side now.limits now.past)) ≡ false
    → next ≡ with_event now (due_event (next_event now.side now.limits now.past)) → IsSettled first next
is_settled first now next h none is =
    let nothing = none_is (due_event (next_event now.side now.limits now.past)) none in
    let same : next ≡ now = is ∙ ap (with_event now) nothing in
    let whole = same ∙ h.all in
    record {
      settled = record {
        added = h.added;
        due = h.due;
        all = ap (λ (f : Facing). f.past) whole;
        nothing = ap (λ (p : List Event). due_event (next_event first.side first.limits p)) (ap (λ (f : Facing). f.past) whole)
            ∙ sym (ap (λ (f : Facing). due_event (next_event f.side f.limits f.past)) whole)
            ∙ ap (λ (f : Facing). due_event (next_event f.side f.limits f.past)) same ∙ nothing;
      };
      same = whole ∙ ap (λ (p : List Event). record first { past = p }) (sym (ap (λ (f : Facing). f.past) whole));
      met = ap (λ (f : Facing). frames_met f.past) same ∙ h.met;
    }

-- ---- want of memory is no fault of a frame

broken_otherwise : (o : Option Broken) → broken_fault o ≡ Some faults.NoMemory → ⊥
broken_otherwise None h = cc
broken_otherwise (Some broken) h = cc

negotiate_otherwise : (o : Option NegotiateFault) → negotiate_fault o ≡ Some faults.NoMemory → ⊥
negotiate_otherwise None h = cc
negotiate_otherwise (Some fault) h = cc

piece_otherwise : (b : Bool) (o : Option Broken) → cond b None (broken_fault o) ≡ Some faults.NoMemory → ⊥
piece_otherwise true o h = cc
piece_otherwise false o h = broken_otherwise o h

data_otherwise : (max expected : ℕ) (r : Result DataFrame FrameFault) → data_fault max expected r ≡ Some faults.NoMemory → ⊥
data_otherwise max expected (Err fault) h = cc
data_otherwise max expected (Ok d) h = piece_otherwise (length d.payload == 0) (gather_fault max expected (length d.payload) d.remaining) h

fault_otherwise : (early long unheard : Bool) (len most : ℕ) (o : Option NegotiateFault) (max expected : ℕ) (r : Result DataFrame FrameFault)
    → cond early (Some faults.OutOfTurn) (cond long (Some (faults.Oversize len most)) (cond unheard (negotiate_fault o) (data_fault max expected r))) ≡ Some faults.NoMemory → ⊥
fault_otherwise true long unheard len most o max expected r h = cc
fault_otherwise false true unheard len most o max expected r h = cc
fault_otherwise false false true len most o max expected r h = negotiate_otherwise o h
fault_otherwise false false false len most o max expected r h = data_otherwise max expected r h

pub never_no_memory : (side : EndId) (limits : Limits) (past : List Event) (frame : List ℕ) → take_fault side limits past frame ≡ Some faults.NoMemory → ⊥
unfolding take_fault fault_expecting
never_no_memory side limits past frame h =
    fault_otherwise (is_out_of_turn side past) (nat_lt limits.receive_size (length frame)) (is_unheard past) (length frame) limits.receive_size (negotiation_fault side limits frame)
    limits.fragmented_size (bytes_expected side limits past) (data_frame_of frame) h

-- an end that wanted memory has not changed
pub unchanged : (old new : Shown) (frame : List ℕ) → IsTakeRefused old frame faults.NoMemory new → new ≡ old
unchanged old new frame h = elim h as (λ _. new ≡ old) [
  | inl wants ↦ wants.1
  | inr refused ↦ absurd (never_no_memory old.side old.limits old.past frame refused.0)
]

-- ---- one frame after another

-- an end that is open stays so by what comes next
open_more : (side : EndId) (limits : Limits) (n : Next) (event : Event) (past : List Event) → due_event n ≡ Some event → is_open side limits past ≡ true
    → is_open side limits (event ∷ past) ≡ true
open_more side limits n event past is h =
    let a = both (not (is_cut past) && not (is_refused side limits past)) (not (is_new past)) h in
    pick n is (rw a.0 refl)
  where
    pick : (m : Next) → due_event m ≡ Some event → (not (is_cut past) && not (is_refused side limits past) && true) ≡ true → is_open side limits (event ∷ past) ≡ true
    pick (due.Post k) e o = let same : Post k ≡ event = cc in subst (λ (x : Event). is_open side limits (x ∷ past) ≡ true) same o
    pick (due.Emit f) e o = let same : Emit f ≡ event = cc in subst (λ (x : Event). is_open side limits (x ∷ past) ≡ true) same o
    pick due.Close e o = absurd cc
    pick due.Idle e o = absurd cc

open_due : (side : EndId) (limits : Limits) (past added : List Event) → AreDue side limits past added → is_open side limits past ≡ true
    → is_open side limits (added ++ past) ≡ true
open_due side limits past [] h o = o
open_due side limits past (event ∷ before) h o =
    open_more side limits (next_event side limits (before ++ past)) event (before ++ past) h.0 (open_due side limits past before h.1 o)

going_open : (side : EndId) (limits : Limits) (past : List Event) → is_open side limits past ≡ true → IsGoing side limits past
going_open side limits past h =
    let a = both (not (is_cut past) && not (is_refused side limits past)) (not (is_new past)) h in
    let b = both (not (is_cut past)) (not (is_refused side limits past)) a.0 in
    let accepted = from_not (is_refused side limits past) b.1 in
    record { cut = from_not (is_cut past) b.0; opened = from_not (is_new past) a.1; closed = rw accepted refl }

-- an open end with nothing to do may take a frame
ready_open : (side : EndId) (limits : Limits) (past : List Event) → is_open side limits past ≡ true → due_event (next_event side limits past) ≡ None → is_ready side limits past ≡ true
ready_open side limits past o nothing = pick (is_post_due past) refl
  where
    pick : (b : Bool) → is_post_due past ≡ b → is_ready side limits past ≡ true
    pick true e =
        let next = next-post side limits past (going_open side limits past o) e in
        absurd (let some : due_event (next_event side limits past) ≡ Some (Post 1) = ap due_event next in let b : ⊥ = cc in b)
    pick false e = rw (o, e) refl

ready_settled : (side : EndId) (limits : Limits) (past after : List Event) → is_open side limits past ≡ true → Settles side limits past after → is_ready side limits after ≡ true
ready_settled side limits past after o s =
    let is_ : is_open side limits after ≡ true = ap (is_open side limits) s.all ∙ open_due side limits past s.added s.due o in
    ready_open side limits after is_ s.nothing

-- once it is opened
pub ready_opened : (side : EndId) (limits : Limits) (n : ℕ) (after : List Event) → Settles side limits (Post n ∷ []) after → is_ready side limits after ≡ true
ready_opened side limits n after s = ready_settled side limits (Post n ∷ []) after refl s

-- once a frame was taken and not refused
pub ready_taken : (side : EndId) (limits : Limits) (past after : List Event) (frame : List ℕ) → is_ready side limits past ≡ true → take_fault side limits past frame ≡ None
    → Settles side limits (Take frame ∷ past) after → is_ready side limits after ≡ true
ready_taken side limits past after frame ready accepted s =
    let going = (ready_parts side limits past ready).going in
    let cut = going.cut in
    let o : is_open side limits (Take frame ∷ past) ≡ true = rw (cut, accepted) refl in
    ready_settled side limits (Take frame ∷ past) after o s

pub takes_on : (side : EndId) (limits : Limits) (past next after : List Event) (frame : List ℕ) (later : List (List ℕ)) (refused : Option (ℕ × TakeFault))
    → None ≡ take_fault side limits past frame → Settles side limits (Take frame ∷ past) next → Takes side limits next later refused after
    → Takes side limits past (frame ∷ later) refused after
takes_on side limits past next after frame later refused accepted s rest = (next, (s, rw (← accepted) rest))

pub takes_last : (side : EndId) (limits : Limits) (past next : List Event) (frame : List ℕ) (later : List (List ℕ)) (fault : TakeFault) (number : ℕ)
    → Some fault ≡ take_fault side limits past frame → Settles side limits (Take frame ∷ past) next → number ≡ frames_met past + 1
    → Takes side limits past (frame ∷ later) (Some (number, fault)) next
takes_last side limits past next frame later fault number why s is = (next, (s, rw (← why) (ap (λ (n : ℕ). Some (n, fault)) is, refl)))

-- the frames that are left begin with the one at this place
frames_left : (frames : List (List ℕ)) (index : ℕ) (frame : List ℕ) → index < length frames → frame ≡ get_or frames index frame
    → drop index frames ≡ frame ∷ drop (index + 1) frames
frames_left frames index frame below is = rw add-one (drop-cons frames index frame below ∙ ap (λ (f : List ℕ). f ∷ drop (suc index) frames) (sym is))

-- an end after one more frame of a burst, of which it refused none so far
pub record IsFurther (first next : Facing) (past : List Event) (frames : List (List ℕ)) (index : ℕ) (frame : List ℕ) : Type 0 where
  pub left : drop index frames ≡ frame ∷ drop (index + 1) frames
  pub settled : Settles first.side first.limits (Take frame ∷ past) next.past
  pub waits : next ≡ record first { past = next.past; waiting = drop (index + 1) frames }
  pub met : frames_met next.past ≡ frames_met past + 1

pub further : (first now taken next : Facing) (frames : List (List ℕ)) (index : ℕ) (frame : List ℕ) → index < length frames → frame ≡ get_or frames index frame
    → now ≡ record first { past = now.past; waiting = drop index frames } → taken ≡ with_taken now frame
    → Settles taken.side taken.limits taken.past next.past → next ≡ record taken { past = next.past } → frames_met next.past ≡ frames_met taken.past
    → IsFurther first next now.past frames index frame
further first now taken next frames index frame below is waits took settled same met =
    let left = frames_left frames index frame below is in
    let later : Facing = record first { past = Take frame ∷ now.past; waiting = drop (index + 1) frames } in
    let now_is : taken ≡ later =
    took ∙ ap (λ (f : Facing). with_taken f frame) waits
    ∙ ap (λ (fs : List (List ℕ)). record first { past = Take frame ∷ now.past; waiting = drop 1 fs }) left in
    record {
      left = left;
      settled = subst (λ (f : Facing). Settles f.side f.limits f.past next.past) now_is settled;
      waits = same ∙ ap (λ (f : Facing). record f { past = next.past }) now_is;
      met = met ∙ ap (λ (f : Facing). frames_met f.past) now_is ∙ met_more now.past frame;
    }

-- ---- one burst after another

-- a burst, cut from the frames that are left
pub record IsCut (size : ℕ) (rest front back : List (List ℕ)) : Type 0 where
  pub some : 0 < length rest
  pub front_is : front ≡ take size rest
  pub back_is : back ≡ drop size rest
  pub count : length front + length back ≡ length rest

pub cut_of : (size long m : ℕ) (rest front back : List (List ℕ)) → long ≡ size → m ≡ min long (length rest) → front ≡ take m rest → back ≡ drop m rest
    → false ≡ (length rest == 0) → IsCut size rest front back
cut_of size long m rest front back is_long is_m is_front is_back left =
    let most : m ≡ min size (length rest) = is_m ∙ ap (λ (n : ℕ). min n (length rest)) is_long in
    let f : front ≡ take size rest = is_front ∙ ap (λ (n : ℕ). take n rest) most ∙ take_min size rest in
    let b : back ≡ drop size rest = is_back ∙ ap (λ (n : ℕ). drop n rest) most ∙ drop_min size rest in
    record {
      some = grind (arith, nat_tests);
      front_is = f;
      back_is = b;
      count = omega (arith, ap length f, ap length b, length-take size rest, length-drop size rest);
    }

module _ (side : EndId) (limits : Limits) (size : ℕ) (past : List Event) (rest front back : List (List ℕ)) (cut : IsCut size rest front back) where
  -- a frame finds no receive
  pub stops_unposted : (number : ℕ) → first_unposted past (length front) ≡ Some number
      → RunsOn side limits size past rest (record { past = past; refused = None; unposted = Some number })
  stops_unposted number is = record { bursts = front ∷ []; runs = (cut.some, cut.front_is, rw is (refl, refl)) }

  -- a frame is refused
  pub stops_refused : (refused : ℕ × TakeFault) (after : List Event) → first_unposted past (length front) ≡ None → Takes side limits past front (Some refused) after
      → RunsOn side limits size past rest (record { past = after; refused = Some refused; unposted = None })
  stops_refused refused after is taken = record { bursts = front ∷ []; runs = (cut.some, cut.front_is, rw is (Some refused, (after, (taken, (refl, refl))))) }

  -- the run goes on
  pub comes_on : (after : List Event) (ended : Ended) → first_unposted past (length front) ≡ None → Takes side limits past front None after → RunsOn side limits size after back ended
      → RunsOn side limits size past rest ended
  comes_on after ended is taken more =
      let later = subst (λ (frames : List (List ℕ)). Runs side limits size after frames more.bursts ended) cut.back_is more.runs in
      record { bursts = front ∷ more.bursts; runs = (cut.some, cut.front_is, rw is (None, (after, (taken, later)))) }

empty_list : (rest : List (List ℕ)) → true ≡ (length rest == 0) → rest ≡ []
empty_list [] h = refl
empty_list (frame ∷ rest) h = absurd (let some : (length (frame ∷ rest) == 0) ≡ false = grind (arith, nat_tests) in let b : ⊥ = cc in b)

-- no frame is left
pub stops_whole : (side : EndId) (limits : Limits) (size : ℕ) (past : List Event) (rest : List (List ℕ)) → true ≡ (length rest == 0)
    → RunsOn side limits size past rest (record { past = past; refused = None; unposted = None })
stops_whole side limits size past rest none = record { bursts = []; runs = (empty_list rest none, refl) }

pub is_raw_run : (side : EndId) (limits : Limits) (size : ℕ) (frames : List (List ℕ)) (opened : List Event) (now : Facing) (refused : Option (ℕ × TakeFault)) (unposted : Option ℕ) (told : Told)
    → Settles side limits (Post limits.credits ∷ []) opened → now.side ≡ side → now.limits ≡ limits
    → RunsOn side limits size opened frames (record { past = now.past; refused = refused; unposted = unposted })
    → told ≡ told_of now.side now.limits (record { past = now.past; refused = refused; unposted = unposted }) → IsRawRun side limits size frames told
is_raw_run side limits size frames opened now refused unposted told opens is_side is_limits runs tells =
    let ended : Ended = record { past = now.past; refused = refused; unposted = unposted } in
    record {
      opened = opened;
      opens = opens;
      ended = ended;
      runs = runs;
      tells = tells ∙ ap (λ (s : EndId). told_of s now.limits ended) is_side ∙ ap (λ (l : Limits). told_of side l ended) is_limits;
    }

-- what is said of an end whose side and limits are these
pub takes_at : (side other : EndId) (limits others : Limits) (past after : List Event) (frames : List (List ℕ)) (refused : Option (ℕ × TakeFault)) → side ≡ other → limits ≡ others
    → Takes side limits past frames refused after → Takes other others past frames refused after
takes_at side other limits others past after frames refused is_side is_limits h =
    subst (λ (l : Limits). Takes other l past frames refused after) is_limits (subst (λ (s : EndId). Takes s limits past frames refused after) is_side h)

pub ready_at : (side other : EndId) (limits others : Limits) (past : List Event) → side ≡ other → limits ≡ others → is_ready side limits past ≡ true → is_ready other others past ≡ true
ready_at side other limits others past is_side is_limits h =
    subst (λ (l : Limits). is_ready other l past ≡ true) is_limits (subst (λ (s : EndId). is_ready s limits past ≡ true) is_side h)
