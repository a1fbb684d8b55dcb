-- What an end keeps after one event more.
use Rattle.std.proofs.Common.{◌≡◌, inl, inr, ℕ, ◌-◌, ◌≤◌, true, List, ◌∷◌, Option, Some, None, refl, sym, ap, ◌∙◌, subst, arith}
use Rattle.smbd_base.specs.declared.event.Event.{Event}
use Rattle.smbd_base.specs.declared.event.Event.TheVariants.{Post, Submit, Emit, Take}
use Rattle.smbd_base.specs.declared.next.Next.{Next}
use Rattle.smbd_base.specs.declared.next.Next.TheVariants as due
use Rattle.smbd_base.specs.declared.faults.TakeFault.{TakeFault}
use Rattle.smbd_base.specs.Counts.{is_silent}
use Rattle.smbd_base.specs.History.{next_event, due_event, submit_fault, take_fault, is_ready, agreed_of}
use Rattle.smbd_base.proofs.BalanceLemmas.{balanced}
use Rattle.smbd_base.proofs.Inversion.{emits, posts}
use Rattle.connection_core.specs.Holds.{Holds, room_for}
use Rattle.reassembly.specs.Gathering.{Gathering}
use Rattle.connection_core.specs.Gatherer.{gatherer_of}
use Rattle.connection_core.specs.Queue.{Queued, IsSendable, with_message, begun_by, sent_from}
use Rattle.connection_core.specs.Shown.{Shown}
use Rattle.connection_core.specs.Tracked.{Tracked}
use Rattle.connection_core.proofs.GatherLemmas.{gatherer-refused}
use Rattle.connection_core.proofs.QueueLemmas.{Queues-begun, Queues-refused, Stands-submit, Stands-emit, Stands-take}

-- nothing is there
pub none_of : {A : Type 0} (o : Option A) → ((x : A) → o ≡ Some x → ⊥) → o ≡ None
none_of None never = refl
none_of (Some x) never = absurd (never x refl)

-- ---- the prepared event

post_due_of : (x : Next) (n : ℕ) → Some (Post n) ≡ due_event x → x ≡ due.Post n
post_due_of (due.Post m) n e = cc
post_due_of (due.Emit f) n e = absurd cc
post_due_of due.Close n e = absurd cc
post_due_of due.Idle n e = absurd cc

emit_due_of : (x : Next) (f : List ℕ) → Some (Emit f) ≡ due_event x → x ≡ due.Emit f
emit_due_of (due.Post m) f e = absurd cc
emit_due_of (due.Emit g) f e = cc
emit_due_of due.Close f e = absurd cc
emit_due_of due.Idle f e = absurd cc

held_is : (t : Tracked) (q : Queued) (g : Gathering) (prepared : Option Event) (e : Event) → Holds t q g prepared → prepared ≡ Some e → Some e ≡ due_event (next_event t.side t.limits t.past)
held_is t q g prepared e h is = sym is ∙ h.next (rw is refl)

pub post_due : (t : Tracked) (q : Queued) (g : Gathering) (prepared : Option Event) (n : ℕ) → Holds t q g prepared → prepared ≡ Some (Post n)
    → (next_event t.side t.limits t.past ≡ due.Post 1) × (n ≡ 1)
post_due t q g prepared n h is =
    let due_n = post_due_of (next_event t.side t.limits t.past) n (held_is t q g prepared (Post n) h is) in
    let p = posts t.side t.limits t.past n due_n in
    elim p.1 as (λ _. (next_event t.side t.limits t.past ≡ due.Post 1) × (n ≡ 1)) [
      | inl opening ↦ absurd (let new = opening.0 in let opened = h.opened in (let b : ⊥ = cc in b))
      | inr later ↦ (due_n ∙ ap (λ (k : ℕ). due.Post k) (sym later.3), sym later.3)
    ]

pub emit_due : (t : Tracked) (q : Queued) (g : Gathering) (prepared : Option Event) (f : List ℕ) → Holds t q g prepared → prepared ≡ Some (Emit f)
    → next_event t.side t.limits t.past ≡ due.Emit f
emit_due t q g prepared f h is = emit_due_of (next_event t.side t.limits t.past) f (held_is t q g prepared (Emit f) h is)

-- there is room for a prepared Post
pub post_room : (t : Tracked) (q : Queued) (g : Gathering) (prepared : Option Event) (n : ℕ) → Holds t q g prepared → prepared ≡ Some (Post n) → 2 ≤ t.room
post_room t q g prepared n h is =
    let d = post_due t q g prepared n h is in
    let uncut = (posts t.side t.limits t.past 1 d.0).0 in
    subst (λ (o : Option Event). room_for o ≤ t.room) is (h.room uncut)

pub emit_room : (t : Tracked) (q : Queued) (g : Gathering) (prepared : Option Event) (f : List ℕ) → Holds t q g prepared → prepared ≡ Some (Emit f) → 2 ≤ t.room
emit_room t q g prepared f h is =
    let e = emits t.side t.limits t.past f (emit_due t q g prepared f h is) in
    subst (λ (o : Option Event). room_for o ≤ t.room) is (h.room e.going.cut)

-- ---- one event more

pub Holds-post : (t t' : Tracked) (q : Queued) (g : Gathering) (prepared after : Option Event) (n : ℕ) → Holds t q g prepared → prepared ≡ Some (Post n) → after ≡ None
    → t' ≡ record t { past = Post 1 ∷ t.past; room = t.room - 1 } → Holds t' q g after
Holds-post t t' q g prepared after n h is none t'_is =
    let d = post_due t q g prepared n h is in
    let room = post_room t q g prepared n h is in
    rw (t'_is, none) (record {
      lawful = h.lawful;
      opened = refl;
      legal = (d.0, h.legal);
      queue = record { waits = λ off. (let w = h.queue.waits off in record { begun = w.begun; behind = w.behind; sent = w.sent; sendable = w.sendable }); sends = λ on. (let s = h.queue.sends on in record { waiting = s.waiting; sent = s.sent; under_way = s.under_way }); begun = h.queue.begun };
      begun = h.begun;
      next = λ e. absurd cc;
      room = λ e. omega arith;
    })

pub Holds-emit : (t t' : Tracked) (q sent q' : Queued) (g : Gathering) (prepared after : Option Event) (f : List ℕ) → Holds t q g prepared → prepared ≡ Some (Emit f) → after ≡ None
    → sent ≡ sent_from (is_silent t.past) q → q' ≡ begun_by (agreed_of t'.side t'.limits t'.past) sent → t' ≡ record t { past = Emit f ∷ t.past; room = t.room - 1 } → Holds t' q' g after
Holds-emit t t' q sent q' g prepared after f h is none sent_is q'_is t'_is =
    let d = emit_due t q g prepared f h is in
    let room = emit_room t q g prepared f h is in
    let stands = Stands-emit t.side t.limits t.past q f h.lawful (balanced t.side t.limits t.past h.lawful h.legal h.opened) h.queue d in
    let begun : q' ≡ begun_by (agreed_of t.side t.limits (Emit f ∷ t.past)) (sent_from (is_silent t.past) q) =
    q'_is ∙ ap (λ (x : Tracked). begun_by (agreed_of x.side x.limits x.past) sent) t'_is ∙ ap (λ (x : Queued). begun_by (agreed_of t.side t.limits (Emit f ∷ t.past)) x) sent_is in
    rw (t'_is, none) (record {
      lawful = h.lawful;
      opened = refl;
      legal = (d, h.legal);
      queue = Queues-begun t.side t.limits (Emit f ∷ t.past) (sent_from (is_silent t.past) q) q' stands begun;
      begun = h.begun;
      next = λ e. absurd cc;
      room = λ e. omega arith;
    })

pub Holds-submit : (t k t' : Tracked) (q kept q' : Queued) (g : Gathering) (prepared after : Option Event) (m : List ℕ) → Holds t q g prepared
    → submit_fault t.side t.limits t.past m ≡ None → IsSendable m → after ≡ None → kept ≡ with_message q m
    → k ≡ record t { room = k.room } → 2 ≤ k.room → t' ≡ record k { past = Submit m ∷ k.past; room = k.room - 1 }
    → q' ≡ begun_by (agreed_of t'.side t'.limits t'.past) kept → Holds t' q' g after
Holds-submit t k t' q kept q' g prepared after m h accepted sendable none kept_is k_is room t'_is q'_is =
    let is : t' ≡ record t { past = Submit m ∷ t.past; room = k.room - 1 } = t'_is ∙ ap (λ (x : Tracked). record x { past = Submit m ∷ x.past; room = k.room - 1 }) k_is in
    let begun : q' ≡ begun_by (agreed_of t.side t.limits (Submit m ∷ t.past)) (with_message q m) =
    q'_is ∙ ap (λ (x : Tracked). begun_by (agreed_of x.side x.limits x.past) kept) is ∙ ap (λ (x : Queued). begun_by (agreed_of t.side t.limits (Submit m ∷ t.past)) x) kept_is in
    rw (is, none) (record {
      lawful = h.lawful;
      opened = refl;
      legal = (accepted, h.legal);
      queue = Queues-begun t.side t.limits (Submit m ∷ t.past) (with_message q m) q' (Stands-submit t.side t.limits t.past q m h.lawful h.queue sendable) begun;
      begun = h.begun;
      next = λ e. absurd cc;
      room = λ e. omega arith;
    })

-- a frame that is not refused
pub Holds-take : (t k t' : Tracked) (q q' : Queued) (g g' : Gathering) (prepared after : Option Event) (frame : List ℕ) → Holds t q g prepared
    → is_ready t.side t.limits t.past ≡ true → after ≡ None → k ≡ record t { room = k.room } → 2 ≤ k.room
    → g' ≡ gatherer_of t.side t.limits (Take frame ∷ t.past) → t' ≡ record k { past = Take frame ∷ k.past; room = k.room - 1 }
    → q' ≡ begun_by (agreed_of t'.side t'.limits t'.past) q → Holds t' q' g' after
Holds-take t k t' q q' g g' prepared after frame h ready none k_is room g'_is t'_is q'_is =
    let is : t' ≡ record t { past = Take frame ∷ t.past; room = k.room - 1 } = t'_is ∙ ap (λ (x : Tracked). record x { past = Take frame ∷ x.past; room = k.room - 1 }) k_is in
    let begun : q' ≡ begun_by (agreed_of t.side t.limits (Take frame ∷ t.past)) q = q'_is ∙ ap (λ (x : Tracked). begun_by (agreed_of x.side x.limits x.past) q) is in
    rw (is, none) (record {
      lawful = h.lawful;
      opened = refl;
      legal = (ready, h.legal);
      queue = Queues-begun t.side t.limits (Take frame ∷ t.past) q q' (Stands-take t.side t.limits t.past q frame h.lawful h.queue) begun;
      begun = g'_is;
      next = λ e. absurd cc;
      room = λ e. omega arith;
    })

-- a frame that is refused leaves what waits and what is begun
pub Holds-refused : (t k t' : Tracked) (q : Queued) (g : Gathering) (prepared : Option Event) (frame : List ℕ) (fault : TakeFault) → Holds t q g prepared
    → is_ready t.side t.limits t.past ≡ true → take_fault t.side t.limits t.past frame ≡ Some fault → k ≡ record t { room = k.room } → 2 ≤ k.room
    → t' ≡ record k { past = Take frame ∷ k.past; room = k.room - 1 } → Holds t' q g None
Holds-refused t k t' q g prepared frame fault h ready refused k_is room t'_is =
    let is : t' ≡ record t { past = Take frame ∷ t.past; room = k.room - 1 } = t'_is ∙ ap (λ (x : Tracked). record x { past = Take frame ∷ x.past; room = k.room - 1 }) k_is in
    rw is (record {
      lawful = h.lawful;
      opened = refl;
      legal = (ready, h.legal);
      queue = Queues-refused t.side t.limits t.past q frame fault h.queue refused;
      begun = h.begun ∙ sym (gatherer-refused t.side t.limits t.past frame fault refused);
      next = λ e. absurd cc;
      room = λ e. omega arith;
    })

-- what contracts see of an end whose prepared event was added
pub committed : (t t' : Tracked) (shown : Shown) (prepared after : Option Event) (e e' : Event) (room : ℕ)
    → record { side = t.side; limits = t.limits; past = t.past; prepared = prepared } ≡ shown → prepared ≡ Some e' → shown.prepared ≡ Some e
    → t' ≡ record t { past = e' ∷ t.past; room = room } → after ≡ None
    → record { side = t'.side; limits = t'.limits; past = t'.past; prepared = after } ≡ record shown { past = e ∷ shown.past; prepared = None }
committed t t' shown prepared after e e' room view is was t'_is none =
    let both : Some e' ≡ Some e = sym is ∙ ap (λ (s : Shown). s.prepared) view ∙ was in
    let same : e' ≡ e = cc in
    rw (t'_is, none, same) (ap (λ (s : Shown). record s { past = e ∷ s.past; prepared = None }) view)
