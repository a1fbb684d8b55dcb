-- Two histories that fit together have one order of time: the newest event of one of them can always come last.
use Rattle.std.proofs.Common.{◌≡◌, inl, inr, ℕ, zero, suc, ◌+◌, ◌<◌, ◌≤◌, ◌==◌, Bool, true, false, cond, List, [], ◌∷◌, ◌++◌, length, refl, sym, ap, ◌∙◌, subst, append_assoc, arith}
use Rattle.std.proofs.lemmas.Bool.{cases_lt}
use Rattle.std.proofs.lemmas.Bool.Decides.{nat_tests}
use Rattle.std.proofs.lemmas.List.{length-append}
use mathlib.Core.List.{IsPrefix}
use Rattle.smbd_base.specs.declared.end_id.EndId.{EndId}
use Rattle.smbd_base.specs.declared.end_id.EndId.TheVariants.{Client, Server}
use Rattle.smbd_base.specs.declared.event.Event.{Event}
use Rattle.smbd_base.specs.declared.event.Event.TheVariants.{Post, Submit, Emit, Take, Cut}
use Rattle.smbd_base.specs.Limits.{Limits}
use Rattle.smbd_base.specs.Counts.{peer_of, frames_sent}
use Rattle.smbd_base.specs.Joint.{taken_frames, emitted_frames, taken_before_sending, sent_before_taking, AreJoint}
use Rattle.joint_laws.specs.OrderOfTime.{Happened, with_event, events_at, WasSent, TakesStandAfterEmits, IsOneOrder, HaveOneOrder, AreInTime}
use Rattle.smbd_base.proofs.Counting.{sent_is}
use Rattle.joint_laws.specs.Halves.{IsInTime}
use Rattle.joint_laws.proofs.Accounts.{peer-peer}
use Rattle.joint_laws.proofs.Ordering.{taken_sent, time-posts_own, time-submits_own, time-emits_own, time-takes_own, time-cuts_own, time-posts_peer, time-submits_peer, time-emits_peer, time-takes_peer, time-cuts_peer}

-- of an end and its peer
record IsTimed (own peer : List Event) : Type 0 where
  here : IsInTime own peer
  there : IsInTime peer own

turn : (own peer : List Event) → IsTimed own peer → IsTimed peer own
turn own peer h = record { here = h.there; there = h.here }

-- ---- the newest event

by_earlier : (past : ℕ) (number : ℕ) (t : Bool) (now before : ℕ) → (past + 1 == number) ≡ t → number ≤ past → cond t now before ≡ before
by_earlier past number true now before is most = absurd (let b : ⊥ = grind (arith, nat_tests) in b)
by_earlier past number false now before is most = refl

at_number : (past : ℕ) (now before : ℕ) → cond (past + 1 == past + 1) now before ≡ now
at_number past now before = by_test (past + 1 == past + 1) refl where
  by_test : (t : Bool) → (past + 1 == past + 1) ≡ t → cond t now before ≡ now
  by_test true is = refl
  by_test false is = absurd (let b : ⊥ = grind (arith, nat_tests) in b)

most_by : (t : Bool) (all before : ℕ) → before ≤ all → cond t all before ≤ all
most_by true all before most = omega arith
most_by false all before most = most

-- no more frames were sent before one was taken than were sent in all
sent_before_most : (number : ℕ) (past : List Event) → sent_before_taking number past ≤ frames_sent past
sent_before_most number [] = omega arith
sent_before_most number (Post n ∷ past) = sent_before_most number past
sent_before_most number (Submit m ∷ past) = sent_before_most number past
sent_before_most number (Emit f ∷ past) = omega (arith, sent_before_most number past)
sent_before_most number (Take f ∷ past) = most_by (length (taken_frames past) + 1 == number) (frames_sent past) (sent_before_taking number past) (sent_before_most number past)
sent_before_most number (Cut ∷ past) = sent_before_most number past

-- a front that leaves out the last element
shorter_front : (xs ys : List (List ℕ)) (y : List ℕ) (rest : List (List ℕ)) → xs ++ rest ≡ ys ++ y ∷ [] → length xs ≤ length ys → IsPrefix xs ys
shorter_front [] ys y rest e short = (ys, refl)
shorter_front (x ∷ xs) [] y rest e short = absurd (omega arith)
shorter_front (x ∷ xs) (z ∷ ys) y rest e short =
    let tails : xs ++ rest ≡ ys ++ y ∷ [] = cc in
    let heads : x ≡ z = cc in
    let front = shorter_front xs ys y rest tails (omega arith) in
    (front.0, let later = front.1 in cc)

-- the newest event can come last: without it the histories still fit, and a frame that it takes was sent
record CanBeLast (event : Event) (own peer : List Event) : Type 0 where
  before : IsTimed own peer
  sent : WasSent event own peer

last_post : (n : ℕ) (own peer : List Event) → IsTimed (Post n ∷ own) peer → CanBeLast (Post n) own peer
last_post n own peer h = record {
  before = record {
    here = record { front = h.here.front; after = record { each = h.here.after.each } };
    there = record { front = h.there.front; after = record { each = h.there.after.each } };
  };
  sent = tt;
}

last_submit : (m : List ℕ) (own peer : List Event) → IsTimed (Submit m ∷ own) peer → CanBeLast (Submit m) own peer
last_submit m own peer h = record {
  before = record {
    here = record { front = h.here.front; after = record { each = h.here.after.each } };
    there = record { front = h.there.front; after = record { each = h.there.after.each } };
  };
  sent = tt;
}

last_cut : (own peer : List Event) → IsTimed (Cut ∷ own) peer → CanBeLast Cut own peer
last_cut own peer h = record {
  before = record {
    here = record { front = h.here.front; after = record { each = h.here.after.each } };
    there = record { front = h.there.front; after = record { each = h.there.after.each } };
  };
  sent = tt;
}

last_take : (f : List ℕ) (own peer : List Event) → IsTimed (Take f ∷ own) peer → CanBeLast (Take f) own peer
last_take f own peer h = record {
  before = record {
    here = record {
      front = (f ∷ h.here.front.0, sym (append_assoc (taken_frames own) (f ∷ []) h.here.front.0) ∙ h.here.front.1);
      after = record { each = each };
    };
    there = record { front = h.there.front; after = record { each = h.there.after.each } };
  };
  sent = record { later = h.here.front.0; sent = sym h.here.front.1 ∙ append_assoc (taken_frames own) (f ∷ []) h.here.front.0 };
} where
  each : (number : ℕ) → 1 ≤ number → number ≤ length (taken_frames own) → taken_before_sending number peer ≤ sent_before_taking number own
  each number one most =
      let here = h.here.after.each number one (omega (arith, most, length-append (taken_frames own) (f ∷ []))) in
      let same = by_earlier (length (taken_frames own)) number (length (taken_frames own) + 1 == number) (frames_sent own) (sent_before_taking number own) refl most in
      subst (λ (n : ℕ). taken_before_sending number peer ≤ n) same here

-- a frame that was sent last was not taken yet
last_emit : (f : List ℕ) (own peer : List Event) → length (taken_frames peer) ≤ frames_sent own → IsTimed (Emit f ∷ own) peer → CanBeLast (Emit f) own peer
last_emit f own peer untaken h = record {
  before = record {
    here = record { front = h.here.front; after = record { each = h.here.after.each } };
    there = record {
      front = shorter_front (taken_frames peer) (emitted_frames own) f h.there.front.0 h.there.front.1 (omega (arith, untaken, sent_is own));
      after = record { each = each };
    };
  };
  sent = tt;
} where
  each : (number : ℕ) → 1 ≤ number → number ≤ length (taken_frames peer) → taken_before_sending number own ≤ sent_before_taking number peer
  each number one most =
      let here = h.there.after.each number one most in
      let same = by_earlier (frames_sent own) number (frames_sent own + 1 == number) (length (taken_frames own)) (taken_before_sending number own) refl (omega (arith, most, untaken)) in
      subst (λ (n : ℕ). n ≤ sent_before_taking number peer) same here

-- what the newest event of an end is
data Newest (own peer : List Event) : Type 0 where
  none : own ≡ [] → Newest own peer
  last : (event : Event) (past : List Event) → own ≡ event ∷ past → CanBeLast event past peer → Newest own peer
  taken : (f : List ℕ) (past : List Event) → own ≡ Emit f ∷ past → frames_sent past < length (taken_frames peer) → Newest own peer

newest : (own peer : List Event) → IsTimed own peer → Newest own peer
newest [] peer h = none refl
newest (Post n ∷ past) peer h = last (Post n) past refl (last_post n past peer h)
newest (Submit m ∷ past) peer h = last (Submit m) past refl (last_submit m past peer h)
newest (Emit f ∷ past) peer h = elim (cases_lt (frames_sent past) (length (taken_frames peer))) [
  | inl more ↦ taken f past refl more
  | inr untaken ↦ last (Emit f) past refl (last_emit f past peer untaken h)
]
newest (Take f ∷ past) peer h = last (Take f) past refl (last_take f past peer h)
newest (Cut ∷ past) peer h = last Cut past refl (last_cut past peer h)

-- the newest frames of both ends can't both have been taken by the other: each would have come before the other
both_taken : (f g : List ℕ) (own peer : List Event) → frames_sent own < length (taken_frames peer) → frames_sent peer < length (taken_frames own)
    → IsTimed (Emit f ∷ own) (Emit g ∷ peer) → ⊥
both_taken f g own peer here there h =
    let crossed : cond (frames_sent peer + 1 == frames_sent peer + 1) (length (taken_frames peer)) (taken_before_sending (frames_sent peer + 1) peer)
    ≤ sent_before_taking (frames_sent peer + 1) own = h.here.after.each (frames_sent peer + 1) (omega arith) (omega (arith, there)) in
    omega (arith, here, crossed, at_number (frames_sent peer) (length (taken_frames peer)) (taken_before_sending (frames_sent peer + 1) peer), sent_before_most (frames_sent peer + 1) own)

-- an event of one of the ends that can come last, where there are events
data Last (own peer : List Event) : Type 0 where
  nothing : own ≡ [] → peer ≡ [] → Last own peer
  of_own : (event : Event) (past : List Event) → own ≡ event ∷ past → CanBeLast event past peer → Last own peer
  of_peer : (event : Event) (past : List Event) → peer ≡ event ∷ past → CanBeLast event past own → Last own peer

no_frames : (past : List Event) (n : ℕ) → past ≡ [] → n < length (taken_frames past) → ⊥
no_frames past n empty some = let none : length (taken_frames past) ≡ 0 = ap (λ (es : List Event). length (taken_frames es)) empty in omega arith

taken_in : (f : List ℕ) (past now : List Event) → now ≡ Emit f ∷ past → length (taken_frames now) ≡ length (taken_frames past)
taken_in f past now is = ap (λ (es : List Event). length (taken_frames es)) is

pick : (own peer : List Event) → IsTimed own peer → Newest own peer → Newest peer own → Last own peer
pick own peer h (last event past is l) other = of_own event past is l
pick own peer h (none empty) (last event past is l) = of_peer event past is l
pick own peer h (none empty) (none empty_too) = nothing empty empty_too
pick own peer h (none empty) (taken g past is more) = absurd (no_frames own (frames_sent past) empty more)
pick own peer h (taken f past is more) (last event past_there is_there l) = of_peer event past_there is_there l
pick own peer h (taken f past is more) (none empty) = absurd (no_frames peer (frames_sent past) empty more)
pick own peer h (taken f past is more) (taken g past_there is_there more_there) =
    absurd (both_taken f g past past_there (omega (arith, more, taken_in g past_there peer is_there)) (omega (arith, more_there, taken_in f past own is))
    (subst (λ (es : List Event). IsTimed es (Emit g ∷ past_there)) is (subst (λ (es : List Event). IsTimed own es) is_there h)))

-- ---- the order

-- one order of time for an end and its peer
record Timed (side : EndId) (own peer : List Event) : Type 0 where
  order : List Happened
  of_own : events_at side order ≡ own
  of_peer : events_at (peer_of side) order ≡ peer
  sent_first : TakesStandAfterEmits order

turned : (side : EndId) (own peer : List Event) → Timed side own peer → Timed (peer_of side) peer own
turned side own peer t = record {
  order = t.order;
  of_own = t.of_peer;
  of_peer = ap (λ (s : EndId). events_at s t.order) (peer-peer side) ∙ t.of_own;
  sent_first = t.sent_first;
}

turned_back : (side : EndId) (own peer : List Event) → Timed (peer_of side) peer own → Timed side own peer
turned_back side own peer t = record {
  order = t.order;
  of_own = ap (λ (s : EndId). events_at s t.order) (sym (peer-peer side)) ∙ t.of_peer;
  of_peer = t.of_own;
  sent_first = t.sent_first;
}

own_event : (side : EndId) (event : Event) (past : List Event) → with_event side side event past ≡ event ∷ past
own_event Client event past = refl
own_event Server event past = refl

peer_event : (side : EndId) (event : Event) (past : List Event) → with_event (peer_of side) side event past ≡ past
peer_event Client event past = refl
peer_event Server event past = refl

-- an event comes last
comes_last : (side : EndId) (event : Event) (own peer : List Event) → WasSent event own peer → Timed side own peer → Timed side (event ∷ own) peer
comes_last side event own peer sent t = record {
  order = (record { end = side; event = event }) ∷ t.order;
  of_own = own_event side event (events_at side t.order) ∙ ap (λ (past : List Event). event ∷ past) t.of_own;
  of_peer = peer_event side event (events_at (peer_of side) t.order) ∙ t.of_peer;
  sent_first = (
    subst (λ (past : List Event). WasSent event past (events_at (peer_of side) t.order)) (sym t.of_own)
        (subst (λ (past : List Event). WasSent event own past) (sym t.of_peer) sent),
    t.sent_first,
  );
}

timed_none : (side : EndId) → Timed side [] []
timed_none side = record { order = []; of_own = refl; of_peer = refl; sent_first = tt }

count : (event : Event) (past now other : List Event) (n : ℕ) → now ≡ event ∷ past → length now + length other ≤ suc n → length past + length other ≤ n
count event past now other n is short = omega (arith, ap (λ (es : List Event). length es) is, short)

timed : (n : ℕ) (side : EndId) (own peer : List Event) → length own + length peer ≤ n → IsTimed own peer → Timed side own peer
timed zero side [] [] short h = timed_none side
timed zero side (e ∷ own) peer short h = absurd (omega arith)
timed zero side [] (e ∷ peer) short h = absurd (omega arith)
timed (suc n) side own peer short h = elim (pick own peer h (newest own peer h) (newest peer own (turn own peer h))) [
  | nothing empty empty_too ↦
      subst (λ (es : List Event). Timed side es peer) (sym empty) (subst (λ (es : List Event). Timed side [] es) (sym empty_too) (timed_none side))
  | of_own event past is l ↦
      subst (λ (es : List Event). Timed side es peer) (sym is)
      (comes_last side event past peer l.sent (timed n side past peer (count event past own peer n is short) l.before))
  | of_peer event past is l ↦
      subst (λ (es : List Event). Timed side own es) (sym is)
      (turned_back side own (event ∷ past) (comes_last (peer_of side) event past own l.sent
      (timed n (peer_of side) past own (count event past peer own n is (omega (arith, short))) l.before)))
]

pub one_order : (client_limits server_limits : Limits) (client server : List Event) → AreJoint client_limits server_limits client server → HaveOneOrder client server
one_order client_limits server_limits client server j =
    let t = timed (length client + length server) Client client server (omega arith)
    (record { here = record { front = j.linked.to_client; after = j.client_after }; there = record { front = j.linked.to_server; after = j.server_after } }) in
    (t.order, record { of_client = t.of_own; of_server = t.of_peer; sent_first = t.sent_first })

-- ---- the other way round

grown : (event : Event) (own peer : List Event) → WasSent event own peer → IsTimed own peer → IsTimed (event ∷ own) peer
grown (Post n) own peer sent h = record { here = time-posts_own own peer h.here n; there = time-posts_peer peer own h.there n }
grown (Submit m) own peer sent h = record { here = time-submits_own own peer h.here m; there = time-submits_peer peer own h.there m }
grown (Emit f) own peer sent h = record { here = time-emits_own own peer h.here f; there = time-emits_peer peer own h.there f }
grown (Take f) own peer sent h =
    record { here = time-takes_own own peer h.here f sent (taken_sent peer own h.there.front); there = time-takes_peer peer own h.there f }
grown Cut own peer sent h = record { here = time-cuts_own own peer h.here; there = time-cuts_peer peer own h.there }

grown_at : (end : EndId) (event : Event) (earlier : List Happened) → WasSent event (events_at end earlier) (events_at (peer_of end) earlier)
    → IsTimed (events_at Client earlier) (events_at Server earlier)
    → IsTimed (with_event Client end event (events_at Client earlier)) (with_event Server end event (events_at Server earlier))
grown_at Client event earlier sent h = grown event (events_at Client earlier) (events_at Server earlier) sent h
grown_at Server event earlier sent h =
    turn (event ∷ events_at Server earlier) (events_at Client earlier)
    (grown event (events_at Server earlier) (events_at Client earlier) sent (turn (events_at Client earlier) (events_at Server earlier) h))

ordered : (order : List Happened) → TakesStandAfterEmits order → IsTimed (events_at Client order) (events_at Server order)
ordered [] sent = record { here = none_taken; there = none_taken } where
  none_taken : IsInTime [] []
  none_taken = record { front = ([], refl); after = record { each = λ number one most. absurd (let b : ⊥ = omega arith in b) } }
ordered (h ∷ earlier) sent = grown_at h.end h.event earlier sent.0 (ordered earlier sent.1)

pub in_time : (client server : List Event) (order : List Happened) → IsOneOrder client server order → AreInTime client server
in_time client server order o =
    let h = subst (λ (es : List Event). IsTimed es server) o.of_client
    (subst (λ (es : List Event). IsTimed (events_at Client order) es) o.of_server (ordered order o.sent_first)) in
    record { to_client = h.here.front; to_server = h.there.front; client_after = h.here.after; server_after = h.there.after }
