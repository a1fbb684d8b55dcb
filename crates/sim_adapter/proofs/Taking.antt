-- The steps of `take` keep the rule.
use Rattle.std.proofs.Common.{◌≡◌, ◌≢◌, ℕ, ◌+◌, ◌%◌, ◌^◌, ◌<◌, ◌≤◌, Bool, true, false, not, ◌&&◌, Option, is_some, List, [], ◌∷◌, ◌++◌, length, slice_index, slice_set, set, sym, refl, ap, ◌∙◌, subst, arith, mod-lt, length-append, length-set}
use Rattle.std.specs.Prelude.{Some, None}
use Rattle.std.specs.List.{slice_get}
use mathlib.Core.Option.{none}
use mathlib.Core.Option as maybe
use mathlib.Core.Logic.{dite}
use native.Mathlib.Decide.{ℕ_discrete}
use lib.ListN.{get_elem?}
use Rattle.atomic_table.specs.Table.{step, keeps, takes, gives, Allows}
use Rattle.smbd_base.specs.declared.end_id.EndId.{EndId}
use Rattle.smbd_base.specs.declared.event.Event.{Event}
use Rattle.smbd_base.specs.declared.event.Event.TheVariants.{Post, Submit, Emit, Take, Cut}
use Rattle.smbd_base.specs.declared.faults.TakeFault.{TakeFault}
use Rattle.smbd_base.specs.Limits.{Limits, IsLawful}
use Rattle.smbd_base.specs.Counts.{peer_of}
use Rattle.smbd_base.specs.History.{is_cut, is_new, is_refused, is_post_due}
use Rattle.smbd_base.specs.Joint.{AreAccepted, emitted_frames, taken_frames}
use Rattle.smbd_base.proofs.Counting.{sent_is}
use Rattle.joint_laws.specs.Halves.{IsBeside}
use Rattle.joint_laws.proofs.Accounts.{peer-peer}
use Rattle.joint_laws.proofs.Ordering.{taken_sent}
use Rattle.joint_laws.proofs.Halves.{flight_most, takes_own, takes_peer}
use Rattle.smbd_laws.proofs.Accepting.{accepted_legal}
use Rattle.sim_adapter.specs.declared.view.Ends.{Ends}
use Rattle.sim_adapter.specs.declared.view.Turn.{Turn}
use Rattle.sim_adapter.specs.declared.view.Turn.TheVariants.{Free, Takes}
use Rattle.sim_adapter.specs.declared.view.EndView.{EndView}
use Rattle.sim_adapter.specs.declared.view.View.TheVariants.{One}
use Rattle.sim_adapter.specs.Rule.{Slot, Sat, Lies, IsNext, Pair, Orderly, MayGrow, base, room, place, limits_of, is_emitting, is_taking, emitted_word, taken_word}
use Rattle.sim_adapter.specs.Plays.{was_cut, at_turn, front, saw, takes_frame, cut_looked, peer_looked, retired, turn_frame, TakesWell}
use Rattle.sim_adapter.proofs.Casts.{opens}
use Rattle.sim_adapter.proofs.Lanes.{in_lane, off_lane, front_is, lends_front, returns_front, elsewhere, get_within}
use Rattle.sim_adapter.proofs.Opening.{some_room, peer_room}
use Rattle.sim_adapter.proofs.Staying.{stays, stays_read, cut_pair}
use Rattle.sim_adapter.proofs.Words.{taken_within, longer, takes_words, peer_count}

-- an end that refused no frame has not refused the last one
not_refused : (side : EndId) (limits : Limits) (past : List Event) → AreAccepted side limits past → is_refused side limits past ≡ false
not_refused side limits [] accepted = refl
not_refused side limits (Post n ∷ past) accepted = not_refused side limits past accepted
not_refused side limits (Submit m ∷ past) accepted = not_refused side limits past accepted
not_refused side limits (Emit f ∷ past) accepted = not_refused side limits past accepted
not_refused side limits (Take f ∷ past) accepted = ap (λ (o : Option TakeFault). is_some o) accepted.0
not_refused side limits (Cut ∷ past) accepted = not_refused side limits past accepted

ready_by : (cut refused new due : Bool) → cut ≡ false → refused ≡ false → new ≡ false → due ≡ false → (((not cut && not refused) && not new) && not due) ≡ true
ready_by true refused new due a b c d = absurd cc
ready_by false true new due a b c d = absurd cc
ready_by false false true due a b c d = absurd cc
ready_by false false false true a b c d = absurd cc
ready_by false false false false a b c d = refl

-- the frame at a place of the list, and those after it
after_front : (front others : List (List ℕ)) (f : List ℕ) → slice_get (front ++ others) (length front) ≡ Some f → (later : List (List ℕ)) × (others ≡ f ∷ later)
after_front [] [] f e = absurd cc
after_front [] (g ∷ later) f e = (later, ap (λ (z : List ℕ). z ∷ later) (let same : g ≡ f = cc in same))
after_front (x ∷ xs) others f e = after_front xs others f e

frame_at : (front others all : List (List ℕ)) (f : List ℕ) → front ++ others ≡ all → slice_get all (length front) ≡ Some f → (later : List (List ℕ)) × (all ≡ front ++ f ∷ later)
frame_at front others all f whole here =
    let l = after_front front others f (subst (λ (zs : List (List ℕ)). slice_get zs (length front) ≡ Some f) (sym whole) here) in
    (l.0, sym whole ∙ ap (λ (zs : List (List ℕ)). front ++ zs) l.1)

module _ (k : Ends) (side : EndId) (e peer : EndView) (ws : List ℕ) (hs : List (maybe.Option Slot)) (p : Pair k side e peer ws hs) where
  abbrev first : ℕ
  first = base k (peer_of side)

  abbrev n : ℕ
  n = room k (peer_of side)

  abbrev at : ℕ
  at = place k (peer_of side) (length (taken_frames e.past))

  has_room : 0 < n
  has_room = peer_room k side p.mine.known.2

  low : length (taken_frames e.past) % n < n
  low = mod-lt (length (taken_frames e.past)) has_room

  theirs_lie : (t : Turn) → e.turn ≡ t → Lies first n hs (emitted_frames peer.past) (length (taken_frames e.past)) (is_emitting peer.turn) (is_taking t)
  theirs_lie t is = subst (λ (z : Turn). Lies first n hs (emitted_frames peer.past) (length (taken_frames e.past)) (is_emitting peer.turn) (is_taking z)) is p.theirs.lies

  -- the other direction
  mine_lie : (t : Turn) → e.turn ≡ t → (x : maybe.Option Slot) → Lies (base k side) (room k side) (set hs at x) (emitted_frames e.past) (length (taken_frames peer.past)) (is_emitting t) (is_taking peer.turn)
  mine_lie t is x = elsewhere (base k side) (room k side) hs (emitted_frames e.past) (length (taken_frames peer.past)) (is_emitting t) (is_taking peer.turn) at x
      (subst (λ (z : Turn). Lies (base k side) (room k side) hs (emitted_frames e.past) (length (taken_frames peer.past)) (is_emitting z) (is_taking peer.turn)) is p.mine.lies)
      (some_room k side p.theirs.known.2) (λ z b same. off_lane k side z b (length (taken_frames e.past) % n) low (sym same))

  not_more : length (taken_frames e.past) ≤ length (emitted_frames peer.past)
  not_more = omega (arith, taken_sent e.past peer.past p.mine.beside.in_time.front, sent_is peer.past)

  mine_again : IsBeside (peer_of (peer_of side)) (limits_of k (peer_of (peer_of side))) e.past peer.past
  mine_again = subst (λ (x : EndId). IsBeside x (limits_of k x) e.past peer.past) (sym (peer-peer side)) p.mine.beside

  not_over : length (emitted_frames peer.past) ≤ length (taken_frames e.past) + n
  not_over =
      omega (
        arith,
        sent_is peer.past,
        flight_most (peer_of side) (limits_of k (peer_of side)) (limits_of k (peer_of (peer_of side))) peer.past e.past
            p.theirs.known.2 (subst (λ (x : EndId). IsLawful (limits_of k x)) (sym (peer-peer side)) p.mine.known.2) p.theirs.beside mine_again,
      )

  -- where a look shows a frame, it is in its slot
  next_is : e.turn ≡ Free → length (taken_frames e.past) ≢ length (emitted_frames peer.past)
      → (f : List ℕ) × (slice_get (emitted_frames peer.past) (length (taken_frames e.past)) ≡ Some f) × (get_elem? hs at ≡ maybe.some (maybe.some (Some f)))
  next_is free more =
      let less : length (taken_frames e.past) < length (emitted_frames peer.past) = omega (arith, not_more) in
      let f = get_within (emitted_frames peer.past) (length (taken_frames e.past)) less in
      (f.0, f.1, front_is first n hs (emitted_frames peer.past) (length (taken_frames e.past)) (is_emitting peer.turn) (theirs_lie Free free) less has_room ∙ ap (λ (x : Slot). maybe.some (maybe.some x)) f.1)

  -- a look that shows no frame
  saw_pair : (c : ℕ) → c ≡ length (emitted_frames peer.past) → Pair k side (saw e c) peer ws hs
  saw_pair c is = record {
    mine = record {
      known = p.mine.known;
      beside = p.mine.beside;
      lies = p.mine.lies;
      next = p.mine.next;
      seen = omega arith;
      told = p.mine.told;
      short = p.mine.short;
    };
    theirs = record {
      known = p.theirs.known;
      beside = p.theirs.beside;
      lies = p.theirs.lies;
      next = p.theirs.next;
      seen = p.theirs.seen;
      told = p.theirs.told;
      short = p.theirs.short;
    };
    left = p.left;
    words_are = p.words_are;
    slots = p.slots;
  }

  -- a look that takes the slot of a frame out
  turned_pair : (c : ℕ) (f : List ℕ) → c ≡ length (emitted_frames peer.past) → e.turn ≡ Free → slice_get (emitted_frames peer.past) (length (taken_frames e.past)) ≡ Some f
      → Pair k side (at_turn (saw e c) (Takes f)) peer ws (set hs at none)
  turned_pair c f is free next = record {
    mine = record {
      known = p.mine.known;
      beside = p.mine.beside;
      lies = mine_lie Free free none;
      next = next;
      seen = omega arith;
      told = p.mine.told;
      short = p.mine.short;
    };
    theirs = record {
      known = p.theirs.known;
      beside = p.theirs.beside;
      lies = lends_front first n hs (emitted_frames peer.past) (length (taken_frames e.past)) (is_emitting peer.turn) none (theirs_lie Free free) has_room;
      next = p.theirs.next;
      seen = p.theirs.seen;
      told = p.theirs.told;
      short = p.theirs.short;
    };
    left = p.left;
    words_are = p.words_are;
    slots = length-set hs at none ∙ p.slots;
  }

  -- the next frame of the peer is not refused, and the history with it is legal
  taken_beside : (f : List ℕ) → e.turn ≡ Takes f → is_cut e.past ≡ false → is_post_due e.past ≡ false → IsBeside side (limits_of k side) (Take f ∷ e.past) peer.past
  taken_beside f turn uncut reposted =
      let at_place = subst (λ (t : Turn). IsNext t (emitted_frames peer.past) (length (taken_frames e.past))) turn p.mine.next in
      let next = frame_at (taken_frames e.past) p.mine.beside.in_time.front.0 (emitted_frames peer.past) f p.mine.beside.in_time.front.1 at_place in
      let ready = ready_by (is_cut e.past) (is_refused side (limits_of k side) e.past) (is_new e.past) (is_post_due e.past) uncut
      (not_refused side (limits_of k side) e.past p.mine.beside.accepted) p.mine.beside.opened reposted in
      takes_own side (limits_of k side) (limits_of k (peer_of side)) e.past peer.past p.mine.known.2 p.theirs.known.2 p.mine.beside p.theirs.beside f ready
      (record { later = next.0; sent = next.1 })
      (accepted_legal side (limits_of k side) (limits_of k (peer_of side)) e.past peer.past f next.0 p.mine.known.2 p.theirs.known.2 p.theirs.beside.legal p.mine.beside.legal
      p.theirs.beside.in_time.front next.1)

  retired_pair : (f : List ℕ) → e.turn ≡ Takes f → is_cut e.past ≡ false → is_post_due e.past ≡ false → MayGrow e.past
      → Pair k side (takes_frame e f) peer (slice_set ws (taken_word side) ((slice_index ws (taken_word side) + 1) % 2 ^ 64)) (set hs at (maybe.some None))
  retired_pair f turn uncut reposted few = record {
    mine = record {
      known = p.mine.known;
      beside = taken_beside f turn uncut reposted;
      lies = mine_lie (Takes f) turn (maybe.some None);
      next = tt;
      seen = p.mine.seen;
      told = p.mine.told;
      short = longer (Take f) e.past few;
    };
    theirs = record {
      known = p.theirs.known;
      beside = takes_peer (peer_of side) (limits_of k (peer_of side)) peer.past e.past p.theirs.beside f;
      lies = subst (λ (z : ℕ). Lies first n (set hs at (maybe.some None)) (emitted_frames peer.past) z (is_emitting peer.turn) false) (sym (length-append (taken_frames e.past) (f ∷ [])))
          (returns_front first n hs (emitted_frames peer.past) (length (taken_frames e.past)) (is_emitting peer.turn) (theirs_lie (Takes f) turn) has_room not_over
          (omega (arith, in_lane k (peer_of side), p.slots, low)));
      next = p.theirs.next;
      seen = p.theirs.seen;
      told = p.theirs.told;
      short = p.theirs.short;
    };
    left = p.left;
    words_are = takes_words side e.past peer.past f ws p.words_are (omega (arith, p.mine.short, taken_within e.past));
    slots = length-set hs at (maybe.some None) ∙ p.slots;
  }

pub looks_to_take : (k : Ends) (slots id : ℕ) (m : Sat) (e : EndView) → m ≡ (One e, []) → is_cut e.past ≡ false → Allows (Orderly k) slots id m 0 (λ n. n) (cut_looked (step slots 0 0 0 none) m)
looks_to_take k slots id m e is uncut = subst (λ (z : Sat). Allows (Orderly k) slots id z 0 (λ n. n) (cut_looked (step slots 0 0 0 none) z)) (sym is) go
  where
    go : Allows (Orderly k) slots id (One e, []) 0 (λ n. n) (cut_looked (step slots 0 0 0 none) (One e, []))
    go s r wide at small = let o = opens k s id e r at in let x : ℕ = slice_index s.words 0 in dite (ℕ_discrete x 0)
        (λ zero. (One e, keeps, tt, stays_read k s id 0 e e o s.homes o.pair, ((λ _. refl), (λ ne. absurd (ne zero)))))
        (λ ne. (
          One (was_cut e),
          keeps,
          tt,
          stays_read k s id 0 e (was_cut e) o s.homes (cut_pair e.ends e.side e o.peer s.words s.homes o.pair uncut ne),
          ((λ z. absurd (ne z)), (λ _. refl)),
        ))

pub looks_at_peer : (k : Ends) (slots id word : ℕ) (m : Sat) (e : EndView) → m ≡ (One e, []) → word ≡ emitted_word (peer_of e.side) → e.turn ≡ Free
    → Allows (Orderly k) slots id m word (λ n. n) (peer_looked (step slots word 0 0 none) m)
looks_at_peer k slots id word m e is at_word free = subst (λ (z : Sat × ℕ). Allows (Orderly k) slots id z.0 z.1 (λ n. n) (peer_looked (step slots z.1 0 0 none) z.0)) (λ i. (sym is i, sym at_word i)) go
  where
    go : Allows (Orderly k) slots id (One e, []) (emitted_word (peer_of e.side)) (λ n. n) (peer_looked (step slots (emitted_word (peer_of e.side)) 0 0 none) (One e, []))
    go s r wide at small =
        let o = opens k s id e r at in
        let w : ℕ = emitted_word (peer_of e.side) in
        let x : ℕ = slice_index s.words w in
        let count : x ≡ length (emitted_frames o.peer.past) = peer_count e.side e.past o.peer.past s.words o.pair.words_are in
        let up : e.seen ≤ x = omega (arith, o.pair.mine.seen) in
        dite (ℕ_discrete x (length (taken_frames e.past)))
        (λ none_new. (One (saw e x), keeps, tt, stays_read k s id w e (saw e x) o s.homes (saw_pair e.ends e.side e o.peer s.words s.homes o.pair x count), (up, (λ _. refl), (λ ne. absurd (ne none_new)))))
        (λ more. let f = next_is e.ends e.side e o.peer s.words s.homes o.pair free (λ same. more (count ∙ sym same)) in (
          One (at_turn (saw e x) (Takes f.0)),
          takes (front e) (Some f.0),
          f.2,
          stays_read k s id w e (at_turn (saw e x) (Takes f.0)) o (set s.homes (front e) none) (turned_pair e.ends e.side e o.peer s.words s.homes o.pair x f.0 count free f.1),
          (up, (λ same. absurd (more same)), (λ _. (f.0, refl))),
        ))

pub retires : (k : Ends) (slots id word : ℕ) (m : Sat) (e : EndView) (f : List ℕ) → m ≡ (One e, (front e, None) ∷ []) → word ≡ taken_word e.side → e.turn ≡ Takes f
    → is_cut e.past ≡ false → is_post_due e.past ≡ false → MayGrow e.past → Allows (Orderly k) slots id m word (λ n. (n + 1) % 2 ^ 64) (retired (step slots word 1 0 none) m)
retires k slots id word m e f is at_word turn uncut reposted few =
    subst (λ (z : Sat × ℕ). Allows (Orderly k) slots id z.0 z.1 (λ n. (n + 1) % 2 ^ 64) (retired (step slots z.1 1 0 none) z.0)) (λ i. (sym is i, sym at_word i)) go
  where
    go : Allows (Orderly k) slots id (One e, (front e, None) ∷ []) (taken_word e.side) (λ n. (n + 1) % 2 ^ 64) (retired (step slots (taken_word e.side) 1 0 none) (One e, (front e, None) ∷ []))
    go s r wide at small =
        let o = opens k s id e r at in
        let b = taken_beside e.ends e.side e o.peer s.words s.homes o.pair f turn uncut reposted in
        let same : f ≡ turn_frame e.turn = sym (ap turn_frame turn) in (
          One (takes_frame e f),
          gives,
          tt,
          stays k s id e (takes_frame e f) o _ _ (retired_pair e.ends e.side e o.peer s.words s.homes o.pair f turn uncut reposted few),
          ((λ i. (One (takes_frame e (same i)), [])), subst (λ (z : List ℕ). TakesWell e z) same (b.legal, b.accepted)),
        )
