-- The steps of `emit` keep the rule.
use Rattle.std.proofs.Common.{◌≡◌, ℕ, zero, suc, ◌+◌, ◌%◌, ◌^◌, ◌<◌, ◌≤◌, true, List, [], ◌∷◌, ◌++◌, length, slice_index, slice_set, set, sym, refl, ◌∙◌, subst, arith, mod-lt, length-append, length-set}
use Rattle.std.specs.Prelude.{Some, None}
use Rattle.std.specs.List.{slice_get}
use Rattle.std.proofs.lemmas.Option.{slice_get_within}
use mathlib.Core.Option.{some, none}
use mathlib.Core.Option as maybe
use mathlib.Core.Logic.{dite}
use native.Mathlib.Decide.{ℕ_discrete}
use lib.ListN.{get_elem?}
use Rattle.atomic_table.specs.Table.{step, keeps, takes, gives, Allows}
use Rattle.smbd_base.specs.declared.end_id.EndId.{EndId}
use Rattle.smbd_base.specs.declared.event.Event.TheVariants.{Emit}
use Rattle.smbd_base.specs.Counts.{peer_of}
use Rattle.smbd_base.specs.History.{MayFollow}
use Rattle.smbd_base.specs.Joint.{emitted_frames, taken_frames}
use Rattle.smbd_base.proofs.Counting.{sent_is}
use Rattle.smbd_base.proofs.Inversion.{emits as emission}
use Rattle.joint_laws.proofs.Ordering.{taken_sent}
use Rattle.joint_laws.proofs.Halves.{flight_less, emits_own, emits_peer, emits_left}
use Rattle.sim_adapter.specs.declared.view.Ends.{Ends}
use Rattle.sim_adapter.specs.declared.view.Turn.{Turn}
use Rattle.sim_adapter.specs.declared.view.Turn.TheVariants.{Free, Emits, Takes}
use Rattle.sim_adapter.specs.declared.view.EndView.{EndView}
use Rattle.sim_adapter.specs.declared.view.View.TheVariants.{One}
use Rattle.sim_adapter.specs.Rule.{Slot, Sat, Lies, IsNext, Half, Pair, Orderly, MayGrow, base, room, place, limits_of, is_emitting, is_taking, emitted_word}
use Rattle.sim_adapter.specs.Plays.{was_cut, at_turn, back, emits, emit_looked, published}
use Rattle.sim_adapter.proofs.Casts.{opens}
use Rattle.sim_adapter.proofs.Lanes.{in_lane, off_lane, back_is_empty, lends_back, returns_back, elsewhere}
use Rattle.sim_adapter.proofs.Opening.{some_room, peer_room}
use Rattle.sim_adapter.proofs.Staying.{stays, stays_read, cut_pair}
use Rattle.sim_adapter.proofs.Words.{emitted_within, longer, emits_words}

taking_later : (k : Ends) (side : EndId) (own peer : EndView) (hs : List (maybe.Option Slot)) → Half k side own peer hs → is_taking own.turn ≡ true
    → length (taken_frames own.past) < length (emitted_frames peer.past)
taking_later k side own peer hs h t = later own.turn h.next t
  where
    later : (turn : Turn) → IsNext turn (emitted_frames peer.past) (length (taken_frames own.past)) → is_taking turn ≡ true → length (taken_frames own.past) < length (emitted_frames peer.past)
    later Free n e = absurd cc
    later Emits n e = absurd cc
    later (Takes f) n e = slice_get_within (emitted_frames peer.past) (length (taken_frames own.past)) f n

-- a frame more of the peer's does not change which is next
still_next : (turn : Turn) (frames : List (List ℕ)) (gone : ℕ) (f : List ℕ) → IsNext turn frames gone → IsNext turn (frames ++ f ∷ []) gone
still_next Free frames gone f n = tt
still_next Emits frames gone f n = tt
still_next (Takes g) frames gone f n = longer_get frames gone g n
  where
    longer_get : (xs : List (List ℕ)) (i : ℕ) (x : List ℕ) → slice_get xs i ≡ Some x → slice_get (xs ++ f ∷ []) i ≡ Some x
    longer_get [] i x e = absurd cc
    longer_get (y ∷ ys) zero x e = e
    longer_get (y ∷ ys) (suc i) x e = longer_get ys i x e

-- the cut look of `emit` takes an empty slot out
module _ (k : Ends) (side : EndId) (e peer : EndView) (ws : List ℕ) (hs : List (maybe.Option Slot)) (p : Pair k side e peer ws hs)
    (f : List ℕ) (may : MayFollow side (limits_of k side) (Emit f) e.past) where
  abbrev at : ℕ
  at = place k side (length (emitted_frames e.past))

  not_back : length (taken_frames peer.past) ≤ length (emitted_frames e.past)
  not_back = omega (arith, taken_sent peer.past e.past p.theirs.beside.in_time.front, sent_is e.past)

  not_full : length (emitted_frames e.past) < length (taken_frames peer.past) + room k side
  not_full =
      omega (arith, sent_is e.past, flight_less side (limits_of k side) (limits_of k (peer_of side)) e.past peer.past p.mine.known.2 p.theirs.known.2 p.mine.beside p.theirs.beside f may)

  own_lies : (t : Turn) → e.turn ≡ t → Lies (base k side) (room k side) hs (emitted_frames e.past) (length (taken_frames peer.past)) (is_emitting t) (is_taking peer.turn)
  own_lies t is = subst (λ (z : Turn). Lies (base k side) (room k side) hs (emitted_frames e.past) (length (taken_frames peer.past)) (is_emitting z) (is_taking peer.turn)) is p.mine.lies

  low : length (emitted_frames e.past) % room k side < room k side
  low = mod-lt (length (emitted_frames e.past)) (some_room k side p.theirs.known.2)

  -- the other direction
  other_lies : (t : Turn) → e.turn ≡ t → (x : maybe.Option Slot) → Lies (base k (peer_of side)) (room k (peer_of side)) (set hs at x) (emitted_frames peer.past) (length (taken_frames e.past)) (is_emitting peer.turn) (is_taking t)
  other_lies t is x = elsewhere (base k (peer_of side)) (room k (peer_of side)) hs (emitted_frames peer.past) (length (taken_frames e.past)) (is_emitting peer.turn) (is_taking t) at x
      (subst (λ (z : Turn). Lies (base k (peer_of side)) (room k (peer_of side)) hs (emitted_frames peer.past) (length (taken_frames e.past)) (is_emitting peer.turn) (is_taking z)) is p.theirs.lies)
      (peer_room k side p.mine.known.2) (off_lane k side (length (emitted_frames e.past) % room k side) low)

  is_empty : e.turn ≡ Free → get_elem? hs at ≡ some (some None)
  is_empty free = back_is_empty (base k side) (room k side) hs (emitted_frames e.past) (length (taken_frames peer.past)) (is_taking peer.turn) (own_lies Free free) not_back not_full
      (taking_later k (peer_of side) peer e hs p.theirs)

  looked_pair : e.turn ≡ Free → Pair k side (at_turn e Emits) peer ws (set hs at none)
  looked_pair free = record {
    mine = record {
      known = p.mine.known;
      beside = p.mine.beside;
      lies = lends_back (base k side) (room k side) hs (emitted_frames e.past) (length (taken_frames peer.past)) (is_taking peer.turn) none (own_lies Free free) not_back not_full;
      next = tt;
      seen = p.mine.seen;
      told = p.mine.told;
      short = p.mine.short;
    };
    theirs = record {
      known = p.theirs.known;
      beside = p.theirs.beside;
      lies = other_lies Free free none;
      next = p.theirs.next;
      seen = p.theirs.seen;
      told = p.theirs.told;
      short = p.theirs.short;
    };
    left = p.left;
    words_are = p.words_are;
    slots = length-set hs at none ∙ p.slots;
  }

  published_pair : e.turn ≡ Emits → MayGrow e.past
      → Pair k side (emits e f) peer (slice_set ws (emitted_word side) ((slice_index ws (emitted_word side) + 1) % 2 ^ 64)) (set hs at (some (Some f)))
  published_pair turn few = record {
    mine = record {
      known = p.mine.known;
      beside = emits_own side (limits_of k side) e.past peer.past p.mine.beside f p.mine.known.2 may;
      lies = returns_back (base k side) (room k side) hs (emitted_frames e.past) (length (taken_frames peer.past)) (is_taking peer.turn) f (own_lies Emits turn) not_back not_full
          (omega (arith, in_lane k side, p.slots, low));
      next = tt;
      seen = p.mine.seen;
      told = p.mine.told;
      short = longer (Emit f) e.past few;
    };
    theirs = record {
      known = p.theirs.known;
      beside = emits_peer (peer_of side) (limits_of k (peer_of side)) peer.past e.past p.theirs.beside f;
      lies = other_lies Emits turn (some (Some f));
      next = still_next peer.turn (emitted_frames e.past) (length (taken_frames peer.past)) f p.theirs.next;
      seen = omega (arith, p.theirs.seen, length-append (emitted_frames e.past) (f ∷ []));
      told = p.theirs.told;
      short = p.theirs.short;
    };
    left = emits_left side (limits_of k side) (limits_of k (peer_of side)) e.past peer.past p.mine.known.2 p.theirs.known.2 p.mine.beside p.theirs.beside f may p.left;
    words_are = emits_words side e.past peer.past f ws p.words_are (omega (arith, p.mine.short, emitted_within e.past));
    slots = length-set hs at (some (Some f)) ∙ p.slots;
  }

pub looks_to_emit_at : (k : Ends) (slots id : ℕ) (m : Sat) (e : EndView) (f : List ℕ) → m ≡ (One e, []) → e.turn ≡ Free → MayFollow e.side (limits_of e.ends e.side) (Emit f) e.past
    → Allows (Orderly k) slots id m 0 (λ n. n) (emit_looked (step slots 0 0 0 none) m)
looks_to_emit_at k slots id m e f is free may = subst (λ (z : Sat). Allows (Orderly k) slots id z 0 (λ n. n) (emit_looked (step slots 0 0 0 none) z)) (sym is) go
  where
    go : Allows (Orderly k) slots id (One e, []) 0 (λ n. n) (emit_looked (step slots 0 0 0 none) (One e, []))
    go s r wide at small = let o = opens k s id e r at in let x : ℕ = slice_index s.words 0 in dite (ℕ_discrete x 0)
        (λ zero. (
          One (at_turn e Emits),
          takes (back e) None,
          is_empty e.ends e.side e o.peer s.words s.homes o.pair f may free,
          stays_read k s id 0 e (at_turn e Emits) o (set s.homes (back e) none) (looked_pair e.ends e.side e o.peer s.words s.homes o.pair f may free),
          ((λ _. refl), (λ ne. absurd (ne zero))),
        ))
        (λ ne. (
          One (was_cut e),
          keeps,
          tt,
          stays_read k s id 0 e (was_cut e) o s.homes
              (cut_pair e.ends e.side e o.peer s.words s.homes o.pair (emission e.side (limits_of e.ends e.side) e.past f may).going.cut ne),
          ((λ z. absurd (ne z)), (λ _. refl)),
        ))

pub publishes_at : (k : Ends) (slots id word : ℕ) (m : Sat) (e : EndView) (f : List ℕ) → m ≡ (One e, (back e, Some f) ∷ []) → word ≡ emitted_word e.side → e.turn ≡ Emits
    → MayFollow e.side (limits_of e.ends e.side) (Emit f) e.past → MayGrow e.past
    → Allows (Orderly k) slots id m word (λ n. (n + 1) % 2 ^ 64) (published (step slots word 1 0 none) m)
publishes_at k slots id word m e f is at_word turn may few =
    subst (λ (z : Sat × ℕ). Allows (Orderly k) slots id z.0 z.1 (λ n. (n + 1) % 2 ^ 64) (published (step slots z.1 1 0 none) z.0)) (λ i. (sym is i, sym at_word i)) go
  where
    go : Allows (Orderly k) slots id (One e, (back e, Some f) ∷ []) (emitted_word e.side) (λ n. (n + 1) % 2 ^ 64) (published (step slots (emitted_word e.side) 1 0 none) (One e, (back e, Some f) ∷ []))
    go s r wide at small = let o = opens k s id e r at in (
      One (emits e f),
      gives,
      tt,
      stays k s id e (emits e f) o _ _ (published_pair e.ends e.side e o.peer s.words s.homes o.pair f may turn few),
      refl,
    )
