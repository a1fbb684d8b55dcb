-- The steps of `post`, `submitted` and `cut` keep the rule.
use Rattle.std.proofs.Common.{◌≡◌, ℕ, ◌+◌, ◌%◌, ◌^◌, ◌≤◌, false, List, [], ◌∷◌, length, slice_index, slice_set, sym, refl, subst, arith}
use mathlib.Core.Option.{some, none}
use mathlib.Core.Option as maybe
use Rattle.atomic_table.specs.Table.{step, keeps, Allows}
use Rattle.smbd_base.specs.declared.end_id.EndId.{EndId}
use Rattle.smbd_base.specs.declared.event.Event.TheVariants.{Post, Submit, Cut}
use Rattle.smbd_base.specs.Counts.{peer_of, receives_posted}
use Rattle.smbd_base.specs.History.{is_cut, MayFollow}
use Rattle.smbd_base.specs.Joint.{taken_frames}
use Rattle.joint_laws.proofs.Halves.{posted_most, posts_own, posts_peer, submits_own, submits_peer, cuts_own, cuts_peer}
use Rattle.sim_adapter.specs.declared.view.Ends.{Ends}
use Rattle.sim_adapter.specs.declared.view.EndView.{EndView}
use Rattle.sim_adapter.specs.declared.view.View.TheVariants.{One}
use Rattle.sim_adapter.specs.Rule.{Slot, Sat, Pair, Orderly, limits_of, posted_word, MayGrow}
use Rattle.sim_adapter.specs.Plays.{submits, with_event, posts, cuts}
use Rattle.sim_adapter.proofs.Casts.{opens}
use Rattle.sim_adapter.proofs.Staying.{stays_read, stays}
use Rattle.sim_adapter.proofs.Words.{taken_within, longer, submits_words, posts_words, cuts_words}

module _ (k : Ends) (side : EndId) (e peer : EndView) (ws : List ℕ) (hs : List (maybe.Option Slot)) (p : Pair k side e peer ws hs) (few : MayGrow e.past) where
  posted_pair : (n : ℕ) → MayFollow side (limits_of k side) (Post n) e.past
      → Pair k side (with_event e (Post n)) peer (slice_set ws (posted_word side) ((slice_index ws (posted_word side) + n) % 2 ^ 64)) hs
  posted_pair n may =
      let after = posts_own side (limits_of k side) e.past peer.past p.mine.beside n may in
      let lawful = p.mine.known.2 in
      let most : receives_posted e.past + n ≤ length (taken_frames e.past) + (limits_of k side).credits =
      posted_most side (limits_of k side) (Post n ∷ e.past) peer.past after lawful in
      record {
        mine = record {
          known = p.mine.known;
          beside = after;
          lies = p.mine.lies;
          next = p.mine.next;
          seen = p.mine.seen;
          told = p.mine.told;
          short = longer (Post n) e.past few;
        };
        theirs = record {
          known = p.theirs.known;
          beside = posts_peer (peer_of side) (limits_of k (peer_of side)) peer.past e.past p.theirs.beside n;
          lies = p.theirs.lies;
          next = p.theirs.next;
          seen = p.theirs.seen;
          told = p.theirs.told;
          short = p.theirs.short;
        };
        left = p.left;
        words_are = posts_words side e.past peer.past n ws p.words_are (omega (arith, most, lawful.credits.1, few, taken_within e.past));
        slots = p.slots;
      }

  submitted_pair : (m : List ℕ) → MayFollow side (limits_of k side) (Submit m) e.past → Pair k side (with_event e (Submit m)) peer ws hs
  submitted_pair m may = record {
    mine = record {
      known = p.mine.known;
      beside = submits_own side (limits_of k side) e.past peer.past p.mine.beside m may;
      lies = p.mine.lies;
      next = p.mine.next;
      seen = p.mine.seen;
      told = p.mine.told;
      short = longer (Submit m) e.past few;
    };
    theirs = record {
      known = p.theirs.known;
      beside = submits_peer (peer_of side) (limits_of k (peer_of side)) peer.past e.past p.theirs.beside m;
      lies = p.theirs.lies;
      next = p.theirs.next;
      seen = p.theirs.seen;
      told = p.theirs.told;
      short = p.theirs.short;
    };
    left = p.left;
    words_are = submits_words side e.past peer.past m ws p.words_are;
    slots = p.slots;
  }

  cut_off_pair : is_cut e.past ≡ false → Pair k side (with_event e Cut) peer (slice_set ws 0 1) hs
  cut_off_pair uncut = record {
    mine = record {
      known = p.mine.known;
      beside = cuts_own side (limits_of k side) e.past peer.past p.mine.beside (uncut, p.mine.beside.opened);
      lies = p.mine.lies;
      next = p.mine.next;
      seen = p.mine.seen;
      told = p.mine.told;
      short = longer Cut e.past few;
    };
    theirs = record {
      known = p.theirs.known;
      beside = cuts_peer (peer_of side) (limits_of k (peer_of side)) peer.past e.past p.theirs.beside;
      lies = p.theirs.lies;
      next = p.theirs.next;
      seen = p.theirs.seen;
      told = λ t. (refl, (p.theirs.told t).1);
      short = p.theirs.short;
    };
    left = p.left;
    words_are = cuts_words side e.past peer.past ws p.words_are;
    slots = p.slots;
  }

pub posts_at : (k : Ends) (slots id word n n' : ℕ) (m : Sat) (e : EndView) → m ≡ (One e, []) → word ≡ posted_word e.side → n' ≡ n → MayFollow e.side (limits_of e.ends e.side) (Post n) e.past → MayGrow e.past
    → Allows (Orderly k) slots id m word (λ x. (x + n') % 2 ^ 64) (posts (step slots word n' 0 none) m)
posts_at k slots id word n n' m e is at_word same may few = subst (λ (z : Sat × ℕ × ℕ). Allows (Orderly k) slots id z.0 z.1 (λ x. (x + z.2) % 2 ^ 64) (posts (step slots z.1 z.2 0 none) z.0)) (λ i. (sym is i, sym at_word i, sym same i)) go
  where
    go : Allows (Orderly k) slots id (One e, []) (posted_word e.side) (λ x. (x + n) % 2 ^ 64) (posts (step slots (posted_word e.side) n 0 none) (One e, []))
    go s r wide at small = let o = opens k s id e r at in
        (One (with_event e (Post n)), keeps, tt, stays k s id e (with_event e (Post n)) o _ s.homes (posted_pair e.ends e.side e o.peer s.words s.homes o.pair few n may), refl)

pub cuts_at : (k : Ends) (slots id : ℕ) (m : Sat) (e : EndView) → m ≡ (One e, []) → is_cut e.past ≡ false → MayGrow e.past → Allows (Orderly k) slots id m 0 (λ x. 1) (cuts (step slots 0 1 0 none) m)
cuts_at k slots id m e is uncut few = subst (λ (z : Sat). Allows (Orderly k) slots id z 0 (λ x. 1) (cuts (step slots 0 1 0 none) z)) (sym is) go
  where
    go : Allows (Orderly k) slots id (One e, []) 0 (λ x. 1) (cuts (step slots 0 1 0 none) (One e, []))
    go s r wide at small = let o = opens k s id e r at in
        (One (with_event e Cut), keeps, tt, stays k s id e (with_event e Cut) o (slice_set s.words 0 1) s.homes (cut_off_pair e.ends e.side e o.peer s.words s.homes o.pair few uncut), refl)

pub submits_at : (k : Ends) (slots id : ℕ) (message : List ℕ) (m : Sat) (e : EndView) → m ≡ (One e, []) → MayFollow e.side (limits_of e.ends e.side) (Submit message) e.past → MayGrow e.past
    → Allows (Orderly k) slots id m 0 (λ n. n) (submits message (step slots 0 0 0 none) m)
submits_at k slots id message m e is may few = subst (λ (z : Sat). Allows (Orderly k) slots id z 0 (λ n. n) (submits message (step slots 0 0 0 none) z)) (sym is) go
  where
    go : Allows (Orderly k) slots id (One e, []) 0 (λ n. n) (submits message (step slots 0 0 0 none) (One e, []))
    go s r wide at small = let o = opens k s id e r at in
        (One (with_event e (Submit message)), keeps, tt, stays_read k s id 0 e (with_event e (Submit message)) o s.homes (submitted_pair e.ends e.side e o.peer s.words s.homes o.pair few message may), refl)
