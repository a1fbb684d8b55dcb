-- What a step of one seat leaves of the rule.
use Rattle.std.proofs.Common.{◌≡◌, ◌≢◌, ℕ, Bool, true, false, List, refl, slice_index, slice_set, set, sym, subst}
use mathlib.Core.Option as maybe
use lib.Seq.{set-get_or}
use Rattle.smbd_base.specs.declared.end_id.EndId.{EndId}
use Rattle.smbd_base.specs.History.{is_cut}
use Rattle.sim_adapter.specs.declared.view.Ends.{Ends}
use Rattle.sim_adapter.specs.declared.view.EndView.{EndView}
use Rattle.sim_adapter.specs.declared.view.View.TheVariants.{One}
use Rattle.sim_adapter.specs.Rule.{Slot, Desk, Pair, Orderly}
use Rattle.sim_adapter.specs.Plays.{was_cut}
use Rattle.sim_adapter.proofs.Casts.{Opens, reseated, closes}
use Rattle.sim_adapter.proofs.Words.{cut_shown}

-- a step of a seat with an end leaves it with the view w
pub stays : (k : Ends) (s : Desk) (id : ℕ) (e w : EndView) (o : Opens k s id e) (ws : List ℕ) (hs : List (maybe.Option Slot)) → Pair e.ends e.side w o.peer ws hs
    → Orderly k record { words = ws; homes = hs; views = set s.views id (One w) }
stays k s id e w o ws hs p = subst (λ (z : Ends). Orderly z record { words = ws; homes = hs; views = set s.views id (One w) }) o.key
    (closes e.ends e.side id w o.peer ws hs (set s.views id (One w)) (reseated s.views id e o.peer w o.seats) p)

-- the same, where the words do not change
pub stays_read : (k : Ends) (s : Desk) (id i : ℕ) (e w : EndView) (o : Opens k s id e) (hs : List (maybe.Option Slot)) → Pair e.ends e.side w o.peer s.words hs
    → Orderly k record { words = slice_set s.words i (slice_index s.words i); homes = hs; views = set s.views id (One w) }
stays_read k s id i e w o hs p = subst (λ (ws : List ℕ). Orderly k record { words = ws; homes = hs; views = set s.views id (One w) }) (sym (set-get_or s.words i 0)) (stays k s id e w o s.words hs p)

-- a look of an end that is not cut showed that the link is
pub cut_pair : (k : Ends) (side : EndId) (e peer : EndView) (ws : List ℕ) (hs : List (maybe.Option Slot)) → Pair k side e peer ws hs → is_cut e.past ≡ false → slice_index ws 0 ≢ 0
    → Pair k side (was_cut e) peer ws hs
cut_pair k side e peer ws hs p uncut shown = record {
  mine = record {
    known = p.mine.known;
    beside = p.mine.beside;
    lies = p.mine.lies;
    next = p.mine.next;
    seen = p.mine.seen;
    told = λ _. (cut_shown side e.past peer.past ws p.words_are uncut shown, untold peer.told_cut (λ t. let x : is_cut e.past ≡ true = (p.theirs.told t).0 in absurd cc));
    short = p.mine.short;
  };
  theirs = record {
    known = p.theirs.known;
    beside = p.theirs.beside;
    lies = p.theirs.lies;
    next = p.theirs.next;
    seen = p.theirs.seen;
    told = λ t. let x : is_cut e.past ≡ true = (p.theirs.told t).0 in absurd cc;
    short = p.theirs.short;
  };
  left = p.left;
  words_are = p.words_are;
  slots = p.slots;
}
  where
    untold : (b : Bool) → (b ≡ true → ⊥) → b ≡ false
    untold true n = absurd (n refl)
    untold false n = refl
