-- Which seats have the ends.
use Rattle.std.proofs.Common.{◌≡◌, ◌≢◌, ℕ, ◌+◌, ◌<◌, ◌≤◌, List, [], ◌∷◌, ◌++◌, length, set, sym, refl, ap, ◌∙◌, subst, arith, ◌⊎◌, inl, inr, ⊎_elim}
use mathlib.Core.Option.{some, none, some-injective}
use mathlib.Core.Option as maybe
use mathlib.Core.Logic.{dite}
use native.Mathlib.Decide.{ℕ_discrete}
use lib.ListN.{get_elem?}
use Rattle.atomic_table.proofs.Lists.{set_else, set_here}
use Rattle.smbd_base.specs.declared.end_id.EndId.{EndId}
use Rattle.smbd_base.specs.declared.end_id.EndId.TheVariants.{Client, Server}
use Rattle.sim_adapter.specs.declared.view.Ends.{Ends}
use Rattle.sim_adapter.specs.declared.view.EndView.{EndView}
use Rattle.sim_adapter.specs.declared.view.View.{View}
use Rattle.sim_adapter.specs.declared.view.View.TheVariants.{One, Both}
use Rattle.sim_adapter.specs.Rule.{Slot, Desk, Pair, Alone, Apart, Cast, apart, together, Orderly}

pub inside : {A : Type 0} (l : List A) (i : ℕ) (a : A) → get_elem? l i ≡ some a → i < length l
inside [] i a e = absurd cc
inside (x ∷ xs) Rattle.std.proofs.Common.zero a e = omega arith
inside (x ∷ xs) (Rattle.std.proofs.Common.suc i) a e = let h = inside xs i a e in omega arith

-- the two views of one place are one
pub one_view : (views : List View) (i : ℕ) (v w : View) → get_elem? views i ≡ some v → get_elem? views i ≡ some w → v ≡ w
one_view views i v w a b = some-injective v w (sym a ∙ b)

pub swapped : {views : List View} {i : ℕ} {c d : EndView} (a : Apart views i c d) → Apart views a.j d c
swapped {views} {i} a = record { j = i; apart = λ e. a.apart (sym e); here = a.there; there = a.here; others = λ n u at x y. a.others n u at y x }

pub other_pair : {k : Ends} {own peer : EndView} {ws : List ℕ} {hs : List (maybe.Option Slot)} → Pair k Client own peer ws hs → Pair k Server peer own ws hs
other_pair p = record { mine = p.theirs; theirs = p.mine; left = let a = p.left in omega arith; words_are = p.words_are; slots = p.slots }

pub first_pair : {k : Ends} {own peer : EndView} {ws : List ℕ} {hs : List (maybe.Option Slot)} → Pair k Server own peer ws hs → Pair k Client peer own ws hs
first_pair p = record { mine = p.theirs; theirs = p.mine; left = let a = p.left in omega arith; words_are = p.words_are; slots = p.slots }

-- what a seat with an end knows of the table
pub record Opens (k : Ends) (s : Desk) (id : ℕ) (e : EndView) : Type 0 where
  pub peer : EndView
  pub seats : Apart s.views id e peer
  pub key : e.ends ≡ k
  pub pair : Pair e.ends e.side e peer s.words s.homes

opened_as : (k : Ends) (side : EndId) (s : Desk) (id : ℕ) (e d : EndView) → Apart s.views id e d → Pair k side e d s.words s.homes → Opens k s id e
opened_as k side s id e d a p = record {
  peer = d;
  seats = a;
  key = p.mine.known.1;
  pair = subst (λ (z : Ends × EndId). Pair z.0 z.1 e d s.words s.homes) (λ i. (sym p.mine.known.1 i, sym p.mine.known.0 i)) p;
}

one_end : (e c : EndView) → One e ≡ One c → e ≡ c
one_end e c is = cc

opens_apart : (k : Ends) (s : Desk) (id : ℕ) (e c d : EndView) (i : ℕ) → Apart s.views i c d → Pair k Client c d s.words s.homes → get_elem? s.views id ≡ some (One e) → Opens k s id e
opens_apart k s id e c d i a p at = dite (ℕ_discrete id i)
    (λ is. let same : c ≡ e = one_end c e (one_view s.views i (One c) (One e) a.here (subst (λ (z : ℕ). get_elem? s.views z ≡ some (One e)) is at)) in
    opened_as k Client s id e d (subst (λ (z : ℕ × EndView). Apart s.views z.0 z.1 d) (λ t. (sym is t, same t)) a) (subst (λ (z : EndView). Pair k Client z d s.words s.homes) same p))
    (λ ne. dite (ℕ_discrete id a.j)
    (λ is. let same : d ≡ e = one_end d e (one_view s.views a.j (One d) (One e) a.there (subst (λ (z : ℕ). get_elem? s.views z ≡ some (One e)) is at)) in
    opened_as k Server s id e c (subst (λ (z : ℕ × EndView). Apart s.views z.0 z.1 c) (λ t. (sym is t, same t)) (swapped a)) (other_pair (subst (λ (z : EndView). Pair k Client c z s.words s.homes) same p)))
    (λ off. let spent = a.others id (One e) at ne off in absurd cc))

opens_together : (k : Ends) (s : Desk) (id : ℕ) (e c d : EndView) (i : ℕ) → Alone s.views i (Both c d) → get_elem? s.views id ≡ some (One e) → Opens k s id e
opens_together k s id e c d i a at = dite (ℕ_discrete id i)
    (λ is. let same = one_view s.views i (Both c d) (One e) a.0 (subst (λ (z : ℕ). get_elem? s.views z ≡ some (One e)) is at) in absurd cc)
    (λ ne. let spent = a.1 id (One e) at ne in absurd cc)

opens_cast : (k : Ends) (s : Desk) (id : ℕ) (e c d : EndView) → Cast s.views c d → Pair k Client c d s.words s.homes → get_elem? s.views id ≡ some (One e) → Opens k s id e
opens_cast k s id e c d (apart i a) p at = opens_apart k s id e c d i a p at
opens_cast k s id e c d (together i a) p at = opens_together k s id e c d i a at

pub opens : (k : Ends) (s : Desk) (id : ℕ) (e : EndView) → Orderly k s → get_elem? s.views id ≡ some (One e) → Opens k s id e
opens k s id e r at = opens_cast k s id e r.client r.server r.cast r.pair at

-- the seat's view becomes another end's
pub reseated : (views : List View) (i : ℕ) (c d w : EndView) → Apart views i c d → Apart (set views i (One w)) i w d
reseated views i c d w a = record {
  j = a.j;
  apart = a.apart;
  here = set_here views i (One w) (inside views i (One c) a.here);
  there = set_else views i a.j (One w) a.apart ∙ a.there;
  others = λ n u at x y. a.others n u (sym (set_else views i n (One w) x) ∙ at) x y;
}

pub closes : (k : Ends) (side : EndId) (id : ℕ) (own peer : EndView) (ws : List ℕ) (hs : List (maybe.Option Slot)) (views : List View) → Apart views id own peer → Pair k side own peer ws hs
    → Orderly k record { words = ws; homes = hs; views = views }
closes k Client id own peer ws hs views a p = record { client = own; server = peer; cast = apart id a; pair = p }
closes k Server id own peer ws hs views a p = record { client = peer; server = own; cast = apart a.j (swapped a); pair = first_pair p }
