-- The steps of a meeting keep the rule.
use Rattle.std.proofs.Common.{◌≡◌, ◌≢◌, ℕ, ◌<◌, List, [], ◌∷◌, ◌++◌, length, set, sym, refl, ◌∙◌, subst, arith, le_refl, length-set}
use mathlib.Core.Option.{some, none}
use mathlib.Core.Option as maybe
use mathlib.Core.Logic.{dite}
use native.Mathlib.Decide.{ℕ_discrete}
use lib.ListN.{get_elem?}
use lib.Seq.{set-get_or}
use Rattle.atomic_table.specs.Table.{step, keeps, Allows, Splits, Joins}
use Rattle.atomic_table.proofs.Lists.{set_else, set_here, at_longer, at_last}
use Rattle.smbd_base.specs.declared.end_id.EndId.{EndId}
use Rattle.smbd_base.specs.declared.end_id.EndId.TheVariants.{Client}
use Rattle.sim_adapter.specs.declared.view.Ends.{Ends}
use Rattle.sim_adapter.specs.declared.view.EndView.{EndView}
use Rattle.sim_adapter.specs.declared.view.View.{View}
use Rattle.sim_adapter.specs.declared.view.View.TheVariants.{Spent, One, Both}
use Rattle.smbd_base.specs.Joint.{emitted_frames}
use Rattle.joint_laws.proofs.Growing.{joint}
use Rattle.smbd_laws.proofs.Delivering.{server_delivers, client_delivers}
use Rattle.sim_adapter.specs.Rule.{Slot, Desk, Pair, Apart, together, Orderly}
use Rattle.sim_adapter.specs.Plays.{learned, met, FitTogether, AreMet}
use Rattle.sim_adapter.proofs.Casts.{inside, one_view, Opens, opens, closes}
use Rattle.sim_adapter.proofs.Opening.{at_not_last, together_at}

-- a seat with an end may leave the table with other views
stays_in : (k : Ends) (s : Desk) (id i : ℕ) (e : EndView) (o : Opens k s id e) (views : List View) → Apart views i e o.peer → Orderly k record { words = s.words; homes = s.homes; views = views }
stays_in k s id i e o views a = subst (λ (z : Ends). Orderly z record { words = s.words; homes = s.homes; views = views }) o.key (closes e.ends e.side i e o.peer s.words s.homes views a o.pair)

one_or_spent : (e : EndView) → One e ≡ Spent → ⊥
one_or_spent e is = cc

-- the view goes to a new seat
pub hands_over : (k : Ends) (id : ℕ) (e : EndView) → Splits (Orderly k) id (One e) Spent (One e)
hands_over k id e s r at = let o = opens k s id e r at in let a = o.seats in let l : List View = set s.views id Spent in let long : length l ≡ length s.views = length-set s.views id Spent in
    let low : a.j < length s.views = inside s.views a.j (One o.peer) a.there in
    stays_in k s id (length s.views) e o (l ++ One e ∷ []) record {
      j = a.j;
      apart = λ is. omega arith;
      here = at_last l (One e) (length s.views) long;
      there = at_longer l (One e ∷ []) a.j (One o.peer) (set_else s.views id a.j Spent a.apart ∙ a.there);
      others = λ n u here x y. let there = at_not_last l (One e) u n here (λ z. x (z ∙ long)) in dite (ℕ_discrete n id)
          (λ same. sym (one_view l id Spent u (set_here s.views id Spent (inside s.views id (One e) at)) (subst (λ (z : ℕ). get_elem? l z ≡ some u) same there)))
          (λ other. a.others n u (sym (set_else s.views id n Spent other) ∙ there) other y);
    }

-- a seat takes in the other end
pub unites : (k : Ends) (id other : ℕ) (c d : EndView) → c.side ≡ Client → Joins (Orderly k) id (One c) other (One d) (Both c d) Spent
unites k id other c d first s r at ne there = let o = opens k s id c r at in let a = o.seats in
    let here : get_elem? s.views other ≡ some (One d) = sym (set_else s.views id other (Both c d) ne) ∙ there in
    let place : other ≡ a.j = dite (ℕ_discrete other a.j) (λ e. e) (λ off. absurd (one_or_spent d (a.others other (One d) here ne off))) in
    let same : o.peer ≡ d = let v = one_view s.views a.j (One o.peer) (One d) a.there (subst (λ (z : ℕ). get_elem? s.views z ≡ some (One d)) place here) in cc in
    let l : List View = set s.views id (Both c d) in
    record {
      client = c;
      server = d;
      cast = together id (
        set_else l other id Spent (λ e. ne (sym e)) ∙ set_here s.views id (Both c d) (inside s.views id (One c) at),
        λ n u e x. dite (ℕ_discrete n other)
            (λ is. sym (one_view (set l other Spent) other Spent u (set_here l other Spent (inside l other (One d) there)) (subst (λ (z : ℕ). get_elem? (set l other Spent) z ≡ some u) is e)))
            (λ off. a.others n u (sym (set_else s.views id n (Both c d) x) ∙ (sym (set_else l other n Spent off) ∙ e)) x (λ z. off (z ∙ sym place))),
      );
      pair = subst (λ (z : Ends × EndId × EndView). Pair z.0 z.1 c z.2 s.words s.homes) (λ i. (o.key i, first i, same i)) o.pair;
    }

-- a spent seat takes an end back
pub takes_back : (k : Ends) (id other : ℕ) (d : EndView) → Joins (Orderly k) id Spent other (One d) (One d) Spent
takes_back k id other d s r at ne there =
    let here : get_elem? s.views other ≡ some (One d) = sym (set_else s.views id other (One d) ne) ∙ there in
    let o = opens k s other d r here in let a = o.seats in let l : List View = set s.views id (One d) in
    let off_id : a.j ≢ id = λ is. one_or_spent o.peer (one_view s.views id (One o.peer) Spent (subst (λ (z : ℕ). get_elem? s.views z ≡ some (One o.peer)) is a.there) at) in
    stays_in k s other id d o (set l other Spent) record {
      j = a.j;
      apart = off_id;
      here = set_else l other id Spent (λ e. ne (sym e)) ∙ set_here s.views id (One d) (inside s.views id Spent at);
      there = set_else l other a.j Spent a.apart ∙ (set_else s.views id a.j (One d) off_id ∙ a.there);
      others = λ n u e x y. dite (ℕ_discrete n other)
          (λ is. sym (one_view (set l other Spent) other Spent u (set_here l other Spent (inside l other (One d) there)) (subst (λ (z : ℕ). get_elem? (set l other Spent) z ≡ some u) is e)))
          (λ off. a.others n u (sym (set_else s.views id n (One d) x) ∙ (sym (set_else l other n Spent off) ∙ e)) off y);
    }

met_pair : (k : Ends) (c d : EndView) (ws : List ℕ) (hs : List (maybe.Option Slot)) → Pair k Client c d ws hs
    → Pair k Client (learned c (length (emitted_frames d.past))) (learned d (length (emitted_frames c.past))) ws hs
met_pair k c d ws hs p = record {
  mine = record {
    known = p.mine.known;
    beside = p.mine.beside;
    lies = p.mine.lies;
    next = p.mine.next;
    seen = le_refl (length (emitted_frames d.past));
    told = p.mine.told;
    short = p.mine.short;
  };
  theirs = record {
    known = p.theirs.known;
    beside = p.theirs.beside;
    lies = p.theirs.lies;
    next = p.theirs.next;
    seen = le_refl (length (emitted_frames c.past));
    told = p.theirs.told;
    short = p.theirs.short;
  };
  left = p.left;
  words_are = p.words_are;
  slots = p.slots;
}

-- the histories of both ends fit together
met_ends : (k : Ends) (c d : EndView) (ws : List ℕ) (hs : List (maybe.Option Slot)) → Pair k Client c d ws hs → AreMet c d
met_ends k c d ws hs p =
    let client = p.mine.known.2 in
    let server = p.theirs.known.2 in
    let j = joint k.client k.server c.past d.past client server (record { here = p.mine.beside; there = p.theirs.beside; left = p.left }) in
    record {
      ends = p.mine.known.1 ∙ sym p.theirs.known.1;
      fit = subst (λ (z : Ends). FitTogether z c.past d.past) (sym p.mine.known.1) (record {
        joint = j;
        to_server = server_delivers k.client k.server c.past d.past client server j.linked;
        to_client = client_delivers k.client k.server c.past d.past client server j.linked;
      });
      client_cut = p.mine.told;
      server_cut = p.theirs.told;
    }

-- the load of a meeting tells that the two pasts are joint
pub meets : (k : Ends) (slots id : ℕ) (c d : EndView) → Allows (Orderly k) slots id (Both c d, []) 0 (λ n. n) (met (step slots 0 0 0 none) (Both c d, []))
meets k slots id c d s r wide at small = let t = together_at s.views id c d r.client r.server r.cast at in
    let p : Pair k Client c d s.words s.homes = subst (λ (z : EndView × EndView). Pair k Client z.0 z.1 s.words s.homes) (λ i. (t.1 i, t.2 i)) r.pair in
    let c' : EndView = learned c (length (emitted_frames d.past)) in let d' : EndView = learned d (length (emitted_frames c.past)) in let low = inside s.views id (Both c d) at in (
      Both c' d',
      keeps,
      tt,
      subst (λ (ws : List ℕ). Orderly k record { words = ws; homes = s.homes; views = set s.views id (Both c' d') }) (sym (set-get_or s.words 0 0)) record {
        client = c';
        server = d';
        cast = together id (set_here s.views id (Both c' d') low, λ n u e x. t.0.1 n u (sym (set_else s.views id n (Both c' d') x) ∙ e) x);
        pair = met_pair k c d s.words s.homes p;
      },
      (
        refl,
        met_ends k c' d' s.words s.homes (met_pair k c d s.words s.homes p),
      ),
    )
