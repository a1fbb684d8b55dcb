-- The table at the start.
use Rattle.std.proofs.Common.{◌≡◌, ◌≢◌, ℕ, zero, suc, ◌+◌, ◌%◌, ◌<◌, List, [], ◌∷◌, ◌++◌, length, map, set, lit<, sym, refl, ap, ◌∙◌, subst, arith, mod-lt, zero-add, length-set}
use Rattle.std.proofs.lemmas.List.{length-map, length-replicate}
use mathlib.Core.Logic.{dite}
use native.Mathlib.Decide.{ℕ_discrete}
use Rattle.std.specs.Prelude.{None}
use mathlib.Core.Option.{some, some-ne-none}
use lib.ListN.{get_elem?, replicate}
use Rattle.atomic_table.specs.Table.{opening, Splits}
use Rattle.atomic_table.proofs.Lists.{set_else, set_here, at_longer, at_last}
use Rattle.smbd_base.specs.declared.end_id.EndId.{EndId}
use Rattle.smbd_base.specs.declared.end_id.EndId.TheVariants.{Client, Server}
use Rattle.sim_adapter.specs.declared.view.Ends.{Ends}
use Rattle.sim_adapter.specs.declared.view.EndView.{EndView}
use Rattle.sim_adapter.specs.declared.view.View.{View}
use Rattle.sim_adapter.specs.declared.view.View.TheVariants.{Spent, One, Both}
use Rattle.smbd_base.specs.Limits.{IsLawful}
use Rattle.smbd_base.specs.Counts.{peer_of}
use Rattle.joint_laws.proofs.Accounts.{peer-peer}
use Rattle.joint_laws.proofs.Growing.{opened_beside}
use Rattle.sim_adapter.specs.Rule.{Half, Pair, Alone, Cast, apart, together, Orderly, opened, opening_view, room, base, limits_of}
use Rattle.sim_adapter.proofs.Lanes.{in_lane, replicate_at}
use Rattle.sim_adapter.proofs.Casts.{inside, one_view}

lawful_of : (k : Ends) (side : EndId) → IsLawful k.client → IsLawful k.server → IsLawful (limits_of k side)
lawful_of k Client lawful lawful' = lawful
lawful_of k Server lawful lawful' = lawful'

-- an end has a slot at least
pub some_room : (k : Ends) (side : EndId) → IsLawful (limits_of k (peer_of side)) → 0 < room k side
some_room k side lawful = omega (arith, lawful.credits.0)

-- and its peer
pub peer_room : (k : Ends) (side : EndId) → IsLawful (limits_of k side) → 0 < room k (peer_of side)
peer_room k side lawful = some_room k (peer_of side) (subst (λ (x : EndId). IsLawful (limits_of k x)) (sym (peer-peer side)) lawful)

opened_half : (k : Ends) (side : EndId) → IsLawful k.client → IsLawful k.server
    → Half k side (opened k side) (opened k (peer_of side)) (map some (replicate (k.client.credits + k.server.credits) None))
opened_half k side lawful lawful' = record {
  known = (refl, refl, lawful_of k side lawful lawful');
  beside = opened_beside side (limits_of k side) (limits_of k (peer_of side));
  lies = λ i c d _ _. replicate_at (k.client.credits + k.server.credits) (base k side + i % room k side) None
      (omega (arith, mod-lt i (some_room k side (lawful_of k (peer_of side) lawful lawful')), in_lane k side));
  next = tt;
  seen = omega arith;
  told = λ e. absurd cc;
  short = lit< tt;
}

pub opens_well : (k : Ends) → IsLawful k.client → IsLawful k.server
    → Orderly k (opening (0 ∷ k.client.credits ∷ 0 ∷ 0 ∷ k.server.credits ∷ 0 ∷ 0 ∷ []) (replicate (k.client.credits + k.server.credits) None) (opening_view k))
opens_well k lawful lawful' = record {
  client = opened k Client;
  server = opened k Server;
  cast = together 0 (refl, λ j u at ne. alone j u at ne);
  pair = record {
    mine = opened_half k Client lawful lawful';
    theirs = opened_half k Server lawful lawful';
    left = omega arith;
    words_are = λ i. 0 ∷ sym (zero-add k.client.credits) i ∷ 0 ∷ 0 ∷ sym (zero-add k.server.credits) i ∷ 0 ∷ 0 ∷ [];
    slots = length-map _ _ ∙ length-replicate _ _;
  };
}
  where
    alone : (j : ℕ) (u : View) → get_elem? (opening_view k ∷ []) j ≡ some u → j ≢ 0 → u ≡ Spent
    alone zero u at ne = absurd (ne refl)
    alone (suc j) u at ne = absurd (some-ne-none u (sym at))

both_ends : (c d e f : EndView) → Both c d ≡ Both e f → (c ≡ e) × (d ≡ f)
both_ends c d e f is = (cc, cc)

pub at_not_last : {A : Type 0} (l : List A) (a b : A) (j : ℕ) → get_elem? (l ++ a ∷ []) j ≡ some b → j ≢ length l → get_elem? l j ≡ some b
at_not_last [] a b zero e ne = absurd (ne refl)
at_not_last [] a b (suc j) e ne = absurd (some-ne-none b (sym e))
at_not_last (x ∷ xs) a b zero e ne = e
at_not_last (x ∷ xs) a b (suc j) e ne = at_not_last xs a b j e (λ is. ne (ap suc is))

-- the seat with both ends is alone
pub together_at : (views : List View) (id : ℕ) (c d c' d' : EndView) → Cast views c' d' → get_elem? views id ≡ some (Both c d) → Alone views id (Both c d) × (c' ≡ c) × (d' ≡ d)
together_at views id c d c' d' (apart i a) at = dite (ℕ_discrete id i)
    (λ is. let same = one_view views i (One c') (Both c d) a.here (subst (λ (z : ℕ). get_elem? views z ≡ some (Both c d)) is at) in absurd cc)
    (λ ne. dite (ℕ_discrete id a.j)
    (λ is. let same = one_view views a.j (One d') (Both c d) a.there (subst (λ (z : ℕ). get_elem? views z ≡ some (Both c d)) is at) in absurd cc)
    (λ off. let spent = a.others id (Both c d) at ne off in absurd cc))
together_at views id c d c' d' (together i a) at = dite (ℕ_discrete id i)
    (λ is. let same = one_view views i (Both c' d') (Both c d) a.0 (subst (λ (z : ℕ). get_elem? views z ≡ some (Both c d)) is at) in
    ((at, λ j u x y. a.1 j u x (λ e. y (e ∙ sym is))), (both_ends c' d' c d same).0, (both_ends c' d' c d same).1))
    (λ ne. let spent = a.1 id (Both c d) at ne in absurd cc)

-- both ends of one seat become two seats
pub parts : (k : Ends) (id : ℕ) (c d : EndView) → Splits (Orderly k) id (Both c d) (One c) (One d)
parts k id c d s r at = let t = together_at s.views id c d r.client r.server r.cast at in let n : length (set s.views id (One c)) ≡ length s.views = length-set s.views id (One c) in
    let low : id < length s.views = inside s.views id (Both c d) at in record {
      client = c;
      server = d;
      cast = apart id record {
        j = length s.views;
        apart = λ e. omega arith;
        here = at_longer (set s.views id (One c)) (One d ∷ []) id (One c) (set_here s.views id (One c) low);
        there = at_last (set s.views id (One c)) (One d) (length s.views) n;
        others = λ j u e x y. t.0.1 j u (sym (set_else s.views id j (One c) x) ∙ at_not_last (set s.views id (One c)) (One d) u j e (λ z. y (z ∙ n))) x;
      };
      pair = subst (λ (z : EndView × EndView). Pair k Client z.0 z.1 s.words s.homes) (λ i. (t.1 i, t.2 i)) r.pair;
    }
