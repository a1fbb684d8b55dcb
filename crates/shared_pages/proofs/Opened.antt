-- The rule holds of a pool that is opened.
use Rattle.std.proofs.Common.{◌≡◌, ℕ, zero, suc, ◌<◌, ◌≤◌, [], ◌∷◌, length, sym, refl, ap, ◌∙◌, subst, arith, map}
use Rattle.std.specs.Prelude.{Some}
use Rattle.std.proofs.lemmas.List.{length-map, length-replicate}
use mathlib.Core.Option.{some, some-injective, some-ne-none}
use lib.ListN.{get_elem?, replicate}
use Rattle.atomic_table.specs.Table.{opening}
use Rattle.smbd_base.specs.Pages.{PageState, opened_page}
use Rattle.smbd_base.specs.PagesFit.{events_by}
use Rattle.shared_pages.specs.declared.view.Opening.{Opening}
use Rattle.shared_pages.specs.declared.view.View.{View}
use Rattle.shared_pages.specs.declared.view.View.TheVariants.{Rest}
use Rattle.shared_pages.specs.Rule.{Slot, Log, Ends, AllEnd, AllSeen, ViewFits, Kept}
use Rattle.shared_pages.proofs.Logs.{inside}
use Rattle.shared_pages.proofs.Pasts.{no-past}

no_lists : (n : ℕ) → AllEnd (replicate n []) (replicate n [])
no_lists zero = tt
no_lists (suc n) = (([], refl), no_lists n)

none_made : (k n : ℕ) → AllSeen k (replicate n []) (replicate n [])
none_made k zero = tt
none_made k (suc n) = (refl, none_made k n)

at_replicate : {A : Type 0} (n i : ℕ) (a : A) → i < n → get_elem? (replicate n a) i ≡ some a
at_replicate zero i a h = absurd (omega arith)
at_replicate (suc n) zero a h = refl
at_replicate (suc n) (suc i) a h = at_replicate n i a (omega arith)

of_replicate : {A : Type 0} (n i : ℕ) (a b : A) → get_elem? (replicate n a) i ≡ some b → a ≡ b
of_replicate zero i a b e = absurd (some-ne-none b (sym e))
of_replicate (suc n) zero a b e = some-injective a b e
of_replicate (suc n) (suc i) a b e = of_replicate n i a b e

home_at : (n i : ℕ) (a : Slot) → i < n → get_elem? (map some (replicate n a)) i ≡ some (some a)
home_at zero i a h = absurd (omega arith)
home_at (suc n) zero a h = refl
home_at (suc n) (suc i) a h = home_at n i a (omega arith)

only_view : (a u : View) (i : ℕ) → get_elem? (a ∷ []) i ≡ some u → (i ≡ 0) × (a ≡ u)
only_view a u zero e = (refl, some-injective a u e)
only_view a u (suc i) e = absurd (some-ne-none u (sym e))

-- every page is unloaded, its life is empty, and no pass was made
pub opens_well : (pool : Opening) → 1 ≤ pool.first → pool.seats ≤ Rattle.shared_pages.specs.Rule.most_passes → Kept pool (opening (replicate pool.pages 0) (replicate pool.pages (Some (opened_page pool.first))) (Rest 0 (replicate pool.pages [])))
opens_well pool least seats = let n = pool.pages in record {
  logs = replicate n [];
  least = least;
  seats = seats;
  words = length-replicate _ _;
  homes = length-map _ _ ∙ length-replicate _ _;
  all = length-replicate _ _;
  past = [];
  whole = no-past pool;
  parts = λ p l e. of_replicate n p [] l e;
  lawful = λ p l e. subst (λ (z : Log). Rattle.smbd_base.specs.Pages.IsPageLife pool.first p z) (of_replicate n p [] l e) tt;
  made = λ p l e. subst (λ (z : Log). Rattle.smbd_base.specs.PagesFit.AreMadeBy pool.seats z) (of_replicate n p [] l e) tt;
  few = λ k p l e. subst (λ (z : Log). length (Rattle.shared_pages.specs.Rule.made_by k z) ≤ Rattle.shared_pages.specs.Rule.most_events) (of_replicate n p [] l e) (omega arith);
  rests = λ p l e _.
      let low : p < n = let a = inside (replicate n []) p l e in let b : length (replicate {A = Log} n []) ≡ n = length-replicate _ _ in omega arith in
      subst (λ (z : Log). Rattle.shared_pages.specs.Rule.Rests (replicate n 0) (map some (replicate n (Some (opened_page pool.first)))) pool.first p z) (of_replicate n p [] l e)
      (record { counted = at_replicate n p 0 low; lies = home_at n p (Some (opened_page pool.first)) low });
  views = λ j u e. subst (ViewFits pool.seats (replicate n 0) (replicate n []) []) (only_view _ u j e).1 (
    no_lists n,
    (λ k _. none_made k n),
    (λ k _. record { parts = λ p l x. ap (events_by k) (of_replicate n p [] l x); within = tt }),
    (λ k _. refl),
    (λ p l x. subst (λ (z : Log). Ends z []) (of_replicate n p [] l x) ([], refl)),
  );
  apart = λ i j a b x y e. absurd (let h = (only_view _ _ i x).1 in cc);
  one_holder = λ i j a b p x y f g. absurd (let h = (only_view _ _ i x).1 in cc);
  below = λ i j k a lists x y. absurd (let h = (only_view _ _ i x).1 in cc);
  one_rest = λ i j k m lists others x y. (only_view _ _ i x).0 ∙ sym (only_view _ _ j y).0;
}
