-- The slots of one direction, as a turn takes one out and gives it back.
use Rattle.std.proofs.Common.{◌≡◌, ◌≢◌, ℕ, zero, suc, ◌+◌, ◌%◌, ◌<◌, ◌≤◌, Bool, true, false, List, [], ◌∷◌, ◌++◌, map, length, set, sym, refl, ap, ◌∙◌, subst, arith, le_refl}
use Rattle.std.specs.Prelude.{Some, None}
use Rattle.std.specs.List.{slice_get}
use Rattle.std.proofs.lemmas.Option.{slice_get_past}
use mathlib.Core.Option.{some, none}
use mathlib.Core.Option as maybe
use mathlib.Core.Logic.{dite}
use native.Mathlib.Decide.{dec_le, ℕ_discrete}
use native.Mathlib.Nat.{add-mod_right}
use lib.ListN.{get_elem?, replicate}
use Rattle.atomic_table.proofs.Lists.{set_here, set_else, one_turn}
use Rattle.smbd_base.specs.declared.end_id.EndId.{EndId}
use Rattle.smbd_base.specs.declared.end_id.EndId.TheVariants.{Client, Server}
use Rattle.smbd_base.specs.Counts.{peer_of}
use Rattle.sim_adapter.specs.declared.view.Ends.{Ends}
use Rattle.sim_adapter.specs.Rule.{Slot, Lies, base, room}

pub replicate_at : {A : Type 0} (n i : ℕ) (a : A) → i < n → get_elem? (map some (replicate n a)) i ≡ some (some a)
replicate_at zero i a h = absurd (omega arith)
replicate_at (suc n) zero a h = refl
replicate_at (suc n) (suc i) a h = replicate_at n i a (omega arith)

pub get_last : {A : Type 0} (xs : List A) (x : A) → slice_get (xs ++ x ∷ []) (length xs) ≡ Some x
get_last [] x = refl
get_last (y ∷ ys) x = get_last ys x

pub get_not_last : {A : Type 0} (xs : List A) (x : A) (i : ℕ) → i ≢ length xs → slice_get (xs ++ x ∷ []) i ≡ slice_get xs i
get_not_last [] x zero ne = absurd (ne refl)
get_not_last [] x (suc i) ne = refl
get_not_last (y ∷ ys) x zero ne = refl
get_not_last (y ∷ ys) x (suc i) ne = get_not_last ys x i (λ e. ne (ap suc e))

pub get_within : {A : Type 0} (xs : List A) (i : ℕ) → i < length xs → (x : A) × (slice_get xs i ≡ Some x)
get_within [] i h = absurd (omega arith)
get_within (x ∷ xs) zero h = (x, refl)
get_within (x ∷ xs) (suc i) h = get_within xs i (omega arith)

apart_places : (first n gone i j : ℕ) → gone ≤ i → i < gone + n → gone ≤ j → j < gone + n → i ≢ j → first + i % n ≢ first + j % n
apart_places first n gone i j a b c d ne e = let m : i % n ≡ j % n = omega arith in
    ne (dite (dec_le i j) (λ l. one_turn i j n l (omega arith) m) (λ g. sym (one_turn j i n (omega arith) (omega arith) (sym m))))

module _ (first n : ℕ) (hs : List (maybe.Option Slot)) (fs : List (List ℕ)) (gone : ℕ) where
  pub back_is_empty : (front : Bool) → Lies first n hs fs gone false front → gone ≤ length fs → length fs < gone + n → (front ≡ true → gone < length fs)
      → get_elem? hs (first + length fs % n) ≡ some (some None)
  back_is_empty front lies a b c = lies (length fs) a b (λ e. absurd cc) (λ t. let l = c t in λ e. omega arith) ∙ ap (λ (x : Slot). some (some x)) (slice_get_past fs (length fs) (le_refl (length fs)))

  pub lends_back : (front : Bool) (x : maybe.Option Slot) → Lies first n hs fs gone false front → gone ≤ length fs → length fs < gone + n → Lies first n (set hs (first + length fs % n) x) fs gone true front
  lends_back front x lies a b i c d e f =
      set_else hs (first + length fs % n) (first + i % n) x (apart_places first n gone i (length fs) c d a b (e refl)) ∙ lies i c d (λ t. absurd cc) f

  pub returns_back : (front : Bool) (f : List ℕ) → Lies first n hs fs gone true front → gone ≤ length fs → length fs < gone + n → first + length fs % n < length hs
      → Lies first n (set hs (first + length fs % n) (some (Some f))) (fs ++ f ∷ []) gone false front
  returns_back front f lies a b inside i c d e g = dite (ℕ_discrete i (length fs))
      (λ is. subst (λ (z : ℕ). get_elem? (set hs (first + length fs % n) (some (Some f))) (first + z % n) ≡ some (some (slice_get (fs ++ f ∷ []) z))) (sym is)
      (set_here hs (first + length fs % n) (some (Some f)) inside ∙ ap (λ (x : Slot). some (some x)) (sym (get_last fs f))))
      (λ ne. set_else hs (first + length fs % n) (first + i % n) (some (Some f)) (apart_places first n gone i (length fs) c d a b ne)
      ∙ (lies i c d (λ _. ne) g ∙ ap (λ (x : Slot). some (some x)) (sym (get_not_last fs f i ne))))

  pub front_is : (back : Bool) → Lies first n hs fs gone back false → gone < length fs → 0 < n → get_elem? hs (first + gone % n) ≡ some (some (slice_get fs gone))
  front_is back lies a b = lies gone (le_refl gone) (omega arith) (λ _ e. omega arith) (λ t. absurd cc)

  pub lends_front : (back : Bool) (x : maybe.Option Slot) → Lies first n hs fs gone back false → 0 < n → Lies first n (set hs (first + gone % n) x) fs gone back true
  lends_front back x lies some_room i c d e f =
      set_else hs (first + gone % n) (first + i % n) x (apart_places first n gone i gone c d (le_refl gone) (omega arith) (f refl)) ∙ lies i c d e (λ t. absurd cc)

  pub returns_front : (back : Bool) → Lies first n hs fs gone back true → 0 < n → length fs ≤ gone + n → first + gone % n < length hs
      → Lies first n (set hs (first + gone % n) (some None)) fs (gone + 1) back false
  returns_front back lies some_room few inside i c d e g = dite (ℕ_discrete i (gone + n))
      (λ is. subst (λ (z : ℕ). get_elem? (set hs (first + gone % n) (some None)) (first + z % n) ≡ some (some (slice_get fs z))) (sym is)
      (let turn : first + (gone + n) % n ≡ first + gone % n = ap (λ (z : ℕ). first + z) (add-mod_right gone n) in
      ap (λ (z : ℕ). get_elem? (set hs (first + gone % n) (some None)) z) turn ∙ (set_here hs (first + gone % n) (some None) inside
      ∙ ap (λ (x : Slot). some (some x)) (sym (slice_get_past fs (gone + n) few)))))
      (λ ne. set_else hs (first + gone % n) (first + i % n) (some None) (apart_places first n gone i gone (omega arith) (omega arith) (le_refl gone) (omega arith) (λ e. omega arith))
      ∙ lies i (omega arith) (omega arith) e (λ _ e. omega arith))

  -- a slot of the other direction
  pub elsewhere : (back front : Bool) (q : ℕ) (x : maybe.Option Slot) → Lies first n hs fs gone back front → 0 < n → ((z : ℕ) → z < n → q ≢ first + z) → Lies first n (set hs q x) fs gone back front
  elsewhere back front q x lies some_room off i c d e f = set_else hs q (first + i % n) x (λ e. off (i % n) (omega arith) (sym e)) ∙ lies i c d e f

pub in_lane : (k : Ends) (side : EndId) → base k side + room k side ≤ k.client.credits + k.server.credits
in_lane k Client = omega arith
in_lane k Server = omega arith

-- a slot of one direction is none of the other
pub off_lane : (k : Ends) (side : EndId) (x : ℕ) → x < room k side → (z : ℕ) → z < room k (peer_of side) → base k side + x ≢ base k (peer_of side) + z
off_lane k Client x a z b e = omega arith
off_lane k Server x a z b e = omega arith
