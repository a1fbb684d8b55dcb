-- Two passes meet: each takes in a copy of what the other has seen, and a load tells that one is an older part of the other.
use Rattle.std.proofs.Common.{◌≡◌, ◌≢◌, ℕ, zero, suc, ◌+◌, ◌<◌, List, [], ◌∷◌, ◌++◌, length, set, sym, refl, ap, ◌∙◌, subst, arith, le_refl, ⊎_elim, ◌⊎◌, inl, inr}
use mathlib.Core.Option.{some, none, some-injective, some-ne-none}
use lib.ListN.{get_elem?}
use lib.Seq.{set-get_or}
use Rattle.atomic_table.specs.Table.{State, step, keeps, Allows, Splits, Joins}
use Rattle.atomic_table.proofs.Lists.{at_set, set_again, at_snoc, set_else}
use Rattle.shared_pages.specs.declared.view.Opening.{Opening}
use Rattle.shared_pages.specs.declared.view.Hold.{Hold}
use Rattle.shared_pages.specs.declared.view.Hold.TheVariants.{Free}
use Rattle.shared_pages.specs.declared.view.Sight.{Sight}
use Rattle.shared_pages.specs.declared.view.View.{View}
use Rattle.shared_pages.specs.declared.view.View.TheVariants.{Spent, Rest, One, Copy}
use Rattle.shared_pages.specs.Rule.{Slot, Log, SightFits, ViewFits, IsHeld, Kept, learned, met, looked, new_sight}
use Rattle.shared_pages.proofs.Logs.{longest_fits}
use Rattle.shared_pages.proofs.Making.{knows}
use Rattle.shared_pages.proofs.Pasts.{past-meets, past-begins}
use Rattle.shared_pages.proofs.Holding.{reviewed, resighted, one_is, no_hold}

pub copies : (pool : Opening) (id : ℕ) (v : Sight) → Splits (Kept pool) id (One v) (One v) (Copy v.seen v.past)
copies pool id v s r at = subst (λ (l : List View). Kept pool record { words = s.words; homes = s.homes; views = l ++ Copy v.seen v.past ∷ [] }) (sym (set_again s.views id (One v) at))
    (reviewed pool s r (s.views ++ Copy v.seen v.past ∷ [])
    (λ j u x. ⊎_elim (r.views j u) (λ (e : Copy v.seen v.past ≡ u). subst (ViewFits pool.seats s.words r.logs r.past) e ((r.views id (One v) at).seen, (r.views id (One v) at).pasts.seen, (r.views id (One v) at).pasts.parts)) (at_snoc s.views (Copy v.seen v.past) u j x))
    (λ j a x. ⊎_elim (λ (y : get_elem? s.views j ≡ some (One a)). (a, y, refl, refl)) (λ (e : Copy v.seen v.past ≡ One a). absurd cc) (at_snoc s.views (Copy v.seen v.past) (One a) j x))
    (λ j k lists x. ⊎_elim (λ (y : get_elem? s.views j ≡ some (Rest k lists)). y) (λ (e : Copy v.seen v.past ≡ Rest k lists). absurd cc) (at_snoc s.views (Copy v.seen v.past) (Rest k lists) j x)))

spends : (pool : Opening) (s : State Slot View) (r : Kept pool s) (other : ℕ) → Kept pool record { words = s.words; homes = s.homes; views = set s.views other Spent }
spends pool s r other = reviewed pool s r (set s.views other Spent)
    (λ j u x. ⊎_elim (λ (t : (j ≡ other) × (Spent ≡ u)). subst (ViewFits pool.seats s.words r.logs r.past) t.1 tt) (λ (t : (j ≢ other) × (get_elem? s.views j ≡ some u)). r.views j u t.1) (at_set s.views other j Spent u x))
    (λ j a x. ⊎_elim (λ (t : (j ≡ other) × (Spent ≡ One a)). let e = t.1 in absurd cc) (λ (t : (j ≢ other) × (get_elem? s.views j ≡ some (One a))). (a, t.1, refl, refl)) (at_set s.views other j Spent (One a) x))
    (λ j k lists x. ⊎_elim (λ (t : (j ≡ other) × (Spent ≡ Rest k lists)). let e = t.1 in absurd cc) (λ (t : (j ≢ other) × (get_elem? s.views j ≡ some (Rest k lists))). t.1) (at_set s.views other j Spent (Rest k lists) x))

pub joins : (pool : Opening) (id other : ℕ) (v : Sight) (c : List Log) (past : Log) → Joins (Kept pool) id (One v) other (Copy c past) (One (record v { other_past = past; other = c })) Spent
joins pool id other v c past s r at ne there = let w : Sight = record v { other_past = past; other = c } in let mine = r.views id (One v) at in
    let here : get_elem? s.views other ≡ some (Copy c past) = sym (set_else s.views id other (One w) ne) ∙ there in
    let r' = resighted pool s r id v w at (record { among = mine.among; made = mine.made; pasts = record { seen = mine.pasts.seen; other = (r.views other (Copy c past) here).1; own = mine.pasts.own; list = mine.pasts.list; parts = mine.pasts.parts; other_parts = (r.views other (Copy c past) here).2 }; seen = mine.seen; other = (r.views other (Copy c past) here).0; own = mine.own; held = mine.held }) refl refl in
    spends pool record { words = s.words; homes = s.homes; views = set s.views id (One w) } r' other

-- a pass learns what the other has seen
pub meets : (pool : Opening) (slots id : ℕ) (v : Sight) → v.hold ≡ Free → Allows (Kept pool) slots id (One v, []) 0 (λ n. n) (met pool (step slots 0 0 0 none) (One v, []))
meets pool slots id v free s r wide at small =
    let mine = r.views id (One v) at in
    let f = longest_fits v.number v.seen v.other r.logs mine.seen mine.other mine.own in
    let w : Sight = learned v in
    let g = past-meets r.past v mine.pasts in
    let fits : SightFits pool.seats s.words r.logs r.past w = record {
      among = mine.among;
      made = mine.made;
      pasts = g.0;
      seen = f.0;
      other = mine.other;
      own = f.1;
      held = subst (λ (h : Hold). IsHeld h s.words w.seen r.logs) (sym free) tt;
    } in (
      One w,
      keeps,
      tt,
      subst (λ (ws : List ℕ). Kept pool record { words = ws; homes = s.homes; views = set s.views id (One w) }) (sym (set-get_or s.words 0 0))
          (resighted pool s r id v w at fits refl refl),
      (refl, f.2, knows pool s r w fits, g.1),
    )

-- a pass looks at the pool
pub looks : (pool : Opening) (slots id : ℕ) (v : Sight) → Allows (Kept pool) slots id (One v, []) 0 (λ n. n) (looked pool (step slots 0 0 0 none) (One v, []))
looks pool slots id v s r wide at small = let fits = r.views id (One v) at in (
  One v,
  keeps,
  tt,
  subst (λ (ws : List ℕ). Kept pool record { words = ws; homes = s.homes; views = set s.views id (One v) }) (sym (set-get_or s.words 0 0))
      (resighted pool s r id v v at fits refl refl),
  (refl, knows pool s r v fits),
)

last_or : (l : List View) (a u : View) (i : ℕ) → get_elem? (l ++ a ∷ []) i ≡ some u → ((i ≡ length l) × (a ≡ u)) ⊎ (get_elem? l i ≡ some u)
last_or [] a u zero e = inl (refl, some-injective a u e)
last_or [] a u (suc i) e = absurd (some-ne-none u (sym e))
last_or (x ∷ xs) a u zero e = inr e
last_or (x ∷ xs) a u (suc i) e = ⊎_elim (λ (t : (i ≡ length xs) × (a ≡ u)). inl (ap suc t.0, t.1)) (λ (t : get_elem? xs i ≡ some u). inr t) (last_or xs a u i e)

same_right : (k m : ℕ) (lists others : List Log) → Rest k lists ≡ Rest m others → k ≡ m
same_right k m lists others e = cc

-- who has the right to make passes makes one
module _ (pool : Opening) (id k : ℕ) (lists : List Log) (s : State Slot View) (r : Kept pool s) (at : get_elem? s.views id ≡ some (Rest k lists)) (room : k < pool.seats) where
  abbrev rights : List View
  rights = set s.views id (Rest (k + 1) lists)

  abbrev made : Sight
  made = new_sight k lists

  abbrev now : List View
  now = rights ++ One made ∷ []

  one_then : (j : ℕ) (a : Sight) → get_elem? now j ≡ some (One a) → ((j ≡ length rights) × (made ≡ a)) ⊎ (get_elem? s.views j ≡ some (One a))
  one_then j a x = ⊎_elim (λ (t : (j ≡ length rights) × (One made ≡ One a)). inl (t.0, one_is made a t.1))
      (λ (t : get_elem? rights j ≡ some (One a)). inr (⊎_elim (λ (u : (j ≡ id) × (Rest (k + 1) lists ≡ One a)). let e = u.1 in absurd cc) (λ (u : (j ≢ id) × (get_elem? s.views j ≡ some (One a))). u.1)
      (at_set s.views id j (Rest (k + 1) lists) (One a) t)))
      (last_or rights (One made) (One a) j x)

  right_then : (j m : ℕ) (others : List Log) → get_elem? now j ≡ some (Rest m others) → (j ≡ id) × (k + 1 ≡ m)
  right_then j m others x = ⊎_elim (λ (t : (j ≡ length rights) × (One made ≡ Rest m others)). let e = t.1 in absurd cc)
      (λ (t : get_elem? rights j ≡ some (Rest m others)). ⊎_elim (λ (u : (j ≡ id) × (Rest (k + 1) lists ≡ Rest m others)). (u.0, same_right (k + 1) m lists others u.1))
      (λ (u : (j ≢ id) × (get_elem? s.views j ≡ some (Rest m others))). absurd (u.0 (r.one_rest j id m k others lists u.1 at)))
      (at_set s.views id j (Rest (k + 1) lists) (Rest m others) t))
      (last_or rights (One made) (Rest m others) j x)

  less : (j : ℕ) (a : Sight) → get_elem? s.views j ≡ some (One a) → a.number < k
  less j a x = r.below j id k a lists x at

  makes : Kept pool record { words = s.words; homes = s.homes; views = now }
  makes = let mine = r.views id (Rest k lists) at in record {
    logs = r.logs;
    least = r.least;
    seats = r.seats;
    words = r.words;
    homes = r.homes;
    all = r.all;
    past = r.past;
    whole = r.whole;
    parts = r.parts;
    lawful = r.lawful;
    made = r.made;
    few = r.few;
    rests = r.rests;
    views = λ j u x. ⊎_elim
        (λ (t : (j ≡ length rights) × (One made ≡ u)). subst (ViewFits pool.seats s.words r.logs r.past) t.1 record { among = room; made = mine.2 k (le_refl k); pasts = past-begins r.past k lists (mine.3 k (le_refl k)) mine.4; seen = mine.0; other = mine.0; own = mine.1 k (le_refl k); held = tt })
        (λ (t : get_elem? rights j ≡ some u). ⊎_elim
        (λ (w : (j ≡ id) × (Rest (k + 1) lists ≡ u)). subst (ViewFits pool.seats s.words r.logs r.past) w.1 (mine.0, (λ n more. mine.1 n (omega arith)), (λ n more. mine.2 n (omega arith)), (λ n more. mine.3 n (omega arith)), mine.4))
        (λ (w : (j ≢ id) × (get_elem? s.views j ≡ some u)). r.views j u w.1)
        (at_set s.views id j (Rest (k + 1) lists) u t))
        (last_or rights (One made) u j x);
    apart = λ i j a b x y e. ⊎_elim
        (λ (t : (i ≡ length rights) × (made ≡ a)). ⊎_elim
        (λ (u : (j ≡ length rights) × (made ≡ b)). t.0 ∙ sym u.0)
        (λ (u : get_elem? s.views j ≡ some (One b)). let l = less j b u in let f = ap (λ (z : Sight). z.number) t.1 in absurd (omega arith))
        (one_then j b y))
        (λ (t : get_elem? s.views i ≡ some (One a)). ⊎_elim
        (λ (u : (j ≡ length rights) × (made ≡ b)). let l = less i a t in let f = ap (λ (z : Sight). z.number) u.1 in absurd (omega arith))
        (λ (u : get_elem? s.views j ≡ some (One b)). r.apart i j a b t u e)
        (one_then j b y))
        (one_then i a x);
    one_holder = λ i j a b p x y f g. ⊎_elim
        (λ (t : (i ≡ length rights) × (made ≡ a)). absurd (no_hold p (ap (λ (z : Sight). z.hold) t.1 ∙ f)))
        (λ (t : get_elem? s.views i ≡ some (One a)). ⊎_elim
        (λ (u : (j ≡ length rights) × (made ≡ b)). absurd (no_hold p (ap (λ (z : Sight). z.hold) u.1 ∙ g)))
        (λ (u : get_elem? s.views j ≡ some (One b)). r.one_holder i j a b p t u f g)
        (one_then j b y))
        (one_then i a x);
    below = λ i j m a others x y. let d = right_then j m others y in let e = d.1 in ⊎_elim
        (λ (t : (i ≡ length rights) × (made ≡ a)). let f = ap (λ (z : Sight). z.number) t.1 in omega arith)
        (λ (t : get_elem? s.views i ≡ some (One a)). let l = less i a t in omega arith)
        (one_then i a x);
    one_rest = λ i j m n others more x y. (right_then i m others x).0 ∙ sym (right_then j n more y).0;
  }

pub makes_pass : (pool : Opening) (id k : ℕ) (lists : List Log) → k < pool.seats → Splits (Kept pool) id (Rest k lists) (Rest (k + 1) lists) (One (new_sight k lists))
makes_pass pool id k lists room s r at = makes pool id k lists s r at room
