-- Byte places and intervals.
use Rattle.std.proofs.Common.{◌≡◌, ◌↔◌, ℕ, ◌+◌, ◌-◌, ◌<◌, ◌≤◌, Bool, true, false, cond, IsTrue, List, length, get_or, take, count_by, ◌∙◌, ap, arith, ⊎_elim}
use Rattle.std.specs.List.Sorted.{IsNonDecreasingBy}
use Rattle.std.proofs.lemmas.Bool.{leb-true, ltb-true, le-leb, lt-ltb, and_parts, and_from, cases_lt, false_from_ne_true}
use Rattle.std.proofs.lemmas.List.Sums.{count_by_more_yes, count_by_more_no, sum_by-take-le}
use Rattle.std.proofs.lemmas.List.{get_or_default, take_all}
use Rattle.std.proofs.lemmas.List.Sorted.{sum_by-IsPermutation}
use Rattle.buffer_descriptor.specs.declared.descriptor.Descriptor.{Descriptor}
use Rattle.buffer_descriptor.specs.Descriptors.{IsSound, IsCovered, IsByOffset, AreDisjoint, names, place_after}

pub names_to : (x : ℕ) (d : Descriptor) → names x d ≡ true → (d.offset ≤ x) × (x < place_after d)
names_to x d e =
    let h = and_parts _ _ e in
    (leb-true d.offset x h.0, ltb-true x (place_after d) h.1)

pub names_from : (x : ℕ) (d : Descriptor) → d.offset ≤ x → x < place_after d → names x d ≡ true
names_from x d begins ends = and_from _ _ (le-leb d.offset x begins) (lt-ltb x (place_after d) ends)

pub names_not : (x : ℕ) (d : Descriptor) → (d.offset ≤ x → x < place_after d → ⊥) → names x d ≡ false
names_not x d out = false_from_ne_true (names x d) (λ e. let h = names_to x d e in out h.0 h.1)

-- a descriptor's interval lies in another just where each of its places does
pub covers_places : (b : Bool) (base len : ℕ) (d : Descriptor) → IsSound d → (IsTrue b ↔ IsCovered base len d)
    → (IsTrue b ↔ ((x : ℕ) → names x d ≡ true → (base ≤ x) × (x < base + len)))
covers_places b base len d sound ends = (
  (λ t x e.
      let c = ends.0 t in
      let h = names_to x d e in
      let begins = c.begins in let past = c.ends in
      (omega (arith, begins, h.0), omega (arith, past, h.1))),
  (λ inside.
      let some = sound.some in
      let first = inside d.offset (names_from d.offset d (omega arith) (omega arith)) in
      let last = inside (d.offset + d.length - 1) (names_from (d.offset + d.length - 1) d (omega arith) (omega arith)) in
      ends.1 (record { begins = first.0; ends = omega (arith, last.1) })),
)

-- What is known after so many descriptors in the order of their offsets, when no two of them meet; `last` is the last
-- of them that is not empty.
pub record IsScanned (list : List Descriptor) (done : ℕ) (last : Descriptor) : Type 0 where
  pub ahead : (k : ℕ) (d : Descriptor) → done ≤ k → k < length list → last.offset ≤ (get_or list k d).offset
  pub beyond : (x : ℕ) → place_after last ≤ x → count_by (names x) (take done list) ≡ 0
  pub single : (x : ℕ) → count_by (names x) (take done list) ≤ 1
  pub inside : (x : ℕ) → last.offset ≤ x → x < place_after last → count_by (names x) (take done list) ≡ 1

-- an empty descriptor changes nothing
pub IsScanned-skip : (list : List Descriptor) (i : ℕ) (d last : Descriptor) → i < length list → (get_or list i d).length ≡ 0
    → IsScanned list i last → IsScanned list (i + 1) last
IsScanned-skip list i d last below empty s =
    let same : (x : ℕ) → count_by (names x) (take (i + 1) list) ≡ count_by (names x) (take i list) =
    λ x. count_by_more_no (names x) list i d below (names_not x (get_or list i d) (λ a b. omega arith)) in
    record {
      ahead = λ k e later within. s.ahead k e (omega arith) within;
      beyond = λ x past. same x ∙ s.beyond x past;
      single = λ x. let h = s.single x in omega (arith, same x);
      inside = λ x a b. same x ∙ s.inside x a b;
    }

-- a descriptor that begins where the last one ends, or later, meets none of them
pub IsScanned-more : (list : List Descriptor) (i : ℕ) (d last : Descriptor) → IsNonDecreasingBy (λ (e : Descriptor). e.offset) list
    → i < length list → place_after last ≤ (get_or list i d).offset
    → IsScanned list i last → IsScanned list (i + 1) (get_or list i d)
IsScanned-more list i d last rising below apart s =
    let next = get_or list i d in
    let more : (x : ℕ) → names x next ≡ true → count_by (names x) (take (i + 1) list) ≡ count_by (names x) (take i list) + 1 =
    λ x e. count_by_more_yes (names x) list i d below e in
    let same : (x : ℕ) → names x next ≡ false → count_by (names x) (take (i + 1) list) ≡ count_by (names x) (take i list) =
    λ x e. count_by_more_no (names x) list i d below e in
    record {
      ahead = λ k e later within. omega (arith, rising i k e (omega arith) within, ap (λ (f : Descriptor). f.offset) (get_or_default list i d e below));
      beyond = λ x past. same x (names_not x next (λ a b. omega arith)) ∙ s.beyond x (omega arith);
      single = λ x. ⊎_elim
          (λ (before : x < next.offset). let h = s.single x in omega (arith, same x (names_not x next (λ a b. omega arith))))
          (λ (from : next.offset ≤ x). ⊎_elim
          (λ (within : x < place_after next). omega (arith, more x (names_from x next from within), s.beyond x (omega arith)))
          (λ (past : place_after next ≤ x). let h = s.single x in omega (arith, same x (names_not x next (λ a b. omega arith))))
          (cases_lt x (place_after next)))
          (cases_lt x next.offset);
      inside = λ x a b. omega (arith, more x (names_from x next a b), s.beyond x (omega arith));
    }

-- a descriptor that begins before the last one ends meets it
pub IsScanned-meets : (list : List Descriptor) (i : ℕ) (d last : Descriptor) → i < length list → 0 < (get_or list i d).length
    → (get_or list i d).offset < place_after last → IsScanned list i last → AreDisjoint list → ⊥
IsScanned-meets list i d last below some meets s apart =
    let next = get_or list i d in
    let x = next.offset in
    let more = count_by_more_yes (names x) list i d below (names_from x next (omega arith) (omega arith)) in
    let was = s.inside x (s.ahead i d (omega arith) below) meets in
    let whole = sum_by-take-le (λ (e : Descriptor). cond (names x e) 1 0) list (i + 1) in
    let one = apart x in
    omega arith

pub AreDisjoint-by_offset : (list by_offset : List Descriptor) → IsByOffset list by_offset → AreDisjoint by_offset ↔ AreDisjoint list
AreDisjoint-by_offset list by_offset o =
    let same : (x : ℕ) → count_by (names x) by_offset ≡ count_by (names x) list =
    λ x. sum_by-IsPermutation (λ (e : Descriptor). cond (names x e) 1 0) list by_offset o.same in
    ((λ h x. let one = h x in omega (arith, same x)), (λ h x. let one = h x in omega (arith, same x)))

pub IsScanned-all : (list : List Descriptor) (i : ℕ) (last : Descriptor) → length list ≤ i → IsScanned list i last → AreDisjoint list
IsScanned-all list i last all s x = rw (← take_all i list all) (s.single x)
