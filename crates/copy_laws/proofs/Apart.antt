-- The tokens that the WRITEs of a put name differ from one another.
use Rattle.std.proofs.Common.{◌≡◌, ◌⊎◌, inl, inr, ℕ, ◌+◌, ◌-◌, ◌*◌, ◌/◌, ◌%◌, ◌<◌, ◌≤◌, ◌==◌, Bool, true, false, List, [], ◌∷◌, ◌++◌, length, map, refl, sym, ap, ◌∙◌, arith}
use Rattle.std.specs.List.{flat_map}
use Rattle.std.proofs.lemmas.Nat.{mod_below, div-add-mod'}
use Rattle.std.proofs.lemmas.Bool.{cases_eq}
use Rattle.std.proofs.lemmas.Bool.Decides.{nat_tests}
use Rattle.std.proofs.lemmas.Grind.{flat_map-append}
use Rattle.smbd_base.specs.Tokens.{number_of}
use Rattle.buffer_descriptor.specs.declared.descriptor.Descriptor.{Descriptor}
use Rattle.file_messages.specs.declared.kind.Channel.TheVariants as channels
use Rattle.file_messages.specs.declared.job.Work.{Work}
use Rattle.file_messages.specs.declared.job.Work.TheVariants.{Load, Fetch, Place, Unload}
use Rattle.file_messages.specs.Runs.{page_of, turn_of, pages_of, descriptors_from, writes_from, end_request, end_if}
use Rattle.file_pasts.specs.Groups.{AreShort}
use Rattle.file_pasts.specs.InStep.{one_if, count}
use Rattle.file_pasts.specs.ServerLaws.{jobs_needed}
use Rattle.file_pasts.proofs.InStep.{count-append}
use Rattle.file_pasts.proofs.Naming.{few_pages}

-- a Fetch under the token of this number
abbrev pub fetches : ℕ → Work → Bool
fetches n (Load page r bytes) = false
fetches n (Fetch d) = d.token == n
fetches n (Place d bytes) = false
fetches n (Unload t) = false

-- the number of the token of the i-th part of the k-th group
abbrev number : ℕ → ℕ → ℕ → ℕ
number w k i = number_of (record { page = page_of w k i; generation = turn_of w k + 1 })

abbrev jobs_for_parts : ℕ → ℕ → ℕ → List (List ℕ) → List Work
jobs_for_parts w k i parts = map (λ (d : Descriptor). Fetch d) (descriptors_from w k i parts)

count-yes : (n m : ℕ) (works : List Work) (len offset : ℕ) → m ≡ n → count (fetches n) (Fetch (record { offset = offset; token = m; length = len }) ∷ works) ≡ 1 + count (fetches n) works
unfolding count one_if
count-yes n m works len offset e = ap (λ (t : Bool). one_if t + count (fetches n) works) (let z : (m == n) ≡ true = grind (arith, nat_tests) in z)

count-no : (n m : ℕ) (works : List Work) (len offset : ℕ) → (m ≡ n → ⊥) → count (fetches n) (Fetch (record { offset = offset; token = m; length = len }) ∷ works) ≡ count (fetches n) works
unfolding count one_if
count-no n m works len offset e =
    ap (λ (t : Bool). one_if t + count (fetches n) works) (unequal m n e) ∙ (let z : 0 + count (fetches n) works ≡ count (fetches n) works = omega arith in z)
  where
    unequal : (a b : ℕ) → (a ≡ b → ⊥) → (a == b) ≡ false
    unequal a b h = by_test (a == b) refl where
      by_test : (t : Bool) → (a == b) ≡ t → t ≡ false
      by_test true is = absurd (h (let z : a ≡ b = grind (arith, nat_tests) in z))
      by_test false is = refl

module _ (w : ℕ) (some : 0 < w) (few : w ≤ 16) where
  -- parts of one number are of one group, and the same part
  same-group : (k i m j : ℕ) → i < 16 → j < 16 → number w k i ≡ number w m j → k - 1 ≡ m - 1
  same-group k i m j below also e =
      let a = mod_below (k - 1) w some in
      let b = mod_below (m - 1) w some in
      let turns : (k - 1) / w ≡ (m - 1) / w = omega (arith, a, b, few, below, also, e) in
      let places : (k - 1) % w ≡ (m - 1) % w = omega (arith, a, b, few, below, also, e) in
      sym (div-add-mod' (k - 1) w) ∙ ap (λ (q : ℕ). q * w + (k - 1) % w) turns ∙ ap (λ (r : ℕ). (m - 1) / w * w + r) places ∙ div-add-mod' (m - 1) w

  same-part : (k i m j : ℕ) → i < 16 → j < 16 → number w k i ≡ number w m j → i ≡ j
  same-part k i m j below also e =
      let a = mod_below (k - 1) w some in
      let b = mod_below (m - 1) w some in
      omega (arith, a, b, few, below, also, e)

  -- no part from a place on has the number of an earlier one
  none-after : (k i j n : ℕ) (parts : List (List ℕ)) → number w k j ≡ n → j < i → i + length parts ≤ 16 → count (fetches n) (jobs_for_parts w k i parts) ≡ 0
  unfolding count
  none-after k i j n [] e less fits = refl
  none-after k i j n (part ∷ parts) e less fits =
      count-no n (number w k i) (jobs_for_parts w k (i + 1) parts) (length part) (page_of w k i * 4096)
      (λ (same : number w k i ≡ n). let z : i ≡ j = same-part k i k j (omega (arith, fits)) (omega (arith, fits, less)) (same ∙ sym e) in omega (arith, z, less))
      ∙ none-after k (i + 1) j n parts e (omega (arith, less)) (omega (arith, fits))

  -- and none of a group that of a part of another
  none-other : (k i m j n : ℕ) (parts : List (List ℕ)) → number w m j ≡ n → j < 16 → (k - 1 ≡ m - 1 → ⊥) → i + length parts ≤ 16 → count (fetches n) (jobs_for_parts w k i parts) ≡ 0
  unfolding count
  none-other k i m j n [] e below apart fits = refl
  none-other k i m j n (part ∷ parts) e below apart fits =
      count-no n (number w k i) (jobs_for_parts w k (i + 1) parts) (length part) (page_of w k i * 4096)
      (λ (same : number w k i ≡ n). apart (same-group k i m j (omega (arith, fits)) below (same ∙ sym e)))
      ∙ none-other k (i + 1) m j n parts e below apart (omega (arith, fits))

  -- a group has none of the number, or one, whose part is known
  pub record HasOne (k n count_is : ℕ) : Type 0 where
    place : ℕ
    below : place < 16
    is : number w k place ≡ n
    once : count_is ≡ 1

  one-or-none : (k i n : ℕ) (parts : List (List ℕ)) → i + length parts ≤ 16 → (count (fetches n) (jobs_for_parts w k i parts) ≡ 0) ⊎ HasOne k n (count (fetches n) (jobs_for_parts w k i parts))
  unfolding count
  one-or-none k i n [] fits = inl refl
  one-or-none k i n (part ∷ parts) fits = by_test (cases_eq (number w k i) n) (one-or-none k (i + 1) n parts (omega (arith, fits))) where
    here : ℕ
    here = count (fetches n) (jobs_for_parts w k i (part ∷ parts))

    by_test : (number w k i ≡ n) ⊎ (number w k i ≡ n → ⊥) → (count (fetches n) (jobs_for_parts w k (i + 1) parts) ≡ 0) ⊎ HasOne k n (count (fetches n) (jobs_for_parts w k (i + 1) parts))
        → (here ≡ 0) ⊎ HasOne k n here
    by_test (inl same) later =
        let none = none-after k (i + 1) i n parts same (omega arith) (omega (arith, fits)) in
        let yes = count-yes n (number w k i) (jobs_for_parts w k (i + 1) parts) (length part) (page_of w k i * 4096) same in
        inr (record { place = i; below = omega (arith, fits); is = same; once = yes ∙ (let z : 1 + count (fetches n) (jobs_for_parts w k (i + 1) parts) ≡ 1 = omega (arith, none) in z) })
    by_test (inr other) (inl none) = inl (count-no n (number w k i) (jobs_for_parts w k (i + 1) parts) (length part) (page_of w k i * 4096) other ∙ none)
    by_test (inr other) (inr found) =
        inr (record {
          place = found.place;
          below = found.below;
          is = found.is;
          once = count-no n (number w k i) (jobs_for_parts w k (i + 1) parts) (length part) (page_of w k i * 4096) other ∙ found.once;
        })

  -- ---- the jobs of all WRITEs

  abbrev works_from : List ℕ → ℕ → ℕ → List (List ℕ) → List Work
  works_from bytes k offset groups = flat_map (jobs_needed bytes) (writes_from channels.V1 w k offset groups)

  works-first : (bytes : List ℕ) (k offset n : ℕ) (g : List ℕ) (gs : List (List ℕ))
      → count (fetches n) (works_from bytes k offset (g ∷ gs)) ≡ count (fetches n) (jobs_for_parts w k 0 (pages_of g)) + count (fetches n) (works_from bytes (k + 1) (offset + length g) gs)
  works-first bytes k offset n g gs = count-append (fetches n) (jobs_for_parts w k 0 (pages_of g)) (works_from bytes (k + 1) (offset + length g) gs)

  none-later : (bytes : List ℕ) (k offset m j n : ℕ) (groups : List (List ℕ)) → AreShort groups → number w m j ≡ n → j < 16 → 1 ≤ m → m < k → count (fetches n) (works_from bytes k offset groups) ≡ 0
  unfolding count
  none-later bytes k offset m j n [] short e below first less = refl
  none-later bytes k offset m j n (g ∷ gs) short e below first less =
      let fits = few_pages g short.0 in
      let here = none-other k 0 m j n (pages_of g) e below (λ same. omega (arith, same, first, less)) (omega (arith, fits)) in
      let later = none-later bytes (k + 1) (offset + length g) m j n gs short.1 e below first (omega (arith, less)) in
      works-first bytes k offset n g gs ∙ (let z : count (fetches n) (jobs_for_parts w k 0 (pages_of g)) + count (fetches n) (works_from bytes (k + 1) (offset + length g) gs) ≡ 0 = omega (arith, here, later) in z)

  once-from : (bytes : List ℕ) (k offset n : ℕ) (groups : List (List ℕ)) → AreShort groups → 1 ≤ k → count (fetches n) (works_from bytes k offset groups) ≤ 1
  unfolding count
  once-from bytes k offset n [] short first = omega arith
  once-from bytes k offset n (g ∷ gs) short first =
      let fits = few_pages g short.0 in
      by_case (one-or-none k 0 n (pages_of g) (omega (arith, fits))) (once-from bytes (k + 1) (offset + length g) n gs short.1 (omega arith))
    where
      both : count (fetches n) (works_from bytes k offset (g ∷ gs)) ≡ count (fetches n) (jobs_for_parts w k 0 (pages_of g)) + count (fetches n) (works_from bytes (k + 1) (offset + length g) gs)
      both = works-first bytes k offset n g gs

      by_case : (count (fetches n) (jobs_for_parts w k 0 (pages_of g)) ≡ 0) ⊎ HasOne k n (count (fetches n) (jobs_for_parts w k 0 (pages_of g)))
          → count (fetches n) (works_from bytes (k + 1) (offset + length g) gs) ≤ 1 → count (fetches n) (works_from bytes k offset (g ∷ gs)) ≤ 1
      by_case (inl none) later = omega (arith, both, none, later)
      by_case (inr found) later =
          let one = found.once in
          let none = none-later bytes (k + 1) (offset + length g) k found.place n gs short.1 found.is found.below first (omega arith) in
          omega (arith, both, one, none)

  no-end : (bytes : List ℕ) (n k offset : ℕ) (ended : Bool) → count (fetches n) (flat_map (jobs_needed bytes) (end_if ended (end_request k offset))) ≡ 0
  unfolding count
  no-end bytes n k offset true = refl
  no-end bytes n k offset false = refl

  pub fetched-once : (bytes : List ℕ) (n k offset : ℕ) (ended : Bool) (groups : List (List ℕ)) → AreShort groups
      → count (fetches n) (flat_map (jobs_needed bytes) (writes_from channels.V1 w 1 0 groups ++ end_if ended (end_request k offset))) ≤ 1
  fetched-once bytes n k offset ended groups short =
      let writes = writes_from channels.V1 w 1 0 groups in
      let end = end_if ended (end_request k offset) in
      let split : count (fetches n) (flat_map (jobs_needed bytes) (writes ++ end)) ≡ count (fetches n) (flat_map (jobs_needed bytes) writes) + count (fetches n) (flat_map (jobs_needed bytes) end) =
      ap (λ (ws : List Work). count (fetches n) ws) (flat_map-append (jobs_needed bytes) writes end)
      ∙ count-append (fetches n) (flat_map (jobs_needed bytes) writes) (flat_map (jobs_needed bytes) end) in
      let few_writes = once-from bytes 1 0 n groups short (omega arith) in
      let none = no-end bytes n k offset ended in
      omega (arith, split, few_writes, none)
