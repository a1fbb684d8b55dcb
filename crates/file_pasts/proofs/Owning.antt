-- The loads of a page carry its parts, in order, and a WRITE names those of its group.
use Rattle.std.proofs.Common.{◌≡◌, ℕ, zero, suc, ◌+◌, ◌-◌, ◌<◌, ◌≤◌, ◌==◌, min, nat_le, Bool, true, false, cond, Option, Some, None, List, [], ◌∷◌, ◌++◌, length, take, refl, sym, ap, ◌∙◌, subst, length-append, append_assoc, arith}
use Rattle.std.specs.Prelude.{slice_get, option_to_list}
use Rattle.std.proofs.lemmas.Bool.Decides.{nat_tests}
use Rattle.std.proofs.lemmas.List.{append-nil, take-append-le}
use Rattle.smbd_base.specs.declared.right.Right.TheVariants as right
use Rattle.file_messages.specs.declared.job.Work.{Work}
use Rattle.file_messages.specs.declared.job.Work.TheVariants.{Load, Fetch, Place, Unload}
use Rattle.file_messages.specs.Runs.{pages_of, page_of}
use Rattle.file_pasts.specs.ClientPast.{ClientEvent, Group, End, Sent, Replied, Gave, Completed, Received, groups_in, unloads_on, page_freed, reply_fault, answers}
use Rattle.file_pasts.specs.PutDue.{IsPut, jobs_due, parts_on, part_on, is_free, load_of_part, load_after, loads_on_free_pages, unloads_of_first, if_taken}
use Rattle.file_pasts.specs.PutPages.{load_bytes, bytes_loaded}
use Rattle.file_pasts.specs.InStep.{part_at, is_load_on, one_if, count, over, InStep}
use Rattle.file_pasts.proofs.InStep.{count-append, in_step, loads-of-group, part-is}
use Rattle.file_pasts.proofs.LoadsDue.{loads-due}

-- ---- the bytes of the Loads of a page, in order

pub bytes_loaded-append : (page : ℕ) (xs ys : List Work) → bytes_loaded page (xs ++ ys) ≡ bytes_loaded page xs ++ bytes_loaded page ys
unfolding bytes_loaded
bytes_loaded-append page [] ys = refl
bytes_loaded-append page (x ∷ xs) ys = ap (λ (t : List (List ℕ)). load_bytes page x ++ t) (bytes_loaded-append page xs ys) ∙ sym (append_assoc (load_bytes page x) (bytes_loaded page xs) (bytes_loaded page ys))

length-load_bytes : (page : ℕ) (work : Work) → length (load_bytes page work) ≡ one_if (is_load_on page work)
unfolding load_bytes is_load_on one_if
length-load_bytes page (Load p r bytes) = by_test (p == page) where
  by_test : (t : Bool) → length (cond {A = List (List ℕ)} t (bytes ∷ []) []) ≡ one_if t
  by_test true = refl
  by_test false = refl
length-load_bytes page (Fetch d) = refl
length-load_bytes page (Place d bytes) = refl
length-load_bytes page (Unload t) = refl

pub length-bytes_loaded : (page : ℕ) (xs : List Work) → length (bytes_loaded page xs) ≡ count (is_load_on page) xs
unfolding bytes_loaded count
length-bytes_loaded page [] = refl
length-bytes_loaded page (x ∷ xs) = omega (arith, length-append (load_bytes page x) (bytes_loaded page xs), length-load_bytes page x, length-bytes_loaded page xs)

nothing_in : (xs : List (List ℕ)) → length xs ≡ 0 → xs ≡ []
nothing_in [] e = refl
nothing_in (x ∷ xs) e = absurd (omega arith)

no_bytes : (page : ℕ) (xs : List Work) → count (is_load_on page) xs ≡ 0 → bytes_loaded page xs ≡ []
no_bytes page xs e = nothing_in (bytes_loaded page xs) (length-bytes_loaded page xs ∙ e)

bytes-of-group : (w page first : ℕ) (parts : List (List ℕ)) (past : List ClientEvent) → is_free w page past ≡ true
    → bytes_loaded page (loads_on_free_pages w first parts past) ≡ part_at first parts page
unfolding bytes_loaded load_bytes
bytes-of-group w page first [] past e = by_test (nat_le first page) where
  by_test : (u : Bool) → [] ≡ cond {A = List (List ℕ)} u [] []
  by_test true = refl
  by_test false = refl
bytes-of-group w page first (part ∷ parts) past e = by_page (first == page) refl (bytes-of-group w page (first + 1) parts past e) where
  both : {b : Bool} → b ≡ true → b ≡ false → ⊥
  both x y = cc

  tail_at : (first ≡ page → ⊥) → part_at first (part ∷ parts) page ≡ part_at (first + 1) parts page
  tail_at apart = go (nat_le first page) refl where
    go : (t : Bool) → nat_le first page ≡ t → cond t (option_to_list (slice_get (part ∷ parts) (page - first))) [] ≡ part_at (first + 1) parts page
    go true h =
        let le : first ≤ page = grind (arith, nat_tests) in
        let lt : first + 1 ≤ page = omega (arith, apart) in
        let on : nat_le (first + 1) page ≡ true = grind (arith, nat_tests) in
        let place : page - first ≡ suc (page - (first + 1)) = omega arith in
        rw (on, place) refl
    go false h =
        let gt : page < first = grind (arith, nat_tests) in
        let off : nat_le (first + 1) page ≡ false = grind (arith, nat_tests) in
        rw off refl

  by_page : (t : Bool) → (first == page) ≡ t → bytes_loaded page (loads_on_free_pages w (first + 1) parts past) ≡ part_at (first + 1) parts page
      → bytes_loaded page (cond (is_free w first past) (Load first right.Fetch part ∷ []) [] ++ loads_on_free_pages w (first + 1) parts past) ≡ part_at first (part ∷ parts) page
  by_page true h ih =
      let same : first ≡ page = grind (arith, nat_tests) in
      let within : nat_le first page ≡ true = grind (arith, nat_tests) in
      let place : page - first ≡ 0 = omega arith in
      let beyond : nat_le (first + 1) page ≡ false = grind (arith, nat_tests) in
      let here : part_at first (part ∷ parts) page ≡ part ∷ [] = rw (within, place) refl in
      let later : part_at (first + 1) parts page ≡ [] = rw beyond refl in
      let free : is_free w first past ≡ true = ap (λ (k : ℕ). is_free w k past) same ∙ e in
      ap (λ (t : Bool). bytes_loaded page (cond t (Load first right.Fetch part ∷ []) [] ++ loads_on_free_pages w (first + 1) parts past)) free
      ∙ ap (λ (t : Bool). cond t (part ∷ []) [] ++ bytes_loaded page (loads_on_free_pages w (first + 1) parts past)) h
      ∙ ap (λ (ps : List (List ℕ)). part ∷ ps) (ih ∙ later) ∙ sym here
  by_page false h ih =
      let apart : first ≡ page → ⊥ = (λ (x : first ≡ page). let y : (first == page) ≡ true = grind (arith, nat_tests) in both y h) in
      other (is_free w first past) ∙ ih ∙ sym (tail_at apart)
    where
      other : (t : Bool) → bytes_loaded page (cond t (Load first right.Fetch part ∷ []) [] ++ loads_on_free_pages w (first + 1) parts past)
          ≡ bytes_loaded page (loads_on_free_pages w (first + 1) parts past)
      other true = ap (λ (t : Bool). cond t (part ∷ []) [] ++ bytes_loaded page (loads_on_free_pages w (first + 1) parts past)) h
      other false = refl

take_all : (n : ℕ) (xs : List (List ℕ)) → length xs ≤ n → take n xs ≡ xs
take_all zero [] h = refl
take_all (suc n) [] h = refl
take_all zero (x ∷ xs) h = absurd (omega arith)
take_all (suc n) (x ∷ xs) h = ap (λ (t : List (List ℕ)). x ∷ t) (take_all n xs (omega arith))

pub take-next : (n : ℕ) (xs : List (List ℕ)) (x : List ℕ) → slice_get xs n ≡ Some x → take (suc n) xs ≡ take n xs ++ x ∷ []
take-next n [] x e = absurd (let b : ⊥ = cc in b)
take-next zero (y ∷ ys) x e = let same : y ≡ x = cc in ap (λ (t : List ℕ). t ∷ []) same
take-next (suc n) (y ∷ ys) x e = ap (λ (t : List (List ℕ)). y ∷ t) (take-next n ys x e)

pub get-take : (n : ℕ) (xs : List (List ℕ)) (ys zs : List (List ℕ)) (x : List ℕ) → take n xs ≡ ys ++ x ∷ zs → slice_get xs (length ys) ≡ Some x
get-take zero xs [] zs x e = absurd (let b : ⊥ = cc in b)
get-take zero xs (y ∷ ys) zs x e = absurd (let b : ⊥ = cc in b)
get-take (suc n) [] [] zs x e = absurd (let b : ⊥ = cc in b)
get-take (suc n) [] (y ∷ ys) zs x e = absurd (let b : ⊥ = cc in b)
get-take (suc n) (a ∷ xs) [] zs x e = cc
get-take (suc n) (a ∷ xs) (y ∷ ys) zs x e = let rest : take n xs ≡ ys ++ x ∷ zs = cc in get-take n xs ys zs x rest

load_test : (page q : ℕ) (part : List ℕ) → is_load_on page (Load q right.Fetch part) ≡ (q == page)
unfolding is_load_on
load_test page q part = refl

one_if-true : one_if true ≡ 1
unfolding one_if
one_if-true = refl

one_if-false : one_if false ≡ 0
unfolding one_if
one_if-false = refl

new_bytes : (page q : ℕ) (part : List ℕ) → (q == page) ≡ true → bytes_loaded page (Load q right.Fetch part ∷ []) ≡ part ∷ []
unfolding bytes_loaded load_bytes
new_bytes page q part h = ap (λ (t : Bool). cond {A = List (List ℕ)} t (part ∷ []) [] ++ []) h

-- the Loads of a page that came due carry its first parts
pub carries-parts : (w page : ℕ) (past : List ClientEvent) → IsPut (over w) past
    → bytes_loaded page (jobs_due w past) ≡ take (count (is_load_on page) (jobs_due w past)) (parts_on w page past)
unfolding bytes_loaded count
carries-parts w page [] p = refl
carries-parts w page (Group bytes ∷ past) p = by_free (is_free w page past) refl (carries-parts w page past p.1) where
  new : List Work
  new = loads_on_free_pages w (page_of w (length (groups_in past) + 1) 0) (pages_of bytes) past

  more : List (List ℕ)
  more = part_on w page (length (groups_in past)) bytes

  s : InStep w page past
  s = in_step w page past p.1

  all : count (is_load_on page) (jobs_due w past ++ new) ≡ count (is_load_on page) (jobs_due w past) + count (is_load_on page) new
  all = count-append (is_load_on page) (jobs_due w past) new

  by_free : (t : Bool) → is_free w page past ≡ t → bytes_loaded page (jobs_due w past) ≡ take (count (is_load_on page) (jobs_due w past)) (parts_on w page past)
      → bytes_loaded page (jobs_due w past ++ new) ≡ take (count (is_load_on page) (jobs_due w past ++ new)) (parts_on w page past ++ more)
  by_free true e ih =
      let free : length (parts_on w page past) ≤ unloads_on page past = grind (arith, nat_tests) in
      let due : count (is_load_on page) (jobs_due w past) ≡ length (parts_on w page past) = omega (arith, loads-due w page past p.1) in
      let new_is : bytes_loaded page new ≡ more = bytes-of-group w page (page_of w (length (groups_in past) + 1) 0) (pages_of bytes) past e ∙ part-is w page bytes past p.0.2 in
      bytes_loaded-append page (jobs_due w past) new ∙ ap (λ (t : List (List ℕ)). t ++ bytes_loaded page new) (ih ∙ take_all (count (is_load_on page) (jobs_due w past)) (parts_on w page past) (omega (arith, due)))
      ∙ ap (λ (t : List (List ℕ)). parts_on w page past ++ t) new_is
      ∙ sym (take_all (count (is_load_on page) (jobs_due w past ++ new)) (parts_on w page past ++ more)
      (omega (arith, all, due, length-append (parts_on w page past) more, ap length new_is, length-bytes_loaded page new)))
  by_free false e ih =
      let none : count (is_load_on page) new ≡ 0 =
      loads-of-group w page (page_of w (length (groups_in past) + 1) 0) (pages_of bytes) past
      ∙ ap (λ (t : Bool). cond t (length (part_at (page_of w (length (groups_in past) + 1) 0) (pages_of bytes) page)) 0) e in
      let same : count (is_load_on page) (jobs_due w past ++ new) ≡ count (is_load_on page) (jobs_due w past) = omega (arith, all, none) in
      bytes_loaded-append page (jobs_due w past) new ∙ ap (λ (t : List (List ℕ)). bytes_loaded page (jobs_due w past) ++ t) (no_bytes page new none)
      ∙ append-nil (bytes_loaded page (jobs_due w past)) ∙ ih
      ∙ sym (take-append-le (count (is_load_on page) (jobs_due w past)) (parts_on w page past) more s.parts)
      ∙ ap (λ (k : ℕ). take k (parts_on w page past ++ more)) (sym same)
carries-parts w page (End ∷ past) p = carries-parts w page past p.1
carries-parts w page (Sent r ∷ past) p = carries-parts w page past p.1
carries-parts w page (Replied m ∷ past) p =
    let new : List Work = if_taken (reply_fault (answers past) m) (unloads_of_first (answers past).unanswered) in
    let none : count (is_load_on page) new ≡ 0 = omega (arith, loads-due w page past p.1, loads-due w page (Replied m ∷ past) p, count-append (is_load_on page) (jobs_due w past) new) in
    let same : count (is_load_on page) (jobs_due w past ++ new) ≡ count (is_load_on page) (jobs_due w past) = omega (arith, none, count-append (is_load_on page) (jobs_due w past) new) in
    bytes_loaded-append page (jobs_due w past) new ∙ ap (λ (t : List (List ℕ)). bytes_loaded page (jobs_due w past) ++ t) (no_bytes page new none)
    ∙ append-nil (bytes_loaded page (jobs_due w past)) ∙ carries-parts w page past p.1
    ∙ ap (λ (k : ℕ). take k (parts_on w page past)) (sym same)
carries-parts w page (Gave work ∷ past) p = carries-parts w page past p.1
carries-parts w page (Completed c ∷ past) p = by_freed (page_freed c past) refl (carries-parts w page past p.1) where
  before : count (is_load_on page) (jobs_due w past) ≡ min (length (parts_on w page past)) (unloads_on page past + 1)
  before = loads-due w page past p.1

  by_part : (q : ℕ) (o : Option (List ℕ)) (t : Bool) → (q == page) ≡ t → slice_get (parts_on w q past) (unloads_on q past + 1) ≡ o
      → bytes_loaded page (jobs_due w past) ≡ take (count (is_load_on page) (jobs_due w past)) (parts_on w page past)
      → bytes_loaded page (jobs_due w past ++ load_of_part q o) ≡ take (count (is_load_on page) (jobs_due w past ++ load_of_part q o)) (parts_on w page past)
  by_part q None t h g ih =
      ap (bytes_loaded page) (append-nil (jobs_due w past)) ∙ ih ∙ ap (λ (ws : List Work). take (count (is_load_on page) ws) (parts_on w page past)) (sym (append-nil (jobs_due w past)))
  by_part q (Some part) false h g ih =
      let one : count (is_load_on page) (Load q right.Fetch part ∷ []) ≡ 0 = (let n : one_if (is_load_on page (Load q right.Fetch part)) + 0 ≡ 0 = omega (arith, ap one_if (off h), zero_is) in n) in
      let same : count (is_load_on page) (jobs_due w past ++ Load q right.Fetch part ∷ []) ≡ count (is_load_on page) (jobs_due w past) = omega (arith, one, count-append (is_load_on page) (jobs_due w past) (Load q right.Fetch part ∷ [])) in
      bytes_loaded-append page (jobs_due w past) (Load q right.Fetch part ∷ []) ∙ ap (λ (t : List (List ℕ)). bytes_loaded page (jobs_due w past) ++ t) (no_bytes page (Load q right.Fetch part ∷ []) one)
      ∙ append-nil (bytes_loaded page (jobs_due w past)) ∙ ih ∙ ap (λ (k : ℕ). take k (parts_on w page past)) (sym same)
    where
      off : (q == page) ≡ false → is_load_on page (Load q right.Fetch part) ≡ false
      off x = load_test page q part ∙ x

      zero_is : one_if false ≡ 0
      zero_is = one_if-false
  by_part q (Some part) true h g ih =
      let same : q ≡ page = grind (arith, nat_tests) in
      let got : slice_get (parts_on w page past) (unloads_on page past + 1) ≡ Some part = subst (λ (x : ℕ). slice_get (parts_on w x past) (unloads_on x past + 1) ≡ Some part) same g in
      let room : unloads_on page past + 1 < length (parts_on w page past) = within (parts_on w page past) (unloads_on page past + 1) part got in
      let due : count (is_load_on page) (jobs_due w past) ≡ unloads_on page past + 1 = omega (arith, before, room) in
      let one : count (is_load_on page) (Load q right.Fetch part ∷ []) ≡ 1 = (let n : one_if (is_load_on page (Load q right.Fetch part)) + 0 ≡ 1 = omega (arith, ap one_if (load_test page q part ∙ h), one_if-true) in n) in
      let more : count (is_load_on page) (jobs_due w past ++ Load q right.Fetch part ∷ []) ≡ suc (unloads_on page past + 1) = omega (arith, one, due, count-append (is_load_on page) (jobs_due w past) (Load q right.Fetch part ∷ [])) in
      let new : bytes_loaded page (Load q right.Fetch part ∷ []) ≡ part ∷ [] = new_bytes page q part h in
      bytes_loaded-append page (jobs_due w past) (Load q right.Fetch part ∷ []) ∙ ap (λ (t : List (List ℕ)). t ++ bytes_loaded page (Load q right.Fetch part ∷ [])) (ih ∙ ap (λ (k : ℕ). take k (parts_on w page past)) due)
      ∙ ap (λ (t : List (List ℕ)). take (unloads_on page past + 1) (parts_on w page past) ++ t) new
      ∙ sym (take-next (unloads_on page past + 1) (parts_on w page past) part got)
      ∙ ap (λ (k : ℕ). take k (parts_on w page past)) (sym more)
    where
      within : (xs : List (List ℕ)) (i : ℕ) (y : List ℕ) → slice_get xs i ≡ Some y → i < length xs
      within [] i y k = absurd (let b : ⊥ = cc in b)
      within (z ∷ zs) zero y k = omega arith
      within (z ∷ zs) (suc i) y k = omega (arith, within zs i y k)

  by_freed : (o : Option ℕ) → page_freed c past ≡ o → bytes_loaded page (jobs_due w past) ≡ take (count (is_load_on page) (jobs_due w past)) (parts_on w page past)
      → bytes_loaded page (jobs_due w past ++ load_after w (page_freed c past) past) ≡ take (count (is_load_on page) (jobs_due w past ++ load_after w (page_freed c past) past)) (parts_on w page past)
  by_freed None e ih = rw (e, append-nil (jobs_due w past)) ih
  by_freed (Some q) e ih = rw e (by_part q (slice_get (parts_on w q past) (unloads_on q past + 1)) (q == page) refl refl ih)
carries-parts w page (Received bytes ∷ past) p = absurd p.0
