-- The descriptors of a WRITE name each page of its window once.
use Rattle.std.proofs.Common.{◌≡◌, ℕ, zero, suc, ◌+◌, ◌<◌, ◌≤◌, ◌==◌, nat_lt, nat_le, ◌&&◌, Bool, true, false, cond, Option, Some, None, List, [], ◌∷◌, ◌++◌, length, refl, sym, ap, ◌∙◌, subst, arith}
use Rattle.std.specs.Prelude.{slice_get}
use Rattle.std.proofs.lemmas.Bool.Decides.{nat_tests}
use Rattle.buffer_descriptor.specs.declared.descriptor.Descriptor.{Descriptor}
use Rattle.file_messages.specs.declared.job.WorkResult.{WorkResult}
use Rattle.file_messages.specs.declared.job.WorkResult.TheVariants.{Loaded, Unloaded, Fetched, Placed, Refused}
use Rattle.file_pasts.specs.ClientPast.{ClientEvent, Gave, Completed, Group, Replied, End, Sent, Received, loaded_by, descriptors_on, token_of_descriptor}
use Rattle.file_pasts.specs.PutDue.{named_on, descriptors_for, in_front, names_page}
use Rattle.file_pasts.specs.InStep.{named_at}

named_at-none : (first page : ℕ) → named_at first first page ≡ 0
named_at-none first page = by_test (nat_le first page) (nat_lt page first) refl refl where
  by_test : (t u : Bool) → nat_le first page ≡ t → nat_lt page first ≡ u → cond {A = ℕ} (t && u) 1 0 ≡ 0
  by_test true true p q = absurd (let a : first ≤ page = grind (arith, nat_tests) in let b : page < first = grind (arith, nat_tests) in omega arith)
  by_test true false p q = refl
  by_test false u p q = refl

-- each descriptor of a page's loads names the page
unfoldable pub OnPage : ℕ → List Descriptor → Type 0
OnPage page [] = Unit {0}
OnPage page (d ∷ ds) = ((token_of_descriptor d).page ≡ page) × OnPage page ds

on_page-append : (page : ℕ) (xs ys : List Descriptor) → OnPage page xs → OnPage page ys → OnPage page (xs ++ ys)
unfolding OnPage
on_page-append page [] ys a b = b
on_page-append page (x ∷ xs) ys a b = (a.0, on_page-append page xs ys a.1 b)

on_page-loaded : (page : ℕ) (r : WorkResult) → OnPage page (loaded_by page r)
unfolding OnPage
on_page-loaded page (Loaded d) = by_test ((token_of_descriptor d).page == page) refl where
  by_test : (t : Bool) → ((token_of_descriptor d).page == page) ≡ t → OnPage page (cond t (d ∷ []) [])
  by_test true e = (let h : (token_of_descriptor d).page ≡ page = grind (arith, nat_tests) in h, tt)
  by_test false e = tt
on_page-loaded page (Fetched bytes) = tt
on_page-loaded page Placed = tt
on_page-loaded page (Unloaded bytes) = tt
on_page-loaded page (Refused status) = tt

pub on_page : (page : ℕ) (past : List ClientEvent) → OnPage page (descriptors_on page past)
unfolding OnPage
on_page page [] = tt
on_page page (Group bytes ∷ past) = on_page page past
on_page page (End ∷ past) = on_page page past
on_page page (Sent r ∷ past) = on_page page past
on_page page (Replied m ∷ past) = on_page page past
on_page page (Gave work ∷ past) = on_page page past
on_page page (Completed c ∷ past) = on_page-append page (descriptors_on page past) (loaded_by page c.result) (on_page page past) (on_page-loaded page c.result)
on_page page (Received bytes ∷ past) = on_page page past

pub on_page-at : (page : ℕ) (ds : List Descriptor) (k : ℕ) (d : Descriptor) → OnPage page ds → slice_get ds k ≡ Some d → (token_of_descriptor d).page ≡ page
unfolding OnPage
on_page-at page [] k d a e = absurd (let b : ⊥ = cc in b)
on_page-at page (x ∷ xs) zero d a e = let same : x ≡ d = cc in subst (λ (y : Descriptor). (token_of_descriptor y).page ≡ page) same a.0
on_page-at page (x ∷ xs) (suc k) d a e = on_page-at page xs k d a.1 e

-- the descriptors of a group name its pages, each once
pub names-pages : (q page : ℕ) (parts : List (List ℕ)) (past : List ClientEvent) (ds : List Descriptor) → descriptors_for page parts past ≡ Some ds
    → names_page q ds ≡ named_at page (page + length parts) q
names-pages q page [] past ds e =
    let none : ds ≡ [] = cc in
    let last : page + 0 ≡ page = omega arith in
    ap (names_page q) none ∙ sym (ap (λ (k : ℕ). named_at page k q) last ∙ named_at-none page q)
names-pages q page (part ∷ parts) past ds e =
    by_parts (λ (later : List Descriptor) (r : descriptors_for (page + 1) parts past ≡ Some later). names-pages q (page + 1) parts past later r)
    (slice_get (descriptors_on page past) (named_on page past)) (descriptors_for (page + 1) parts past) refl refl e where
      ends : (t : Bool) → (page == q) ≡ t → cond t (named_at (page + 1) (page + 1 + length parts) q + 1) (named_at (page + 1) (page + 1 + length parts) q) ≡ named_at page (page + suc (length parts)) q
      ends true e =
          let same : page ≡ q = grind (arith, nat_tests) in
          let a : nat_le (page + 1) q ≡ false = grind (arith, nat_tests) in
          let b : nat_le page q ≡ true = grind (arith, nat_tests) in
          let c : nat_lt q (page + suc (length parts)) ≡ true = grind (arith, nat_tests) in
          rw (a, b, c) refl
      ends false e =
          let last : page + 1 + length parts ≡ page + suc (length parts) = omega arith in
          ap (λ (k : ℕ). named_at (page + 1) k q) last ∙ ap (λ (t : Bool). cond (t && nat_lt q (page + suc (length parts))) 1 0) (from (nat_le page q) refl)
        where
          from : (t : Bool) → nat_le page q ≡ t → nat_le (page + 1) q ≡ nat_le page q
          from true h =
              let le : page ≤ q = grind (arith, nat_tests) in
              let ne : page ≡ q → ⊥ = (λ (x : page ≡ q). let y : (page == q) ≡ true = grind (arith, nat_tests) in both y e) in
              let lt : page + 1 ≤ q = omega (arith, ne) in
              let r : nat_le (page + 1) q ≡ true = grind (arith, nat_tests) in r ∙ sym h
            where
              both : {b : Bool} → b ≡ true → b ≡ false → ⊥
              both x y = cc
          from false h = let gt : q < page = grind (arith, nat_tests) in let r : nat_le (page + 1) q ≡ false = grind (arith, nat_tests) in r ∙ sym h

      by_parts : ((later : List Descriptor) → descriptors_for (page + 1) parts past ≡ Some later → names_page q later ≡ named_at (page + 1) (page + 1 + length parts) q) → (o : Option Descriptor) (l : Option (List Descriptor)) → slice_get (descriptors_on page past) (named_on page past) ≡ o
          → descriptors_for (page + 1) parts past ≡ l → in_front o l ≡ Some ds → names_page q ds ≡ named_at page (page + suc (length parts)) q
      by_parts ih None l p r h = absurd (let b : ⊥ = cc in b)
      by_parts ih (Some d) None p r h = absurd (let b : ⊥ = cc in b)
      by_parts ih (Some d) (Some later) p r h =
          let ds_is : d ∷ later ≡ ds = cc in
          let page_is : (token_of_descriptor d).page ≡ page = on_page-at page (descriptors_on page past) (named_on page past) d (on_page page past) p in
          let more : names_page q later ≡ named_at (page + 1) (page + 1 + length parts) q = ih later r in
          ap (names_page q) (sym ds_is) ∙ ap (λ (k : ℕ). cond (k == q) (names_page q later + 1) (names_page q later)) page_is
          ∙ ap (λ (k : ℕ). cond (page == q) (k + 1) k) more ∙ ends (page == q) refl
