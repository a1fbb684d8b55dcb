-- The loads and unloads of one page of a put go in step: no more of a kind was completed than given, given than due, named
-- than loaded, unloaded than replied to, and there is at most one load more than there are unloads.
use Rattle.std.proofs.Common.{◌≡◌, inl, inr, ℕ, zero, suc, ◌+◌, ◌-◌, ◌*◌, ◌/◌, ◌%◌, ◌<◌, ◌≤◌, ◌==◌, nat_lt, nat_le, ◌&&◌, Bool, true, false, cond, Option, Some, None, List, [], ◌∷◌, ◌++◌, length, drop, refl, sym, ap, ◌∙◌, subst, length-append, append_assoc, arith}
use Rattle.std.specs.Prelude.{slice_get, option_to_list, option_map}
use Rattle.std.proofs.lemmas.Bool.Decides.{nat_tests}
use Rattle.std.proofs.lemmas.List.{append-nil}
use Rattle.smbd_base.specs.declared.right.Right.TheVariants as right
use Rattle.buffer_descriptor.specs.declared.descriptor.Descriptor.{Descriptor}
use Rattle.file_messages.specs.declared.fault.ReplyFault.{ReplyFault}
use Rattle.file_messages.specs.declared.message.Request.{Request}
use Rattle.file_messages.specs.declared.job.Job.{Job}
use Rattle.file_messages.specs.declared.job.Work.{Work}
use Rattle.file_messages.specs.declared.job.Work.TheVariants.{Load, Fetch, Place, Unload}
use Rattle.file_messages.specs.declared.job.Completion.{Completion}
use Rattle.file_messages.specs.declared.job.WorkResult.{WorkResult}
use Rattle.file_messages.specs.declared.job.WorkResult.TheVariants.{Loaded, Unloaded, Fetched, Placed}
use Rattle.file_messages.specs.Runs.{pages_of, page_of, parts_from, registered_write}
use Rattle.file_pasts.specs.ClientPast.{ClientEvent, Group, End, Sent, Replied, Gave, Completed, Received, groups_in, requests_sent, jobs_given, open_jobs, job_at, without_job, unloads_on, descriptors_on, loaded_by, page_freed, page_unloaded, is_page, token_of_descriptor, reply_fault, answers, has_failed, AnswersJob, IsOfKind}
use Rattle.file_pasts.specs.PutDue.{IsPut, jobs_due, numbered, parts_on, part_on, named_on, names_page, is_free, load_of_part, load_after, loads_on_free_pages, unloads_of, unloads_of_first, descriptors_for, in_front, bytes_before}
use Rattle.file_pasts.specs.InStep.{part_at, IsLoadDone, IsUnloadDone, is_load_on, is_unload_on, one_if, count, count_open, names_in, over, InStep}
use Rattle.file_pasts.proofs.PutLaw.{SentCase, sent_case}
use Rattle.file_pasts.proofs.NamedPages.{names-pages}

-- ---- how many works are of a kind on a page

pub count-append : (f : Work → Bool) (xs ys : List Work) → count f (xs ++ ys) ≡ count f xs + count f ys
unfolding count
count-append f [] ys = omega arith
count-append f (x ∷ xs) ys = omega (arith, count-append f xs ys)

pub count_open-append : (f : Work → Bool) (xs : List Job) (job : Job) → count_open f (xs ++ job ∷ []) ≡ count_open f xs + one_if (f job.work)
unfolding count_open
count_open-append f [] job = omega arith
count_open-append f (x ∷ xs) job = omega (arith, count_open-append f xs job)

pub count_open-without : (f : Work → Bool) (n : ℕ) (jobs : List Job) (work : Work) → job_at n jobs ≡ Some work
    → count_open f (without_job n jobs) + one_if (f work) ≡ count_open f jobs
unfolding count_open
count_open-without f n [] work e = absurd (let b : ⊥ = cc in b)
count_open-without f n (job ∷ later) work e = by_test (job.number == n) refl e (λ (h : job_at n later ≡ Some work). count_open-without f n later work h) where
  by_test : (t : Bool) → (job.number == n) ≡ t → cond t (Some job.work) (job_at n later) ≡ Some work
      → (job_at n later ≡ Some work → count_open f (without_job n later) + one_if (f work) ≡ count_open f later)
      → count_open f (cond t later (job ∷ without_job n later)) + one_if (f work) ≡ one_if (f job.work) + count_open f later
  by_test true p h ih = let same : job.work ≡ work = cc in omega (arith, ap (λ (x : Work). one_if (f x)) same)
  by_test false p h ih = omega (arith, ih h)

-- ---- what comes due

pub loads-none : (page : ℕ) (works : List Descriptor) → count (is_load_on page) (unloads_of works) ≡ 0
unfolding count is_load_on one_if
loads-none page [] = refl
loads-none page (d ∷ ds) = omega (arith, loads-none page ds)

unloads-named : (page : ℕ) (ds : List Descriptor) → count (is_unload_on page) (unloads_of ds) ≡ names_page page ds
unfolding count is_unload_on one_if
unloads-named page [] = refl
unloads-named page (d ∷ ds) = by_test ((token_of_descriptor d).page == page) (unloads-named page ds) where
  by_test : (t : Bool) → count (is_unload_on page) (unloads_of ds) ≡ names_page page ds
      → one_if t + count (is_unload_on page) (unloads_of ds) ≡ cond t (names_page page ds + 1) (names_page page ds)
  by_test true h = omega (arith, h)
  by_test false h = omega (arith, h)

unloads-none : (w page first : ℕ) (parts : List (List ℕ)) (past : List ClientEvent) → count (is_unload_on page) (loads_on_free_pages w first parts past) ≡ 0
unfolding count is_unload_on one_if
unloads-none w page first [] past = refl
unloads-none w page first (part ∷ parts) past = by_test (is_free w first past) (unloads-none w page (first + 1) parts past) where
  by_test : (t : Bool) → count (is_unload_on page) (loads_on_free_pages w (first + 1) parts past) ≡ 0
      → count (is_unload_on page) (cond t (Load first right.Fetch part ∷ []) [] ++ loads_on_free_pages w (first + 1) parts past) ≡ 0
  by_test true h = omega (arith, h)
  by_test false h = h

-- a group makes at most the Load of its part on the page due, where the page is free
pub loads-of-group : (w page first : ℕ) (parts : List (List ℕ)) (past : List ClientEvent)
    → count (is_load_on page) (loads_on_free_pages w first parts past) ≡ cond (is_free w page past) (length (part_at first parts page)) 0
unfolding count is_load_on one_if
loads-of-group w page first [] past = by_tests (is_free w page past) (nat_le first page) where
  by_tests : (t u : Bool) → 0 ≡ cond t (length {A = List ℕ} (cond u [] [])) 0
  by_tests true true = refl
  by_tests true false = refl
  by_tests false u = refl
loads-of-group w page first (part ∷ parts) past = by_test (first == page) refl (loads-of-group w page (first + 1) parts past) where
  tail_at : (first ≡ page → ⊥) → part_at first (part ∷ parts) page ≡ part_at (first + 1) parts page
  tail_at apart = go (nat_le first page) refl where
    go : (t : Bool) → nat_le first page ≡ t → cond t (option_to_list (slice_get (part ∷ parts) (page - first))) [] ≡ part_at (first + 1) parts page
    go true e =
        let le : first ≤ page = grind (arith, nat_tests) in
        let lt : first + 1 ≤ page = omega (arith, apart) in
        let on : nat_le (first + 1) page ≡ true = grind (arith, nat_tests) in
        let place : page - first ≡ suc (page - (first + 1)) = omega arith in
        rw (on, place) refl
    go false e =
        let gt : page < first = grind (arith, nat_tests) in
        let off : nat_le (first + 1) page ≡ false = grind (arith, nat_tests) in
        rw off refl

  by_test : (t : Bool) → (first == page) ≡ t
      → count (is_load_on page) (loads_on_free_pages w (first + 1) parts past) ≡ cond (is_free w page past) (length (part_at (first + 1) parts page)) 0
      → count (is_load_on page) (cond (is_free w first past) (Load first right.Fetch part ∷ []) [] ++ loads_on_free_pages w (first + 1) parts past)
      ≡ cond (is_free w page past) (length (part_at first (part ∷ parts) page)) 0
  by_test true e ih =
      let same : first ≡ page = grind (arith, nat_tests) in
      let within : nat_le first page ≡ true = grind (arith, nat_tests) in
      let place : page - first ≡ 0 = omega arith in
      let beyond : nat_le (first + 1) page ≡ false = grind (arith, nat_tests) in
      let here : part_at first (part ∷ parts) page ≡ part ∷ [] = rw (within, place) refl in
      let later : part_at (first + 1) parts page ≡ [] = rw beyond refl in
      let free : is_free w first past ≡ is_free w page past = ap (λ (k : ℕ). is_free w k past) same in
      let none : count (is_load_on page) (loads_on_free_pages w (first + 1) parts past) ≡ 0 = ih ∙ ap (λ (ps : List (List ℕ)). cond (is_free w page past) (length ps) 0) later ∙ zero_of (is_free w page past) in
      ap (λ (t : Bool). count (is_load_on page) (cond t (Load first right.Fetch part ∷ []) [] ++ loads_on_free_pages w (first + 1) parts past)) free
      ∙ one (is_free w page past) e none ∙ ap (λ (ps : List (List ℕ)). cond (is_free w page past) (length ps) 0) (sym here)
    where
      zero_of : (t : Bool) → cond {A = ℕ} t 0 0 ≡ 0
      zero_of true = refl
      zero_of false = refl

      one : (t : Bool) → (first == page) ≡ true → count (is_load_on page) (loads_on_free_pages w (first + 1) parts past) ≡ 0
          → count (is_load_on page) (cond t (Load first right.Fetch part ∷ []) [] ++ loads_on_free_pages w (first + 1) parts past) ≡ cond t 1 0
      one true q h = omega (arith, h, ap one_if q)
      one false q h = h
  by_test false e ih =
      let apart : first ≡ page → ⊥ = (λ (x : first ≡ page). let y : (first == page) ≡ true = grind (arith, nat_tests) in both y e) in
      other (is_free w first past) e ∙ ih ∙ ap (λ (ps : List (List ℕ)). cond (is_free w page past) (length ps) 0) (sym (tail_at apart))
    where
      both : {b : Bool} → b ≡ true → b ≡ false → ⊥
      both x y = cc

      other : (t : Bool) → (first == page) ≡ false
          → count (is_load_on page) (cond t (Load first right.Fetch part ∷ []) [] ++ loads_on_free_pages w (first + 1) parts past)
          ≡ count (is_load_on page) (loads_on_free_pages w (first + 1) parts past)
      other true q = omega (arith, ap one_if q)
      other false q = refl

-- ---- one completion

pub loaded-count : (page : ℕ) (work : Work) (result : WorkResult) → IsOfKind work result → length (loaded_by page result) ≡ one_if (is_load_on page work)
unfolding is_load_on one_if
loaded-count page (Load p r bytes) (Loaded d) fits = by_test ((token_of_descriptor d).page == page) (p == page) (ap (λ (k : ℕ). k == page) fits.1) where
  by_test : (t u : Bool) → t ≡ u → length (cond {A = List Descriptor} t (d ∷ []) []) ≡ one_if u
  by_test true true e = refl
  by_test false false e = refl
  by_test true false e = absurd (let b : ⊥ = cc in b)
  by_test false true e = absurd (let b : ⊥ = cc in b)
loaded-count page (Fetch d) (Fetched bytes) fits = refl
loaded-count page (Place d bytes) Placed fits = refl
loaded-count page (Unload t) (Unloaded bytes) fits = refl
loaded-count page work result fits = absurd fits

pub unload-count : (page : ℕ) (work : Work) (u : ℕ) → cond (is_page page (page_unloaded (Some work))) (u + 1) u ≡ u + one_if (is_unload_on page work)
unfolding is_unload_on one_if
unload-count page (Load p r bytes) u = omega arith
unload-count page (Fetch d) u = omega arith
unload-count page (Place d bytes) u = omega arith
unload-count page (Unload t) u = by_test (t.page == page) where
  by_test : (b : Bool) → cond b (u + 1) u ≡ u + one_if b
  by_test true = refl
  by_test false = omega arith

no-unload-after : (w page : ℕ) (o : Option ℕ) (past : List ClientEvent) → count (is_unload_on page) (load_after w o past) ≡ 0
unfolding count is_unload_on one_if
no-unload-after w page None past = refl
no-unload-after w page (Some q) past = by_part (slice_get (parts_on w q past) (unloads_on q past + 1)) where
  by_part : (o : Option (List ℕ)) → count (is_unload_on page) (load_of_part q o) ≡ 0
  by_part None = refl
  by_part (Some part) = omega arith

-- the Load of a part that waited: only of the page that was unloaded, and only where it has a part more than that
load-after : (w page : ℕ) (work : Work) (past : List ClientEvent)
    → count (is_load_on page) (load_after w (page_unloaded (Some work)) past) ≤ one_if (is_unload_on page work)
unfolding count is_load_on is_unload_on one_if
load-after w page (Load p r bytes) past = nothing where
  nothing : count (is_load_on page) [] ≤ one_if (is_unload_on page (Load p r bytes))
  nothing = omega arith
load-after w page (Fetch d) past = nothing where
  nothing : count (is_load_on page) [] ≤ one_if (is_unload_on page (Fetch d))
  nothing = omega arith
load-after w page (Place d bytes) past = nothing where
  nothing : count (is_load_on page) [] ≤ one_if (is_unload_on page (Place d bytes))
  nothing = omega arith
load-after w page (Unload t) past = by_part (slice_get (parts_on w t.page past) (unloads_on t.page past + 1)) where
  by_part : (o : Option (List ℕ)) → count (is_load_on page) (load_of_part t.page o) ≤ one_if (is_unload_on page (Unload t))
  by_part None = omega arith
  by_part (Some part) = omega arith

load-after-parts : (w page : ℕ) (work : Work) (past : List ClientEvent) → 1 ≤ count (is_load_on page) (load_after w (page_unloaded (Some work)) past)
    → unloads_on page past + 1 < length (parts_on w page past)
unfolding count is_load_on one_if
load-after-parts w page (Load p r bytes) past h = absurd (omega arith)
load-after-parts w page (Fetch d) past h = absurd (omega arith)
load-after-parts w page (Place d bytes) past h = absurd (omega arith)
load-after-parts w page (Unload t) past h = by_part (t.page == page) (slice_get (parts_on w t.page past) (unloads_on t.page past + 1)) refl refl h where
  within : {A : Type 0} (xs : List A) (i : ℕ) (y : A) → slice_get xs i ≡ Some y → i < length xs
  within [] i y e = absurd (let b : ⊥ = cc in b)
  within (z ∷ zs) zero y e = omega arith
  within (z ∷ zs) (suc i) y e = omega (arith, within zs i y e)

  by_part : (b : Bool) (o : Option (List ℕ)) → (t.page == page) ≡ b → slice_get (parts_on w t.page past) (unloads_on t.page past + 1) ≡ o
      → 1 ≤ count (is_load_on page) (load_of_part t.page o) → unloads_on page past + 1 < length (parts_on w page past)
  by_part b None p q k = absurd (omega arith)
  by_part false (Some part) p q k = absurd (omega (arith, ap one_if p))
  by_part true (Some part) p q k =
      let same : t.page ≡ page = grind (arith, nat_tests) in
      subst (λ (x : ℕ). unloads_on x past + 1 < length (parts_on w x past)) same (within (parts_on w t.page past) (unloads_on t.page past + 1) part q)

-- ---- the window of a group

get-beyond : {A : Type 0} (xs : List A) (k : ℕ) → length xs ≤ k → slice_get xs k ≡ None
get-beyond [] k h = refl
get-beyond (x ∷ xs) zero h = absurd (omega arith)
get-beyond (x ∷ xs) (suc k) h = get-beyond xs k (omega arith)

pub length-parts : (n size : ℕ) (bytes : List ℕ) → length (parts_from n size bytes) ≡ n
length-parts zero size bytes = refl
length-parts (suc n) size bytes = omega (arith, length-parts n size (drop size bytes))

at_most_one : (first page : ℕ) (parts : List (List ℕ)) → length (part_at first parts page) ≤ 1
at_most_one first page parts = by_test (nat_le first page) (slice_get parts (page - first)) where
  by_test : (t : Bool) (o : Option (List ℕ)) → length (cond t (option_to_list o) []) ≤ 1
  by_test true None = omega arith
  by_test true (Some part) = omega arith
  by_test false o = omega arith

pub window : (v page : ℕ) (parts : List (List ℕ)) → length parts ≤ 16 → part_at (v * 16) parts page ≡ cond (page / 16 == v) (option_to_list (slice_get parts (page % 16))) []
window v page parts few = by_test (nat_le (v * 16) page) (page / 16 == v) refl refl where
  by_test : (t u : Bool) → nat_le (v * 16) page ≡ t → (page / 16 == v) ≡ u
      → cond t (option_to_list (slice_get parts (page - v * 16))) [] ≡ cond u (option_to_list (slice_get parts (page % 16))) []
  by_test true true p q =
      let on : page / 16 ≡ v = grind (arith, nat_tests) in
      let place : page - v * 16 ≡ page % 16 = omega arith in
      rw place refl
  by_test true false p q =
      let from : v * 16 ≤ page = grind (arith, nat_tests) in
      let off : page / 16 ≡ v → ⊥ = (λ (h : page / 16 ≡ v). let t : (page / 16 == v) ≡ true = grind (arith, nat_tests) in both t q) in
      let beyond : 16 ≤ page - v * 16 = omega arith in
      ap option_to_list (get-beyond parts (page - v * 16) (omega arith))
    where
      both : {b : Bool} → b ≡ true → b ≡ false → ⊥
      both h k = cc
  by_test false true p q =
      let on : page / 16 ≡ v = grind (arith, nat_tests) in
      let under : page < v * 16 = grind (arith, nat_tests) in
      absurd (omega arith)
  by_test false false p q = refl

-- ---- a WRITE names loaded pages

in_range : (q page : ℕ) (parts : List (List ℕ)) (past : List ClientEvent) (ds : List Descriptor) → descriptors_for page parts past ≡ Some ds
    → page ≤ q → q < page + length parts → named_on q past < length (descriptors_on q past)
in_range q page [] past ds e from to = absurd (omega arith)
in_range q page (part ∷ parts) past ds e from to =
    by_parts (slice_get (descriptors_on page past) (named_on page past)) (descriptors_for (page + 1) parts past) refl refl e (page == q) refl
    (λ (later : List Descriptor) (r : descriptors_for (page + 1) parts past ≡ Some later) (f : page + 1 ≤ q). in_range q (page + 1) parts past later r f (omega arith))
  where
    within : (xs : List Descriptor) (i : ℕ) (y : Descriptor) → slice_get xs i ≡ Some y → i < length xs
    within [] i y h = absurd (let b : ⊥ = cc in b)
    within (z ∷ zs) zero y h = omega arith
    within (z ∷ zs) (suc i) y h = omega (arith, within zs i y h)

    by_parts : (o : Option Descriptor) (l : Option (List Descriptor)) → slice_get (descriptors_on page past) (named_on page past) ≡ o
        → descriptors_for (page + 1) parts past ≡ l → in_front o l ≡ Some ds → (t : Bool) → (page == q) ≡ t
        → ((later : List Descriptor) → descriptors_for (page + 1) parts past ≡ Some later → page + 1 ≤ q → named_on q past < length (descriptors_on q past))
        → named_on q past < length (descriptors_on q past)
    by_parts None l p r h t k ih = absurd (let b : ⊥ = cc in b)
    by_parts (Some d) None p r h t k ih = absurd (let b : ⊥ = cc in b)
    by_parts (Some d) (Some later) p r h true k ih =
        let same : page ≡ q = grind (arith, nat_tests) in
        subst (λ (x : ℕ). named_on x past < length (descriptors_on x past)) same (within (descriptors_on page past) (named_on page past) d p)
    by_parts (Some d) (Some later) p r h false k ih =
        let apart : page ≡ q → ⊥ = (λ (x : page ≡ q). let y : (page == q) ≡ true = grind (arith, nat_tests) in both y k) in
        ih later r (omega (arith, apart))
      where
        both : {b : Bool} → b ≡ true → b ≡ false → ⊥
        both x y = cc

names-bounded : (q page : ℕ) (parts : List (List ℕ)) (past : List ClientEvent) (ds : List Descriptor) → descriptors_for page parts past ≡ Some ds
    → named_on q past ≤ length (descriptors_on q past) → named_on q past + names_page q ds ≤ length (descriptors_on q past)
names-bounded q page parts past ds e h = by_tests (nat_le page q) (nat_lt q (page + length parts)) refl refl (names-pages q page parts past ds e) where
  by_tests : (t u : Bool) → nat_le page q ≡ t → nat_lt q (page + length parts) ≡ u → names_page q ds ≡ cond (t && u) 1 0
      → named_on q past + names_page q ds ≤ length (descriptors_on q past)
  by_tests true true a b n =
      let from : page ≤ q = grind (arith, nat_tests) in
      let to : q < page + length parts = grind (arith, nat_tests) in
      omega (arith, n, in_range q page parts past ds e from to)
  by_tests true false a b n = omega (arith, n)
  by_tests false u a b n = omega (arith, n)

-- ---- by induction on the past

names_in-append : (page : ℕ) (rs : List Request) (r : Request) → names_in page (rs ++ r ∷ []) ≡ names_in page rs + names_page page r.descriptors
unfolding names_in
names_in-append page [] r = omega arith
names_in-append page (x ∷ xs) r = omega (arith, names_in-append page xs r)

pub part-is : (w page : ℕ) (bytes : List ℕ) (past : List ClientEvent) → length bytes ≤ 65536
    → part_at (page_of w (length (groups_in past) + 1) 0) (pages_of bytes) page ≡ part_on w page (length (groups_in past)) bytes
part-is w page bytes past short =
    let few : length (pages_of bytes) ≤ 16 = omega (arith, length-parts ((length bytes + (4096 - 1)) / 4096) 4096 bytes) in
    let first_is : page_of w (length (groups_in past) + 1) 0 ≡ length (groups_in past) % w * 16 =
    ap (λ (k : ℕ). k % w * 16 + 0) (let e : length (groups_in past) + 1 - 1 ≡ length (groups_in past) = omega arith in e)
    ∙ (let e : length (groups_in past) % w * 16 + 0 ≡ length (groups_in past) % w * 16 = omega arith in e) in
    ap (λ (k : ℕ). part_at k (pages_of bytes) page) first_is ∙ window (length (groups_in past) % w) page (pages_of bytes) few

in_step-group : (w page : ℕ) (bytes : List ℕ) (past : List ClientEvent) → length bytes ≤ 65536 → InStep w page past → InStep w page (Group bytes ∷ past)
in_step-group w page bytes past short s =
    let first : ℕ = page_of w (length (groups_in past) + 1) 0 in
    let new : List Work = loads_on_free_pages w first (pages_of bytes) past in
    let few : length (pages_of bytes) ≤ 16 = omega (arith, length-parts ((length bytes + (4096 - 1)) / 4096) 4096 bytes) in
    let first_is : first ≡ length (groups_in past) % w * 16 =
    ap (λ (k : ℕ). k % w * 16 + 0) (let e : length (groups_in past) + 1 - 1 ≡ length (groups_in past) = omega arith in e)
    ∙ (let e : length (groups_in past) % w * 16 + 0 ≡ length (groups_in past) % w * 16 = omega arith in e) in
    let part : part_at first (pages_of bytes) page ≡ part_on w page (length (groups_in past)) bytes =
    ap (λ (k : ℕ). part_at k (pages_of bytes) page) first_is ∙ window (length (groups_in past) % w) page (pages_of bytes) few in
    let loads_new : count (is_load_on page) new ≡ cond (is_free w page past) (length (part_at first (pages_of bytes) page)) 0 = loads-of-group w page first (pages_of bytes) past in
    let fits = fitting (is_free w page past) refl loads_new in
    record {
      unloads = s.unloads;
      loads = s.loads;
      rest = s.rest ++ new;
      given = ap (λ (ws : List Work). ws ++ new) s.given ∙ append_assoc (jobs_given past) s.rest new;
      replied_to = omega (arith, s.replied_to, count-append (is_unload_on page) (jobs_due w past) new, unloads-none w page first (pages_of bytes) past);
      named = s.named;
      due = omega (arith, count-append (is_load_on page) (jobs_due w past) new, fits.0);
      parts = omega (arith, count-append (is_load_on page) (jobs_due w past) new, fits.1, ap length part, length-append (parts_on w page past) (part_on w page (length (groups_in past)) bytes));
    } where
      fitting : (t : Bool) → is_free w page past ≡ t
          → count (is_load_on page) (loads_on_free_pages w (page_of w (length (groups_in past) + 1) 0) (pages_of bytes) past)
          ≡ cond t (length (part_at (page_of w (length (groups_in past) + 1) 0) (pages_of bytes) page)) 0
          → (count (is_load_on page) (jobs_due w past) + count (is_load_on page) (loads_on_free_pages w (page_of w (length (groups_in past) + 1) 0) (pages_of bytes) past) ≤ unloads_on page past + 1)
          × (count (is_load_on page) (jobs_due w past) + count (is_load_on page) (loads_on_free_pages w (page_of w (length (groups_in past) + 1) 0) (pages_of bytes) past)
          ≤ length (parts_on w page past) + length (part_at (page_of w (length (groups_in past) + 1) 0) (pages_of bytes) page))
      fitting true e n =
          let free : length (parts_on w page past) ≤ unloads_on page past = grind (arith, nat_tests) in
          let one = at_most_one (page_of w (length (groups_in past) + 1) 0) page (pages_of bytes) in
          (omega (arith, n, s.parts, one), omega (arith, n, s.parts))
      fitting false e n = (omega (arith, n, s.due), omega (arith, n, s.parts))

in_step-gave : (w page : ℕ) (work : Work) (past : List ClientEvent) → slice_get (jobs_due w past) (length (jobs_given past)) ≡ Some work
    → InStep w page past → InStep w page (Gave work ∷ past)
unfolding count
in_step-gave w page work past e s =
    let next = split_at (jobs_given past) s.rest work (ap (λ (ws : List Work). slice_get ws (length (jobs_given past))) (sym s.given) ∙ e) in
    record {
      unloads = omega (
        arith,
        s.unloads,
        count-append (is_unload_on page) (jobs_given past) (work ∷ []),
        single (is_unload_on page),
        count_open-append (is_unload_on page) (open_jobs past) (record { number = length (jobs_given past); work = work }),
      );
      loads = omega (
        arith,
        s.loads,
        count-append (is_load_on page) (jobs_given past) (work ∷ []),
        single (is_load_on page),
        count_open-append (is_load_on page) (open_jobs past) (record { number = length (jobs_given past); work = work }),
      );
      rest = next.0;
      given = s.given ∙ ap (λ (ws : List Work). jobs_given past ++ ws) next.1 ∙ sym (append_assoc (jobs_given past) (work ∷ []) next.0);
      replied_to = s.replied_to;
      named = s.named;
      due = s.due;
      parts = s.parts;
    } where
      single : (f : Work → Bool) → count f (work ∷ []) ≡ one_if (f work)
      single f = omega arith

      split_at : (xs ys : List Work) (x : Work) → slice_get (xs ++ ys) (length xs) ≡ Some x → (rest : List Work) × (ys ≡ x ∷ rest)
      split_at [] [] x h = absurd (let b : ⊥ = cc in b)
      split_at [] (y ∷ ys) x h = (ys, let same : y ≡ x = cc in ap (λ (z : Work). z ∷ ys) same)
      split_at (z ∷ zs) ys x h = split_at zs ys x h

in_step-completed : (w page : ℕ) (c : Completion) (past : List ClientEvent) → AnswersJob past c → InStep w page past → InStep w page (Completed c ∷ past)
unfolding one_if
in_step-completed w page c past a s =
    let freed : page_freed c past ≡ page_unloaded (Some a.work) = ap page_unloaded a.is_open in
    let new : List Work = load_after w (page_freed c past) past in
    let u_is : unloads_on page (Completed c ∷ past) ≡ unloads_on page past + one_if (is_unload_on page a.work) =
    ap (λ (o : Option ℕ). cond (is_page page o) (unloads_on page past + 1) (unloads_on page past)) freed ∙ unload-count page a.work (unloads_on page past) in
    let open_u = count_open-without (is_unload_on page) c.number (open_jobs past) a.work a.is_open in
    let open_l = count_open-without (is_load_on page) c.number (open_jobs past) a.work a.is_open in
    let d_is : length (descriptors_on page past ++ loaded_by page c.result) ≡ length (descriptors_on page past) + one_if (is_load_on page a.work) =
    length-append (descriptors_on page past) (loaded_by page c.result) ∙ ap (λ (k : ℕ). length (descriptors_on page past) + k) (loaded-count page a.work c.result a.fits) in
    let few : count (is_load_on page) new ≤ one_if (is_unload_on page a.work) =
    subst (λ (o : Option ℕ). count (is_load_on page) (load_after w o past) ≤ one_if (is_unload_on page a.work)) (sym freed) (load-after w page a.work past) in
    let more : 1 ≤ count (is_load_on page) new → unloads_on page past + 1 < length (parts_on w page past) =
    subst (λ (o : Option ℕ). 1 ≤ count (is_load_on page) (load_after w o past) → unloads_on page past + 1 < length (parts_on w page past)) (sym freed) (load-after-parts w page a.work past) in
    record {
      unloads = omega (arith, u_is, open_u, s.unloads);
      loads = omega (arith, d_is, open_l, s.loads);
      rest = s.rest ++ new;
      given = ap (λ (ws : List Work). ws ++ new) s.given ∙ append_assoc (jobs_given past) s.rest new;
      replied_to = omega (arith, s.replied_to, count-append (is_unload_on page) (jobs_due w past) new, no-unload-after w page (page_freed c past) past);
      named = omega (arith, s.named, d_is);
      due = omega (arith, s.due, u_is, few, count-append (is_load_on page) (jobs_due w past) new);
      parts = bounded (count (is_load_on page) new) (one_if (is_unload_on page a.work)) few (bit (is_unload_on page a.work)) more (count-append (is_load_on page) (jobs_due w past) new);
    } where
      bit : (t : Bool) → one_if t ≤ 1
      bit true = omega arith
      bit false = omega arith

      bounded : (n b : ℕ) → n ≤ b → b ≤ 1 → (1 ≤ n → unloads_on page past + 1 < length (parts_on w page past))
          → count (is_load_on page) (jobs_due w past ++ load_after w (page_freed c past) past) ≡ count (is_load_on page) (jobs_due w past) + n
          → count (is_load_on page) (jobs_due w past ++ load_after w (page_freed c past) past) ≤ length (parts_on w page past)
      bounded zero b h k m e = omega (arith, e, s.parts)
      bounded (suc n) b h k m e = omega (arith, e, s.due, m (omega arith))

in_step-replied : (w page : ℕ) (m : List ℕ) (past : List ClientEvent) → InStep w page past → InStep w page (Replied m ∷ past)
unfolding count names_in
in_step-replied w page m past s = by_fault (reply_fault (answers past) m) refl where
  first_names : (rs : List Request) → count (is_unload_on page) (unloads_of_first rs) + names_in page (drop 1 rs) ≡ names_in page rs
  first_names [] = refl
  first_names (r ∷ rs) = omega (arith, unloads-named page r.descriptors)

  first_loads : (rs : List Request) → count (is_load_on page) (unloads_of_first rs) ≡ 0
  first_loads [] = refl
  first_loads (r ∷ rs) = loads-none page r.descriptors

  by_fault : (o : Option ReplyFault) → reply_fault (answers past) m ≡ o → InStep w page (Replied m ∷ past)
  by_fault None e =
      let new : List Work = unloads_of_first (answers past).unanswered in
      let due_is : jobs_due w (Replied m ∷ past) ≡ jobs_due w past ++ new = rw e refl in
      let left : (answers (Replied m ∷ past)).unanswered ≡ drop 1 (answers past).unanswered = rw e refl in
      record {
        unloads = s.unloads;
        loads = s.loads;
        rest = s.rest ++ new;
        given = due_is ∙ ap (λ (ws : List Work). ws ++ new) s.given ∙ append_assoc (jobs_given past) s.rest new;
        replied_to = omega (
          arith,
          s.replied_to,
          ap (count (is_unload_on page)) due_is,
          count-append (is_unload_on page) (jobs_due w past) new,
          ap (names_in page) left,
          first_names (answers past).unanswered,
        );
        named = s.named;
        due = omega (arith, s.due, ap (count (is_load_on page)) due_is, count-append (is_load_on page) (jobs_due w past) new, first_loads (answers past).unanswered);
        parts = omega (arith, s.parts, ap (count (is_load_on page)) due_is, count-append (is_load_on page) (jobs_due w past) new, first_loads (answers past).unanswered);
      }
  by_fault (Some f) e =
      let due_is : jobs_due w (Replied m ∷ past) ≡ jobs_due w past = rw e (append-nil (jobs_due w past)) in
      let left : (answers (Replied m ∷ past)).unanswered ≡ (answers past).unanswered = rw e refl in
      record {
        unloads = s.unloads;
        loads = s.loads;
        rest = s.rest;
        given = due_is ∙ s.given;
        replied_to = omega (arith, s.replied_to, ap (count (is_unload_on page)) due_is, ap (names_in page) left);
        named = s.named;
        due = omega (arith, s.due, ap (count (is_load_on page)) due_is);
        parts = omega (arith, s.parts, ap (count (is_load_on page)) due_is);
      }

in_step-sent : (w page : ℕ) (r : Request) (past : List ClientEvent) → SentCase (over w) past r → InStep w page past → InStep w page (Sent r ∷ past)
unfolding SentCase
in_step-sent w page r past k s = record {
  unloads = s.unloads;
  loads = s.loads;
  rest = s.rest;
  given = s.given;
  replied_to = omega (arith, s.replied_to, names_in-append page (answers past).unanswered r);
  named = by_case k;
  due = s.due;
  parts = s.parts;
} where
  by_write : (group : List ℕ) (o : Option (List Descriptor)) → descriptors_for (page_of w (length (requests_sent past) + 1) 0) (pages_of group) past ≡ o
      → option_map (registered_write (length (requests_sent past) + 1) (bytes_before (length (requests_sent past) + 1) past) group) o ≡ Some r
      → named_on page past + names_page page r.descriptors ≤ length (descriptors_on page past)
  by_write group None p e = absurd (let b : ⊥ = cc in b)
  by_write group (Some ds) p e =
      let r_is : registered_write (length (requests_sent past) + 1) (bytes_before (length (requests_sent past) + 1) past) group ds ≡ r = cc in
      let ds_is : ds ≡ r.descriptors = ap (λ (q : Request). q.descriptors) r_is in
      omega (arith, ap (names_page page) ds_is, names-bounded page (page_of w (length (requests_sent past) + 1) 0) (pages_of group) past ds p s.named)

  by_case : SentCase (over w) past r → named_on page past + names_page page r.descriptors ≤ length (descriptors_on page past)
  by_case (inl x) = by_write x.0 (descriptors_for (page_of w (length (requests_sent past) + 1) 0) (pages_of x.0) past) refl x.2
  by_case (inr x) = omega (arith, s.named, ap (λ (q : Request). names_page page q.descriptors) x.2)

same_work : (n : ℕ) (x y : Work) → ◌≡◌ {A = Option Job} (Some (record { number = n; work = x })) (Some (record { number = n; work = y })) → x ≡ y
same_work n x y e = ap (λ (o : Option Job). elim o [ None ↦ x | Some job ↦ job.work ]) e

pub in_step : (w page : ℕ) (past : List ClientEvent) → IsPut (over w) past → InStep w page past
unfolding count count_open names_in
in_step w page [] p = record { unloads = refl; loads = refl; rest = []; given = refl; replied_to = refl; named = omega arith; due = omega arith; parts = omega arith }
in_step w page (Group bytes ∷ past) p = in_step-group w page bytes past p.0.2 (in_step w page past p.1)
in_step w page (End ∷ past) p = let s = in_step w page past p.1 in
    record { unloads = s.unloads; loads = s.loads; rest = s.rest; given = s.given; replied_to = s.replied_to; named = s.named; due = s.due; parts = s.parts }
in_step w page (Sent r ∷ past) p = in_step-sent w page r past (sent_case (over w) past r p.0) (in_step w page past p.1)
in_step w page (Replied m ∷ past) p = in_step-replied w page m past (in_step w page past p.1)
in_step w page (Gave work ∷ past) p = in_step-gave w page work past (job_is (has_failed past) (slice_get (jobs_due w past) (length (jobs_given past))) refl p.0) (in_step w page past p.1) where
  job_is : (t : Bool) (o : Option Work) → slice_get (jobs_due w past) (length (jobs_given past)) ≡ o
      → cond t None (numbered (length (jobs_given past)) o) ≡ Some (record { number = length (jobs_given past); work = work })
      → slice_get (jobs_due w past) (length (jobs_given past)) ≡ Some work
  job_is true o e h = absurd (let b : ⊥ = cc in b)
  job_is false None e h = absurd (let b : ⊥ = cc in b)
  job_is false (Some x) e h = e ∙ ap Some (same_work (length (jobs_given past)) x work h)
in_step w page (Completed c ∷ past) p = in_step-completed w page c past p.0 (in_step w page past p.1)
in_step w page (Received bytes ∷ past) p = absurd p.0

-- ---- what a completion meets

pub counted : (f : Work → Bool) (n : ℕ) (jobs : List Job) (work : Work) → job_at n jobs ≡ Some work → f work ≡ true → 1 ≤ count_open f jobs
unfolding one_if
counted f n jobs work e h = omega (arith, count_open-without f n jobs work e, ap one_if h)

pub given-due : (f : Work → Bool) (due given rest : List Work) → due ≡ given ++ rest → count f given ≤ count f due
given-due f due given rest e = omega (arith, ap (count f) e, count-append f given rest)

work_of_load : (past : List ClientEvent) (number : ℕ) (d : Descriptor) (work : Work) → IsOfKind work (Loaded d) → is_load_on (token_of_descriptor d).page work ≡ true
unfolding is_load_on
work_of_load past number d (Load p r bytes) fits = let same : p ≡ (token_of_descriptor d).page = sym fits.1 in grind (arith, nat_tests)
work_of_load past number d (Fetch e) fits = absurd fits
work_of_load past number d (Place e bytes) fits = absurd fits
work_of_load past number d (Unload t) fits = absurd fits

no_page_of_load : (d : Descriptor) (work : Work) → IsOfKind work (Loaded d) → page_unloaded (Some work) ≡ None
no_page_of_load d (Load p r bytes) fits = refl
no_page_of_load d (Fetch e) fits = absurd fits
no_page_of_load d (Place e bytes) fits = absurd fits
no_page_of_load d (Unload t) fits = absurd fits

pub load-done : (w number : ℕ) (d : Descriptor) (past : List ClientEvent) → IsPut (over w) past → AnswersJob past (record { number = number; result = Loaded d })
    → IsLoadDone (token_of_descriptor d).page number d past
load-done w number d past p a =
    let page : ℕ = (token_of_descriptor d).page in
    let s = in_step w page past p in
    let one : 1 ≤ count_open (is_load_on page) (open_jobs past) = counted (is_load_on page) number (open_jobs past) a.work a.is_open (work_of_load past number d a.work a.fits) in
    record {
      on = refl;
      is_load = ap page_unloaded a.is_open ∙ no_page_of_load d a.work a.fits;
      named = omega (
        arith,
        one,
        s.unloads,
        s.loads,
        s.replied_to,
        s.named,
        s.due,
        given-due (is_load_on page) (jobs_due w past) (jobs_given past) s.rest s.given,
        given-due (is_unload_on page) (jobs_due w past) (jobs_given past) s.rest s.given,
      );
    }

pub unload-done : (w number page : ℕ) (bytes : List ℕ) (past : List ClientEvent) → IsPut (over w) past → AnswersJob past (record { number = number; result = Unloaded bytes })
    → page_freed (record { number = number; result = Unloaded bytes }) past ≡ Some page → IsUnloadDone w page number past
unfolding is_unload_on
unload-done w number page bytes past p a freed =
    let s = in_step w page past p in
    let one : 1 ≤ count_open (is_unload_on page) (open_jobs past) = counted (is_unload_on page) number (open_jobs past) a.work a.is_open (is_unload a.work (sym (ap page_unloaded a.is_open) ∙ freed)) in
    record {
      is_unload = λ others. freed;
      busy = omega (
        arith,
        one,
        s.unloads,
        s.loads,
        s.replied_to,
        s.named,
        s.parts,
        given-due (is_load_on page) (jobs_due w past) (jobs_given past) s.rest s.given,
        given-due (is_unload_on page) (jobs_due w past) (jobs_given past) s.rest s.given,
      );
    } where
      is_unload : (work : Work) → page_unloaded (Some work) ≡ Some page → is_unload_on page work ≡ true
      is_unload (Load q r b) e = absurd (let x : ⊥ = cc in x)
      is_unload (Fetch e) h = absurd (let x : ⊥ = cc in x)
      is_unload (Place e b) h = absurd (let x : ⊥ = cc in x)
      is_unload (Unload t) e = let same : t.page ≡ page = cc in by_page t.page same where
        by_page : (q : ℕ) → q ≡ page → (q == page) ≡ true
        by_page q h = grind (arith, nat_tests)
