-- The registered pages of a put.
use Rattle.std.proofs.Common.{◌≡◌, ◌⊎◌, inl, inr, ℕ, zero, suc, ◌+◌, ◌-◌, ◌*◌, ◌%◌, ◌<◌, ◌≤◌, ◌==◌, nat_lt, nat_le, not, ◌&&◌, Bool, true, false, cond, Option, Some, None, List, [], ◌∷◌, ◌++◌, length, drop, map, set, is_some, is_none, refl, sym, ap, ◌∙◌, subst, add-one, length-append, append_assoc, arith}
use Rattle.std.specs.Prelude.{slice_get, option_to_list, remove}
use Rattle.std.proofs.lemmas.Bool.Decides.{nat_tests}
use Rattle.std.proofs.lemmas.List.{append-nil}
use Rattle.std.proofs.Math.Seq.{drop-append_seam}
use Rattle.smbd_base.specs.declared.right.Right.TheVariants as right
use Rattle.buffer_descriptor.specs.declared.descriptor.Descriptor.{Descriptor}
use Rattle.file_messages.specs.declared.message.Request.{Request}
use Rattle.file_messages.specs.declared.job.Work.{Work}
use Rattle.file_messages.specs.declared.job.Work.TheVariants.{Load}
use Rattle.file_messages.specs.declared.job.WorkResult.TheVariants.{Loaded, Unloaded}
use Rattle.file_messages.specs.Runs.{pages_of}
use Rattle.file_pasts.specs.ClientPast.{ClientEvent, Completed, Group, Sent, groups_in, unloads_on, descriptors_on, page_freed, token_of_descriptor}
use Rattle.file_pasts.specs.PutDue.{jobs_due, parts_on, named_on, is_free, load_of_part, load_after, loads_on_free_pages, part_on, descriptors_for, in_front, names_page}
use Rattle.file_pasts.specs.InStep.{IsLoadDone, IsUnloadDone, part_at, named_at}
use Rattle.file_pasts.proofs.NamedPages.{names-pages}
use Rattle.file_pasts.proofs.InStep.{window}
use Rattle.file_transfer.specs.declared.client_jobs.Jobs.{Jobs}
use Rattle.file_transfer.specs.declared.loaded_page.LoadedPage.{LoadedPage}
use Rattle.file_transfer.specs.declared.put_pages.Page.{Page}
use Rattle.file_transfer.specs.declared.put_pages.UnderWay.{UnderWay}
use Rattle.file_transfer.specs.ClientJobs.{JobsStand}
use Rattle.file_transfer.specs.ClientStands.{descriptor_in}
use Rattle.file_transfer.specs.PutPagesStand.{PageStands, SlotsStand, PageTakes, PartsTaken, HasRoomOn, PageNamed, SlotsNamed, all_back, is_back, under_way_of}

-- ---- lists

pub first_left : {A : Type 0} (n : ℕ) (xs : List A) (x : A) (rest : List A) → drop n xs ≡ x ∷ rest → (slice_get xs n ≡ Some x) × (drop (suc n) xs ≡ rest) × (n < length xs)
first_left zero [] x rest e = absurd (let b : ⊥ = cc in b)
first_left (suc n) [] x rest e = absurd (let b : ⊥ = cc in b)
first_left zero (y ∷ ys) x rest e = (cc, cc, omega arith)
first_left (suc n) (y ∷ ys) x rest e = let ih = first_left n ys x rest e in (ih.0, ih.1, omega (arith, ih.2))

pub none_left : {A : Type 0} (n : ℕ) (xs : List A) → drop n xs ≡ [] → (slice_get xs n ≡ None) × (length xs ≤ n)
none_left zero [] e = (refl, omega arith)
none_left (suc n) [] e = (refl, omega arith)
none_left zero (y ∷ ys) e = absurd (let b : ⊥ = cc in b)
none_left (suc n) (y ∷ ys) e = let ih = none_left n ys e in (ih.0, omega (arith, ih.1))

-- an element of a list in which one place was set
pub at_set : {A : Type 0} (xs : List A) (i j : ℕ) (x y : A) → slice_get (set xs i x) j ≡ Some y
    → ((j ≡ i) × (y ≡ x)) ⊎ ((i ≡ j → ⊥) × (slice_get xs j ≡ Some y))
at_set [] i j x y e = absurd (let b : ⊥ = cc in b)
at_set (z ∷ zs) zero zero x y e = inl (refl, cc)
at_set (z ∷ zs) zero (suc j) x y e = inr (λ h. let b : ⊥ = omega arith in b, e)
at_set (z ∷ zs) (suc i) zero x y e = inr (λ h. let b : ⊥ = omega arith in b, e)
at_set (z ∷ zs) (suc i) (suc j) x y e = go (at_set zs i j x y e) where
  go : ((j ≡ i) × (y ≡ x)) ⊎ ((i ≡ j → ⊥) × (slice_get zs j ≡ Some y)) → ((suc j ≡ suc i) × (y ≡ x)) ⊎ ((suc i ≡ suc j → ⊥) × (slice_get zs j ≡ Some y))
  go (inl p) = inl (ap suc p.0, p.1)
  go (inr p) = inr (λ h. p.0 (omega (arith, h)), p.1)

-- ---- a page was loaded

pub stand-loaded : (w number page : ℕ) (loaded : LoadedPage) (past : List ClientEvent) (m n : List Page) (old new : Page) → SlotsStand w past m
    → IsLoadDone page number loaded.descriptor past → slice_get m page ≡ Some old → n ≡ set m page new
    → new.waiting ≡ old.waiting → new.fresh ≡ Some loaded → new.free ≡ old.free → new.unloads ≡ old.unloads
    → SlotsStand w (Completed (record { number = number; result = Loaded loaded.descriptor }) ∷ past) n
stand-loaded w number page loaded past m n old new s l at pages waiting fresh free unloads = record {
  each = λ q it there. by_page q it (at_set m page q new it (ap (λ (ps : List Page). slice_get ps q) (sym pages) ∙ there));
} where
  d : Descriptor
  d = loaded.descriptor

  same_count : (q : ℕ) → unloads_on q (Completed (record { number = number; result = Loaded loaded.descriptor }) ∷ past) ≡ unloads_on q past
  same_count q = let none : page_freed (record { number = number; result = Loaded loaded.descriptor }) past ≡ None = l.is_load in rw none refl

  by_page : (q : ℕ) (it : Page) → ((q ≡ page) × (it ≡ new)) ⊎ ((page ≡ q → ⊥) × (slice_get m q ≡ Some it))
      → PageStands w q (Completed (record { number = number; result = Loaded loaded.descriptor }) ∷ past) it
  by_page q it (inl p) =
      let before = s.each page old at in
      let on : ((token_of_descriptor loaded.descriptor).page == page) ≡ true = (let h : (token_of_descriptor loaded.descriptor).page ≡ page = l.on in grind (arith, nat_tests)) in
      subst (λ (k : ℕ). PageStands w k (Completed (record { number = number; result = Loaded loaded.descriptor }) ∷ past) it) (sym p.0)
      (subst (λ (t : Page). PageStands w page (Completed (record { number = number; result = Loaded loaded.descriptor }) ∷ past) t) (sym p.1)
      (record {
        waiting = rw (same_count page) (ap option_to_list waiting ∙ before.waiting);
        fresh = ap (λ (o : Option LoadedPage). map descriptor_in (option_to_list o)) fresh ∙ rw (on, l.named) (sym (drop-append_seam (descriptors_on page past) (loaded.descriptor ∷ [])));
        free = rw (same_count page) (free ∙ before.free);
        used = rw (same_count page) before.used;
        unloads = rw (same_count page) (unloads ∙ before.unloads);
      }))
  by_page q it (inr p) =
      let before = s.each q it p.1 in
      let off : ((token_of_descriptor loaded.descriptor).page == q) ≡ false = (let h : (token_of_descriptor loaded.descriptor).page ≡ page = l.on in let apart : page ≡ q → ⊥ = p.0 in grind (arith, nat_tests)) in
      record {
        waiting = rw (same_count q) before.waiting;
        fresh = rw (off, append-nil (descriptors_on q past)) before.fresh;
        free = rw (same_count q) before.free;
        used = rw (same_count q) before.used;
        unloads = rw (same_count q) before.unloads;
      }

-- ---- a page was unloaded

-- the part that waited is the next one
pub part-next : (w page : ℕ) (past : List ClientEvent) (old : Page) → PageStands w page past old → slice_get (parts_on w page past) (unloads_on page past + 1) ≡ old.waiting
part-next w page past old before = by_part old.waiting refl where
  by_part : (o : Option (List ℕ)) → old.waiting ≡ o → slice_get (parts_on w page past) (unloads_on page past + 1) ≡ old.waiting
  by_part None e = (none_left (unloads_on page past + 1) (parts_on w page past) (sym before.waiting ∙ ap option_to_list e)).0 ∙ sym e
  by_part (Some part) e = (first_left (unloads_on page past + 1) (parts_on w page past) part [] (sym before.waiting ∙ ap option_to_list e)).0 ∙ sym e

pub load-next : (w page : ℕ) (past : List ClientEvent) (m : List Page) (old : Page) (part : Option (List ℕ)) → SlotsStand w past m → slice_get m page ≡ Some old → part ≡ old.waiting
    → load_of_part page part ≡ load_after w (Some page) past
load-next w page past m old part s at e = ap (load_of_part page) (e ∙ sym (part-next w page past old (s.each page old at)))

pub stand-unloaded : (w number page : ℕ) (bytes : List ℕ) (past : List ClientEvent) (m n : List Page) (old new : Page)
    → SlotsStand w past m → IsUnloadDone w page number past → slice_get m page ≡ Some old → n ≡ set m page new
    → new.waiting ≡ None → new.fresh ≡ old.fresh → new.free ≡ is_none old.waiting → new.unloads ≡ old.unloads + 1
    → SlotsStand w (Completed (record { number = number; result = Unloaded bytes }) ∷ past) n
stand-unloaded w number page bytes past m n old new s u at pages waiting fresh free unloads = record {
  each = λ q it there. by_page q it (at_set m page q new it (ap (λ (ps : List Page). slice_get ps q) (sym pages) ∙ there));
} where
  before : PageStands w page past old
  before = s.each page old at

  beyond : (k : ℕ) (xs : List (List ℕ)) → length xs ≤ k → drop k xs ≡ []
  beyond zero [] h = refl
  beyond (suc k) [] h = refl
  beyond zero (x ∷ xs) h = absurd (omega arith)
  beyond (suc k) (x ∷ xs) h = beyond k xs (omega arith)

  rest : (o : Option (List ℕ)) → old.waiting ≡ o
      → (length (parts_on w page past) ≤ unloads_on page past + 1 + 1) × (new.free ≡ nat_le (length (parts_on w page past)) (unloads_on page past + 1))
  rest None e =
      let few : length (parts_on w page past) ≤ unloads_on page past + 1 = (none_left (unloads_on page past + 1) (parts_on w page past) (sym before.waiting ∙ ap option_to_list e)).1 in
      let t : nat_le (length (parts_on w page past)) (unloads_on page past + 1) ≡ true = grind (arith, nat_tests) in
      (omega arith, free ∙ ap is_none e ∙ sym t)
  rest (Some part) e =
      let next = first_left (unloads_on page past + 1) (parts_on w page past) part [] (sym before.waiting ∙ ap option_to_list e) in
      let within : unloads_on page past + 1 < length (parts_on w page past) = next.2 in
      let few : length (parts_on w page past) ≤ suc (unloads_on page past + 1) = (none_left (suc (unloads_on page past + 1)) (parts_on w page past) next.1).1 in
      let t : nat_le (length (parts_on w page past)) (unloads_on page past + 1) ≡ false = grind (arith, nat_tests) in
      (omega arith, free ∙ ap is_none e ∙ sym t)

  by_page : (q : ℕ) (it : Page) → ((q ≡ page) × (it ≡ new)) ⊎ ((page ≡ q → ⊥) × (slice_get m q ≡ Some it))
      → PageStands w q (Completed (record { number = number; result = Unloaded bytes }) ∷ past) it
  by_page q it (inl p) =
      let freed : page_freed (record { number = number; result = Unloaded bytes }) past ≡ Some page = u.is_unload bytes in
      let same : (page == page) ≡ true = grind (arith, nat_tests) in
      let count : unloads_on page (Completed (record { number = number; result = Unloaded bytes }) ∷ past) ≡ unloads_on page past + 1 = rw (freed, same) refl in
      let now = rest old.waiting refl in
      subst (λ (k : ℕ). PageStands w k (Completed (record { number = number; result = Unloaded bytes }) ∷ past) it) (sym p.0)
      (subst (λ (t : Page). PageStands w page (Completed (record { number = number; result = Unloaded bytes }) ∷ past) t) (sym p.1)
      (record {
        waiting = ap option_to_list waiting ∙ sym (beyond (unloads_on page past + 1 + 1) (parts_on w page past) now.0) ∙ ap (λ (k : ℕ). drop (k + 1) (parts_on w page past)) (sym count);
        fresh = ap (λ (o : Option LoadedPage). map descriptor_in (option_to_list o)) fresh ∙ before.fresh ∙ ap (λ (ds : List Descriptor). drop (named_on page past) ds) (sym (append-nil (descriptors_on page past)));
        free = now.1 ∙ ap (λ (k : ℕ). nat_le (length (parts_on w page past)) k) (sym count);
        used = omega (arith, count, u.busy);
        unloads = unloads ∙ ap (λ (k : ℕ). k + 1) before.unloads ∙ sym count;
      }))
  by_page q it (inr p) =
      let freed : page_freed (record { number = number; result = Unloaded bytes }) past ≡ Some page = u.is_unload bytes in
      let other : (page == q) ≡ false = (let apart : page ≡ q → ⊥ = p.0 in grind (arith, nat_tests)) in
      let count : unloads_on q (Completed (record { number = number; result = Unloaded bytes }) ∷ past) ≡ unloads_on q past = rw (freed, other) refl in
      let old_one = s.each q it p.1 in
      record {
        waiting = old_one.waiting ∙ ap (λ (k : ℕ). drop (k + 1) (parts_on w q past)) (sym count);
        fresh = old_one.fresh ∙ ap (λ (ds : List Descriptor). drop (named_on q past) ds) (sym (append-nil (descriptors_on q past)));
        free = old_one.free ∙ ap (λ (k : ℕ). nat_le (length (parts_on w q past)) k) (sym count);
        used = omega (arith, count, old_one.used);
        unloads = old_one.unloads ∙ sym count;
      }

-- ---- the parts of a group are taken

get-append-same : (xs : List (List ℕ)) (x : List ℕ) → slice_get (xs ++ x ∷ []) (length xs) ≡ Some x
get-append-same [] x = refl
get-append-same (y ∷ ys) x = get-append-same ys x

get-append-other : (xs : List (List ℕ)) (x : List ℕ) (k : ℕ) → (k ≡ length xs → ⊥) → slice_get (xs ++ x ∷ []) k ≡ slice_get xs k
get-append-other [] x zero h = absurd (h refl)
get-append-other [] x (suc k) h = refl
get-append-other (y ∷ ys) x zero h = refl
get-append-other (y ∷ ys) x (suc k) h = get-append-other ys x k (λ e. h (ap suc e))

get-beyond : {A : Type 0} (xs : List A) (k : ℕ) → length xs ≤ k → slice_get xs k ≡ None
get-beyond [] k h = refl
get-beyond (x ∷ xs) zero h = absurd (omega arith)
get-beyond (x ∷ xs) (suc k) h = get-beyond xs k (omega arith)

part_at-next : (first : ℕ) (taken : List (List ℕ)) (part : List ℕ) → part_at first (taken ++ part ∷ []) (first + length taken) ≡ part ∷ []
part_at-next first taken part =
    let within : nat_le first (first + length taken) ≡ true = grind (arith, nat_tests) in
    let place : first + length taken - first ≡ length taken = omega arith in
    rw (within, place, get-append-same taken part) refl

part_at-none : (first : ℕ) (taken : List (List ℕ)) → part_at first taken (first + length taken) ≡ []
part_at-none first taken =
    let within : nat_le first (first + length taken) ≡ true = grind (arith, nat_tests) in
    let place : first + length taken - first ≡ length taken = omega arith in
    let none : slice_get taken (length taken) ≡ None = get-beyond taken (length taken) (omega arith) in
    rw (within, place, none) refl

part_at-other : (first page : ℕ) (taken : List (List ℕ)) (part : List ℕ) → (page ≡ first + length taken → ⊥) → part_at first (taken ++ part ∷ []) page ≡ part_at first taken page
part_at-other first page taken part apart = by_test (nat_le first page) refl where
  by_test : (t : Bool) → nat_le first page ≡ t → cond t (option_to_list (slice_get (taken ++ part ∷ []) (page - first))) [] ≡ cond t (option_to_list (slice_get taken (page - first))) []
  by_test true e =
      let within : first ≤ page = grind (arith, nat_tests) in
      ap option_to_list (get-append-other taken part (page - first) (λ h. apart (omega (arith, h))))
  by_test false e = refl

loads-append : (w page : ℕ) (taken : List (List ℕ)) (part : List ℕ) (past : List ClientEvent)
    → loads_on_free_pages w page (taken ++ part ∷ []) past
    ≡ loads_on_free_pages w page taken past ++ (cond (is_free w (page + length taken) past) (Load (page + length taken) right.Fetch part ∷ []) [])
loads-append w page [] part past =
    let here : page + 0 ≡ page = omega arith in
    rw here (append-nil (cond (is_free w page past) (Load page right.Fetch part ∷ []) []))
loads-append w page (x ∷ xs) part past =
    let here : page + 1 + length xs ≡ page + suc (length xs) = omega arith in
    ap (λ (ws : List Work). cond (is_free w page past) (Load page right.Fetch x ∷ []) [] ++ ws)
    (loads-append w (page + 1) xs part past
    ∙ ap (λ (k : ℕ). loads_on_free_pages w (page + 1) xs past ++ cond (is_free w k past) (Load k right.Fetch part ∷ []) []) here)
    ∙ sym (append_assoc (cond (is_free w page past) (Load page right.Fetch x ∷ []) []) (loads_on_free_pages w (page + 1) xs past)
    (cond (is_free w (page + suc (length xs)) past) (Load (page + suc (length xs)) right.Fetch part ∷ []) []))

pub taken-none : (w first : ℕ) (past : List ClientEvent) (m : List Page) (q : Jobs) → SlotsStand w past m → JobsStand (jobs_due w past) past q → PartsTaken w first [] past m q
taken-none w first past m q s j = record {
  due = subst (λ (ws : List Work). JobsStand ws past q) (sym (append-nil (jobs_due w past))) j;
  each = λ page it at.
      let old = s.each page it at in
      let none : part_at first [] page ≡ [] = no_part (nat_le first page) in
      record {
        waiting = old.waiting ∙ ap (λ (ps : List (List ℕ)). drop (unloads_on page past + 1) ps) (sym (append-nil (parts_on w page past)) ∙ ap (λ (ps : List (List ℕ)). parts_on w page past ++ ps) (sym none));
        fresh = old.fresh;
        free = old.free ∙ ap (λ (ps : List (List ℕ)). nat_le (length ps) (unloads_on page past)) (sym (append-nil (parts_on w page past)) ∙ ap (λ (ps : List (List ℕ)). parts_on w page past ++ ps) (sym none));
        used = old.used;
        unloads = old.unloads;
      };
} where
  no_part : (t : Bool) → cond {A = List (List ℕ)} t [] [] ≡ []
  no_part true = refl
  no_part false = refl

-- the slot of the page that takes the next part, before it does
before-part : (w first page : ℕ) (taken : List (List ℕ)) (past : List ClientEvent) (old : Page) → page ≡ first + length taken
    → PageTakes w page past (part_at first taken page) old → PageStands w page past old
before-part w first page taken past old e s =
    let none : parts_on w page past ++ part_at first taken page ≡ parts_on w page past =
    ap (λ (ps : List (List ℕ)). parts_on w page past ++ ps) (ap (part_at first taken) e ∙ part_at-none first taken) ∙ append-nil (parts_on w page past) in
    record {
      waiting = s.waiting ∙ ap (λ (ps : List (List ℕ)). drop (unloads_on page past + 1) ps) none;
      fresh = s.fresh;
      free = s.free ∙ ap (λ (ps : List (List ℕ)). nat_le (length ps) (unloads_on page past)) none;
      used = s.used;
      unloads = s.unloads;
    }

-- the parts after this one
loads-more : (w first page : ℕ) (taken : List (List ℕ)) (part : List ℕ) (past : List ClientEvent) (free : Bool) → page ≡ first + length taken → is_free w page past ≡ free
    → jobs_due w past ++ loads_on_free_pages w first (taken ++ part ∷ []) past
    ≡ (jobs_due w past ++ loads_on_free_pages w first taken past) ++ cond free (Load page right.Fetch part ∷ []) []
loads-more w first page taken part past free e free_is =
    ap (λ (ws : List Work). jobs_due w past ++ ws)
    (loads-append w first taken part past
    ∙ ap (λ (k : ℕ). loads_on_free_pages w first taken past ++ cond (is_free w k past) (Load k right.Fetch part ∷ []) []) (sym e)
    ∙ ap (λ (t : Bool). loads_on_free_pages w first taken past ++ cond t (Load page right.Fetch part ∷ []) []) free_is)
    ∙ sym (append_assoc (jobs_due w past) (loads_on_free_pages w first taken past) (cond free (Load page right.Fetch part ∷ []) []))

pub taken-more : (w first page : ℕ) (taken : List (List ℕ)) (part : List ℕ) (past : List ClientEvent) (m n : List Page) (q r : Jobs) (old new : Page) (free : Bool)
    → PartsTaken w first taken past m q → page ≡ first + length taken → HasRoomOn w page (page + 1) past → slice_get m page ≡ Some old → old.free ≡ free
    → n ≡ set m page new
    → ((came_due : List Work) → JobsStand came_due past q → JobsStand (came_due ++ cond free (Load page right.Fetch part ∷ []) []) past r)
    → new.waiting ≡ cond free old.waiting (Some part) → new.free ≡ false → new.fresh ≡ old.fresh → new.unloads ≡ old.unloads
    → PartsTaken w first (taken ++ part ∷ []) past n r
taken-more w first page taken part past m n q r old new free s e room at is_free_ pages jobs waiting unfree fresh unloads = record {
  due = subst (λ (ws : List Work). JobsStand ws past r) (sym (loads-more w first page taken part past free e free_is))
      (jobs (jobs_due w past ++ loads_on_free_pages w first taken past) s.due);
  each = λ k it there. by_page k it (at_set m page k new it (ap (λ (ps : List Page). slice_get ps k) (sym pages) ∙ there));
} where
  before : PageStands w page past old
  before = before-part w first page taken past old e (s.each page old at)

  free_is : is_free w page past ≡ free
  free_is = sym before.free ∙ is_free_

  once : length (parts_on w page past) ≤ unloads_on page past + 1
  once = room.once page (omega arith) (omega arith)

  nothing_left : (k : ℕ) (xs : List (List ℕ)) → length xs ≤ k → drop k xs ≡ []
  nothing_left zero [] h = refl
  nothing_left (suc k) [] h = refl
  nothing_left zero (x ∷ xs) h = absurd (omega arith)
  nothing_left (suc k) (x ∷ xs) h = nothing_left k xs (omega arith)

  above : (a b : ℕ) → b < a → nat_le a b ≡ false
  above a b h = grind (arith, nat_tests)

  no_wait : old.waiting ≡ None
  no_wait = none_of old.waiting (before.waiting ∙ nothing_left (unloads_on page past + 1) (parts_on w page past) once)
    where
      none_of : (o : Option (List ℕ)) → option_to_list o ≡ [] → o ≡ None
      none_of None h = refl
      none_of (Some x) h = absurd (let b : ⊥ = cc in b)

  long : length (parts_on w page past ++ part ∷ []) ≡ length (parts_on w page past) + 1
  long = length-append (parts_on w page past) (part ∷ [])

  own : (f : Bool) → free ≡ f → PageTakes w page past (part ∷ []) new
  own true f =
      let few : nat_le (length (parts_on w page past)) (unloads_on page past) ≡ true = free_is ∙ f in
      let same : length (parts_on w page past) ≡ unloads_on page past = (let u : unloads_on page past ≤ length (parts_on w page past) = before.used in grind (arith, nat_tests)) in
      record {
        waiting = ap option_to_list (waiting ∙ ap (λ (t : Bool). cond t old.waiting (Some part)) f ∙ no_wait)
            ∙ sym (nothing_left (unloads_on page past + 1) (parts_on w page past ++ part ∷ []) (omega (arith, long)));
        fresh = ap (λ (o : Option LoadedPage). map descriptor_in (option_to_list o)) fresh ∙ before.fresh;
        free = unfree ∙ sym (above (length (parts_on w page past ++ part ∷ [])) (unloads_on page past) (omega (arith, long)));
        used = before.used;
        unloads = unloads ∙ before.unloads;
      }
  own false f =
      let many : nat_le (length (parts_on w page past)) (unloads_on page past) ≡ false = free_is ∙ f in
      let same : length (parts_on w page past) ≡ unloads_on page past + 1 = (let o = once in grind (arith, nat_tests)) in
      record {
        waiting = ap option_to_list (waiting ∙ ap (λ (t : Bool). cond t old.waiting (Some part)) f)
            ∙ sym (ap (λ (k : ℕ). drop k (parts_on w page past ++ part ∷ [])) (sym same) ∙ drop-append_seam (parts_on w page past) (part ∷ []));
        fresh = ap (λ (o : Option LoadedPage). map descriptor_in (option_to_list o)) fresh ∙ before.fresh;
        free = unfree ∙ sym (above (length (parts_on w page past ++ part ∷ [])) (unloads_on page past) (omega (arith, long, same)));
        used = before.used;
        unloads = unloads ∙ before.unloads;
      }

  by_page : (k : ℕ) (it : Page) → ((k ≡ page) × (it ≡ new)) ⊎ ((page ≡ k → ⊥) × (slice_get m k ≡ Some it))
      → PageTakes w k past (part_at first (taken ++ part ∷ []) k) it
  by_page k it (inl p) =
      subst (λ (j : ℕ). PageTakes w j past (part_at first (taken ++ part ∷ []) j) it) (sym p.0)
      (subst (λ (t : Page). PageTakes w page past (part_at first (taken ++ part ∷ []) page) t) (sym p.1)
      (subst (λ (ps : List (List ℕ)). PageTakes w page past ps new) (sym (ap (part_at first (taken ++ part ∷ [])) e ∙ part_at-next first taken part)) (own free refl)))
  by_page k it (inr p) =
      subst (λ (ps : List (List ℕ)). PageTakes w k past ps it) (sym (part_at-other first k taken part (λ h. p.0 (e ∙ sym h)))) (s.each k it p.1)

-- a whole group was taken
pub stand-handed : (w first : ℕ) (bytes : List ℕ) (past : List ClientEvent) (m : List Page) (q : Jobs) → length (pages_of bytes) ≤ 16 → first ≡ length (groups_in past) % w * 16
    → PartsTaken w first (pages_of bytes) past m q → SlotsStand w (Group bytes ∷ past) m
stand-handed w first bytes past m q few at s = record {
  each = λ page it there.
      let one = s.each page it there in
      let part : part_at first (pages_of bytes) page ≡ part_on w page (length (groups_in past)) bytes =
      ap (λ (k : ℕ). part_at k (pages_of bytes) page) at ∙ window (length (groups_in past) % w) page (pages_of bytes) few in
      record {
        waiting = one.waiting ∙ ap (λ (ps : List (List ℕ)). drop (unloads_on page past + 1) (parts_on w page past ++ ps)) part;
        fresh = one.fresh;
        free = one.free ∙ ap (λ (ps : List (List ℕ)). nat_le (length (parts_on w page past ++ ps)) (unloads_on page past)) part;
        used = omega (arith, one.used, length-append (parts_on w page past) (part_on w page (length (groups_in past)) bytes));
        unloads = one.unloads;
      };
}

-- ---- the descriptors of a group

pub prepend : List Descriptor → Option (List Descriptor) → Option (List Descriptor)
prepend ds None = None
prepend ds (Some later) = Some (ds ++ later)

fresh_none : (w page : ℕ) (past : List ClientEvent) (it : Page) → PageStands w page past it → it.fresh ≡ None → slice_get (descriptors_on page past) (named_on page past) ≡ None
fresh_none w page past it s e =
    (none_left (named_on page past) (descriptors_on page past) (sym s.fresh ∙ ap (λ (o : Option LoadedPage). map descriptor_in (option_to_list o)) e)).0

fresh_some : (w page : ℕ) (past : List ClientEvent) (it : Page) (loaded : LoadedPage) → PageStands w page past it → it.fresh ≡ Some loaded
    → slice_get (descriptors_on page past) (named_on page past) ≡ Some loaded.descriptor
fresh_some w page past it loaded s e =
    (first_left (named_on page past) (descriptors_on page past) loaded.descriptor [] (sym s.fresh ∙ ap (λ (o : Option LoadedPage). map descriptor_in (option_to_list o)) e)).0

part_left : (k : ℕ) (parts : List (List ℕ)) → k < length parts → (part : List ℕ) × (drop k parts ≡ part ∷ drop (suc k) parts)
part_left k [] h = absurd (omega arith)
part_left zero (p ∷ ps) h = (p, refl)
part_left (suc k) (p ∷ ps) h = part_left k ps (omega arith)

-- how far the descriptors were collected
pub record HasFound (w first page : ℕ) (past : List ClientEvent) (parts : List (List ℕ)) (found : List Descriptor) : Type 0 where
  pub so_far : descriptors_for first parts past ≡ prepend found (descriptors_for page (drop (page - first) parts) past)

pub found-none : (w first : ℕ) (past : List ClientEvent) (parts : List (List ℕ)) → HasFound w first first past parts []
unfolding prepend
found-none w first past parts = record {
  so_far =
      let here : first - first ≡ 0 = omega arith in
      rw here (same (descriptors_for first parts past));
} where
  same : (o : Option (List Descriptor)) → o ≡ prepend [] o
  same None = refl
  same (Some ds) = refl

pub found-more : (w first page count : ℕ) (past : List ClientEvent) (parts : List (List ℕ)) (found : List Descriptor) (m : List Page) (it : Page) (loaded : LoadedPage)
    → SlotsStand w past m → HasFound w first page past parts found → length parts ≡ count → first ≤ page → page < first + count
    → slice_get m page ≡ Some it → it.fresh ≡ Some loaded → HasFound w first (page + 1) past parts (found ++ loaded.descriptor ∷ [])
unfolding prepend
found-more w first page count past parts found m it loaded s h size from to at fresh =
    let left = part_left (page - first) parts (omega arith) in
    let d_is : slice_get (descriptors_on page past) (named_on page past) ≡ Some loaded.descriptor = fresh_some w page past it loaded (s.each page it at) fresh in
    let next : page + 1 - first ≡ suc (page - first) = omega arith in
    let opened : descriptors_for page (drop (page - first) parts) past ≡ in_front (Some loaded.descriptor) (descriptors_for (page + 1) (drop (suc (page - first)) parts) past) =
    ap (λ (ps : List (List ℕ)). descriptors_for page ps past) left.1
    ∙ ap (λ (o : Option Descriptor). in_front o (descriptors_for (page + 1) (drop (suc (page - first)) parts) past)) d_is in
    record {
      so_far = h.so_far ∙ ap (prepend found) opened ∙ one_more (descriptors_for (page + 1) (drop (suc (page - first)) parts) past)
          ∙ ap (λ (k : ℕ). prepend (found ++ loaded.descriptor ∷ []) (descriptors_for (page + 1) (drop k parts) past)) (sym next);
    } where
      one_more : (o : Option (List Descriptor)) → prepend found (in_front (Some loaded.descriptor) o) ≡ prepend (found ++ loaded.descriptor ∷ []) o
      one_more None = refl
      one_more (Some ds) = ap Some (sym (append_assoc found (loaded.descriptor ∷ []) ds))

pub found-missing : (w first page count : ℕ) (past : List ClientEvent) (parts : List (List ℕ)) (found : List Descriptor) (m : List Page) (it : Page)
    → SlotsStand w past m → HasFound w first page past parts found → length parts ≡ count → first ≤ page → page < first + count
    → slice_get m page ≡ Some it → it.fresh ≡ None → None ≡ descriptors_for first parts past
unfolding prepend
found-missing w first page count past parts found m it s h size from to at fresh =
    let left = part_left (page - first) parts (omega arith) in
    let d_is : slice_get (descriptors_on page past) (named_on page past) ≡ None = fresh_none w page past it (s.each page it at) fresh in
    sym (h.so_far ∙ ap (prepend found)
    (ap (λ (ps : List (List ℕ)). descriptors_for page ps past) left.1
    ∙ ap (λ (o : Option Descriptor). in_front o (descriptors_for (page + 1) (drop (suc (page - first)) parts) past)) d_is))

pub found-all : (w first page count : ℕ) (past : List ClientEvent) (parts : List (List ℕ)) (found : List Descriptor)
    → HasFound w first page past parts found → length parts ≡ count → first + count ≤ page → Some found ≡ descriptors_for first parts past
unfolding prepend
found-all w first page count past parts found h size to =
    let none : drop (page - first) parts ≡ [] = beyond (page - first) parts (omega arith) in
    ap Some (sym (append-nil found)) ∙ sym (h.so_far ∙ ap (λ (ps : List (List ℕ)). prepend found (descriptors_for page ps past)) none)
  where
    beyond : (k : ℕ) (xs : List (List ℕ)) → length xs ≤ k → drop k xs ≡ []
    beyond zero [] b = refl
    beyond (suc k) [] b = refl
    beyond zero (x ∷ xs) b = absurd (omega arith)
    beyond (suc k) (x ∷ xs) b = beyond k xs (omega arith)

-- ---- a WRITE is given

named_at-none : (first page : ℕ) → named_at first first page ≡ 0
named_at-none first page = by_test (nat_le first page) (nat_lt page first) refl refl where
  by_test : (t u : Bool) → nat_le first page ≡ t → nat_lt page first ≡ u → cond {A = ℕ} (t && u) 1 0 ≡ 0
  by_test true true p q = absurd (let a : first ≤ page = grind (arith, nat_tests) in let b : page < first = grind (arith, nat_tests) in omega arith)
  by_test true false p q = refl
  by_test false u p q = refl

named_at-here : (first page : ℕ) → first ≤ page → named_at first (page + 1) page ≡ 1
named_at-here first page h =
    let a : nat_le first page ≡ true = grind (arith, nat_tests) in
    let b : nat_lt page (page + 1) ≡ true = grind (arith, nat_tests) in
    rw (a, b) refl

named_at-other : (first page q : ℕ) → (page ≡ q → ⊥) → named_at first (page + 1) q ≡ named_at first page q
named_at-other first page q apart = ap (λ (t : Bool). cond (nat_le first q && t) 1 0) (same (nat_lt q page) refl) where
  same : (t : Bool) → nat_lt q page ≡ t → nat_lt q (page + 1) ≡ nat_lt q page
  same true e = let h : nat_lt q (page + 1) ≡ true = grind (arith, nat_tests) in h ∙ sym e
  same false e =
      let over : page ≤ q = grind (arith, nat_tests) in
      let beyond : page < q = omega (arith, apart) in
      let h : nat_lt q (page + 1) ≡ false = grind (arith, nat_tests) in h ∙ sym e

pub named-none : (w first : ℕ) (past : List ClientEvent) (m : List Page) → SlotsStand w past m → SlotsNamed w first first past m
named-none w first past m s = record {
  each = λ page it at.
      let old = s.each page it at in
      let none : named_on page past + named_at first first page ≡ named_on page past = ap (λ (k : ℕ). named_on page past + k) (named_at-none first page) ∙ (let e : named_on page past + 0 ≡ named_on page past = omega arith in e) in
      record { waiting = old.waiting; fresh = old.fresh ∙ ap (λ (k : ℕ). drop k (descriptors_on page past)) (sym none); free = old.free; used = old.used; unloads = old.unloads };
}

pub named-more : (w first page : ℕ) (past : List ClientEvent) (m n : List Page) (old new : Page) → SlotsNamed w first page past m → first ≤ page
    → slice_get m page ≡ Some old → n ≡ set m page new
    → new.waiting ≡ old.waiting → new.fresh ≡ None → new.free ≡ old.free → new.unloads ≡ old.unloads → SlotsNamed w first (page + 1) past n
named-more w first page past m n old new s from at pages waiting fresh free unloads = record {
  each = λ q it there. by_page q it (at_set m page q new it (ap (λ (ps : List Page). slice_get ps q) (sym pages) ∙ there));
} where
  at_most_one : (o : Option LoadedPage) (k : ℕ) (xs : List Descriptor) → map descriptor_in (option_to_list o) ≡ drop k xs → drop (k + 1) xs ≡ []
  at_most_one o k xs e = rw (add-one k) (by_one k xs (short o (drop k xs) e)) where
    short : (p : Option LoadedPage) (ys : List Descriptor) → map descriptor_in (option_to_list p) ≡ ys → length ys ≤ 1
    short None ys h = omega (arith, ap length h)
    short (Some d) ys h = omega (arith, ap length h)

    by_one : (j : ℕ) (ys : List Descriptor) → length (drop j ys) ≤ 1 → drop (suc j) ys ≡ []
    by_one zero [] h = refl
    by_one (suc j) [] h = refl
    by_one zero (y ∷ []) h = refl
    by_one zero (y ∷ (z ∷ zs)) h = absurd (omega arith)
    by_one (suc j) (y ∷ ys) h = by_one j ys h

  not_named : (q : ℕ) → named_at first q q ≡ 0
  not_named q = by_test (nat_le first q) (nat_lt q q) refl where
    by_test : (t u : Bool) → nat_lt q q ≡ u → cond {A = ℕ} (t && u) 1 0 ≡ 0
    by_test true true e = absurd (let b : q < q = grind (arith, nat_tests) in omega arith)
    by_test true false e = refl
    by_test false u e = refl

  by_page : (q : ℕ) (it : Page) → ((q ≡ page) × (it ≡ new)) ⊎ ((page ≡ q → ⊥) × (slice_get m q ≡ Some it))
      → PageNamed w q past (named_at first (page + 1) q) it
  by_page q it (inl p) =
      let before = s.each page old at in
      let plain : map descriptor_in (option_to_list old.fresh) ≡ drop (named_on page past) (descriptors_on page past) =
      before.fresh ∙ ap (λ (k : ℕ). drop k (descriptors_on page past)) (ap (λ (k : ℕ). named_on page past + k) (not_named page) ∙ (let e : named_on page past + 0 ≡ named_on page past = omega arith in e)) in
      subst (λ (k : ℕ). PageNamed w k past (named_at first (page + 1) k) it) (sym p.0)
      (subst (λ (t : Page). PageNamed w page past (named_at first (page + 1) page) t) (sym p.1)
      (subst (λ (k : ℕ). PageNamed w page past k new) (sym (named_at-here first page from))
      (record {
        waiting = ap option_to_list waiting ∙ before.waiting;
        fresh = ap (λ (o : Option LoadedPage). map descriptor_in (option_to_list o)) fresh ∙ sym (at_most_one old.fresh (named_on page past) (descriptors_on page past) plain);
        free = free ∙ before.free;
        used = before.used;
        unloads = unloads ∙ before.unloads;
      })))
  by_page q it (inr p) = subst (λ (k : ℕ). PageNamed w q past k it) (sym (named_at-other first page q p.0)) (s.each q it p.1)

-- a WRITE was given
pub stand-named : (w first count : ℕ) (past : List ClientEvent) (m : List Page) (r : Request) (parts : List (List ℕ)) → SlotsNamed w first (first + count) past m
    → length parts ≡ count → descriptors_for first parts past ≡ Some r.descriptors → SlotsStand w (Sent r ∷ past) m
stand-named w first count past m r parts s size e = record {
  each = λ page it at.
      let old = s.each page it at in
      let names : names_page page r.descriptors ≡ named_at first (first + count) page =
      names-pages page first parts past r.descriptors e ∙ ap (λ (k : ℕ). named_at first (first + k) page) size in
      record { waiting = old.waiting; fresh = old.fresh ∙ ap (λ (k : ℕ). drop (named_on page past + k) (descriptors_on page past)) (sym names); free = old.free; used = old.used; unloads = old.unloads };
}

-- ---- pages that were unloaded

pub none-is : (o p : Option (List ℕ)) (r : Bool) → is_some p ≡ not r → p ≡ o → r ≡ is_none o
none-is o None true e h = ap is_none h
none-is o None false e h = absurd (let b : ⊥ = cc in b)
none-is o (Some x) true e h = absurd (let b : ⊥ = cc in b)
none-is o (Some x) false e h = ap is_none h

back-step : (turn page last : ℕ) (past : List ClientEvent) → page < last
    → all_back turn page (last - page) past ≡ (nat_lt turn (unloads_on page past) && all_back turn (page + 1) (last - (page + 1)) past)
back-step turn page last past h = ap (λ (n : ℕ). all_back turn page n past) (let e : last - page ≡ suc (last - (page + 1)) = omega arith in e)

pub back-none : (turn first pages : ℕ) (past : List ClientEvent) → all_back turn first pages past ≡ all_back turn first (first + pages - first) past
back-none turn first pages past = ap (λ (n : ℕ). all_back turn first n past) (let e : pages ≡ first + pages - first = omega arith in e)

pub not_back-at : (w turn page last : ℕ) (past : List ClientEvent) (slots : List Page) (it : Page) → SlotsStand w past slots → slice_get slots page ≡ Some it → page < last
    → it.unloads ≤ turn → all_back turn page (last - page) past ≡ false
not_back-at w turn page last past slots it s at h few =
    let u : it.unloads ≡ unloads_on page past = (s.each page it at).unloads in
    let off : nat_lt turn (unloads_on page past) ≡ false = below turn (unloads_on page past) (omega arith) in
    back-step turn page last past h ∙ ap (λ (t : Bool). t && all_back turn (page + 1) (last - (page + 1)) past) off
  where
    below : (a b : ℕ) → b ≤ a → nat_lt a b ≡ false
    below a b k = grind (arith, nat_tests)

pub back-at : (w turn page last : ℕ) (past : List ClientEvent) (slots : List Page) (it : Page) → SlotsStand w past slots → slice_get slots page ≡ Some it → page < last
    → turn < it.unloads → all_back turn page (last - page) past ≡ all_back turn (page + 1) (last - (page + 1)) past
back-at w turn page last past slots it s at h more =
    let u : it.unloads ≡ unloads_on page past = (s.each page it at).unloads in
    let on : nat_lt turn (unloads_on page past) ≡ true = above turn (unloads_on page past) (omega arith) in
    back-step turn page last past h ∙ ap (λ (t : Bool). t && all_back turn (page + 1) (last - (page + 1)) past) on
  where
    above : (a b : ℕ) → a < b → nat_lt a b ≡ true
    above a b k = grind (arith, nat_tests)

pub back-all : (turn page last : ℕ) (past : List ClientEvent) → last ≤ page → all_back turn page (last - page) past ≡ true
back-all turn page last past h = ap (λ (n : ℕ). all_back turn page n past) (let e : last - page ≡ 0 = omega arith in e)

-- ---- groups whose pages are all unloaded

at_place : (xs : List UnderWay) (p : ℕ) (x : UnderWay) → slice_get xs p ≡ Some x → drop p xs ≡ x ∷ drop (suc p) xs
at_place [] p x e = absurd (let b : ⊥ = cc in b)
at_place (y ∷ ys) zero x e = let same : y ≡ x = cc in ap (λ (z : UnderWay). z ∷ ys) same
at_place (y ∷ ys) (suc p) x e = at_place ys p x e

get-remove : (xs : List UnderWay) (p k : ℕ) → k < p → slice_get (remove xs p) k ≡ slice_get xs k
get-remove [] zero k h = absurd (omega arith)
get-remove [] (suc p) k h = refl
get-remove (x ∷ xs) zero k h = absurd (omega arith)
get-remove (x ∷ xs) (suc p) zero h = refl
get-remove (x ∷ xs) (suc p) (suc k) h = get-remove xs p k (omega arith)

drop-remove : (xs : List UnderWay) (p : ℕ) → p < length xs → drop p (remove xs p) ≡ drop (suc p) xs
drop-remove [] p h = absurd (omega arith)
drop-remove (x ∷ xs) zero h = refl
drop-remove (x ∷ xs) (suc p) h = drop-remove xs p (omega arith)

pub length-remove : (xs : List UnderWay) (p : ℕ) → p < length xs → length (remove xs p) + 1 ≡ length xs
length-remove [] p h = absurd (omega arith)
length-remove (x ∷ xs) zero h = omega arith
length-remove (x ∷ xs) (suc p) h = omega (arith, length-remove xs p (omega arith))

-- how far the groups from the last one on were looked at
pub record HasDropped (w place : ℕ) (past : List ClientEvent) (now old : List UnderWay) : Type 0 where
  pub rest : drop place now ≡ under_way_of past (drop place old)

pub dropped-back : (w place : ℕ) (past : List ClientEvent) (now old : List UnderWay) (x : UnderWay) → 0 < place → place ≤ length now → slice_get now (place - 1) ≡ Some x → slice_get old (place - 1) ≡ Some x
    → is_back past x ≡ true → HasDropped w place past now old → HasDropped w (place - 1) past (remove now (place - 1)) old
dropped-back w place past now old x some within at was back d =
    let next : suc (place - 1) ≡ place = omega arith in
    record {
      rest = drop-remove now (place - 1) (omega arith) ∙ ap (λ (k : ℕ). drop k now) next ∙ d.rest
          ∙ ap (λ (k : ℕ). under_way_of past (drop k old)) (sym next)
          ∙ sym (ap (under_way_of past) (at_place old (place - 1) x was) ∙ ap (λ (t : Bool). cond (not t) (x ∷ under_way_of past (drop (suc (place - 1)) old)) (under_way_of past (drop (suc (place - 1)) old))) back);
    }

pub dropped-kept : (w place : ℕ) (past : List ClientEvent) (now old : List UnderWay) (x : UnderWay) → 0 < place → slice_get now (place - 1) ≡ Some x → slice_get old (place - 1) ≡ Some x
    → is_back past x ≡ false → HasDropped w place past now old → HasDropped w (place - 1) past now old
dropped-kept w place past now old x some at was back d =
    let next : suc (place - 1) ≡ place = omega arith in
    record {
      rest = at_place now (place - 1) x at ∙ ap (λ (k : ℕ). x ∷ drop k now) next ∙ ap (λ (xs : List UnderWay). x ∷ xs) d.rest
          ∙ ap (λ (k : ℕ). x ∷ under_way_of past (drop k old)) (sym next)
          ∙ sym (ap (under_way_of past) (at_place old (place - 1) x was) ∙ ap (λ (t : Bool). cond (not t) (x ∷ under_way_of past (drop (suc (place - 1)) old)) (under_way_of past (drop (suc (place - 1)) old))) back);
    }

pub get-still : (xs old : List UnderWay) (p : ℕ) → ((k : ℕ) → k < p → slice_get xs k ≡ slice_get old k) → (k : ℕ) → k < p - 1 → slice_get (remove xs (p - 1)) k ≡ slice_get old k
get-still xs old p h k l = get-remove xs (p - 1) k l ∙ h k (omega arith)

pub nothing_after : (past : List ClientEvent) (xs : List UnderWay) (n : ℕ) → length xs ≤ n → drop n xs ≡ under_way_of past (drop n xs)
nothing_after past xs n h = let e = none n xs h in e ∙ ap (under_way_of past) (sym e) where
  none : (k : ℕ) (ys : List UnderWay) → length ys ≤ k → drop k ys ≡ []
  none zero [] q = refl
  none (suc k) [] q = refl
  none zero (y ∷ ys) q = absurd (omega arith)
  none (suc k) (y ∷ ys) q = none k ys (omega arith)

-- ---- pages that were never used

pub record IsUnused (it : Page) : Type 0 where
  pub waiting : it.waiting ≡ None
  pub fresh : it.fresh ≡ None
  pub unloads : it.unloads ≡ 0
  pub free : it.free ≡ true

pub unused-more : (xs : List Page) (y : Page) → ((k : ℕ) (it : Page) → slice_get xs k ≡ Some it → IsUnused it) → IsUnused y
    → (k : ℕ) (it : Page) → slice_get (xs ++ y ∷ []) k ≡ Some it → IsUnused it
unused-more [] y f u zero it e = let same : y ≡ it = cc in subst IsUnused same u
unused-more [] y f u (suc k) it e = absurd (let b : ⊥ = cc in b)
unused-more (x ∷ xs) y f u zero it e = f zero it e
unused-more (x ∷ xs) y f u (suc k) it e = unused-more xs y (λ j other h. f (suc j) other h) u k it e

pub stand-unused : (w : ℕ) (slots : List Page) → ((k : ℕ) (it : Page) → slice_get slots k ≡ Some it → IsUnused it) → SlotsStand w [] slots
stand-unused w slots f = record {
  each = λ page it at.
      let u = f page it at in
      record {
        waiting = ap option_to_list u.waiting;
        fresh = ap (λ (o : Option LoadedPage). map descriptor_in (option_to_list o)) u.fresh;
        free = u.free;
        used = omega arith;
        unloads = u.unloads;
      };
}

pub no_page : (k : ℕ) (it : Page) → slice_get {X = Page} [] k ≡ Some it → IsUnused it
no_page k it e = absurd (let b : ⊥ = cc in b)
