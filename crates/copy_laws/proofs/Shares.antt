-- The jobs of one worker among those that its machine gave.
use Rattle.std.proofs.Common.{◌≡◌, ℕ, suc, ◌+◌, ◌%◌, ◌==◌, Bool, true, false, cond, Some, List, [], ◌∷◌, ◌++◌, length, map, refl, sym, ap, ◌∙◌, subst, arith, append_assoc, length-append}
use Rattle.std.specs.Prelude.{slice_get}
use Rattle.std.proofs.lemmas.Bool.Decides.{nat_tests}
use Rattle.file_messages.specs.declared.job.Work.{Work}
use Rattle.file_messages.specs.declared.job.Work.TheVariants.{Load, Fetch, Place, Unload}
use Rattle.file_messages.specs.declared.job.Job.{Job}
use Rattle.file_pasts.specs.PutPages.{load_bytes, bytes_loaded}
use Rattle.copy_laws.specs.Shares.{is_for, jobs_for}
use Rattle.copy_laws.proofs.Eaches.{Each}

-- one more job: it is the worker's, or another's
abbrev pub one_for : ℕ → ℕ → ℕ → Work → List Job
one_for n q k work = cond {A = List Job} (is_for n q work) ((record { number = k; work = work }) ∷ []) []

pub jobs_for-more : (n q k : ℕ) (works : List Work) (work : Work) → jobs_for n q k (works ++ work ∷ []) ≡ jobs_for n q k works ++ one_for n q (k + length works) work
jobs_for-more n q k [] work = by_test (is_for n q work) where
  by_test : (t : Bool) → cond {A = List Job} t ((record { number = k; work = work }) ∷ []) [] ≡ cond {A = List Job} t ((record { number = k + 0; work = work }) ∷ []) []
  by_test true = ap (λ (m : ℕ). (record { number = m; work = work }) ∷ []) (let z : k ≡ k + 0 = omega arith in z)
  by_test false = refl
jobs_for-more n q k (w ∷ works) work = by_test (is_for n q w) (jobs_for-more n q (k + 1) works work) where
  next : k + 1 + length works ≡ k + suc (length works)
  next = omega arith

  by_test : (t : Bool) → jobs_for n q (k + 1) (works ++ work ∷ []) ≡ jobs_for n q (k + 1) works ++ one_for n q (k + 1 + length works) work
      → cond t ((record { number = k; work = w }) ∷ jobs_for n q (k + 1) (works ++ work ∷ [])) (jobs_for n q (k + 1) (works ++ work ∷ []))
      ≡ cond t ((record { number = k; work = w }) ∷ jobs_for n q (k + 1) works) (jobs_for n q (k + 1) works) ++ one_for n q (k + suc (length works)) work
  by_test true ih = ap (λ (js : List Job). (record { number = k; work = w }) ∷ js) (ih ∙ ap (λ (m : ℕ). jobs_for n q (k + 1) works ++ one_for n q m work) next)
  by_test false ih = ih ∙ ap (λ (m : ℕ). jobs_for n q (k + 1) works ++ one_for n q m work) next

-- a job of a worker: it stands at its number, and is the worker's
pub record IsShare (n q : ℕ) (works : List Work) (j : Job) : Type 0 where
  pub at : slice_get works j.number ≡ Some j.work
  pub own : is_for n q j.work ≡ true

get-middle : (before later : List Work) (work : Work) → slice_get (before ++ work ∷ later) (length before) ≡ Some work
get-middle [] later work = refl
get-middle (w ∷ before) later work = get-middle before later work

shares : (n q : ℕ) (before works : List Work) → Each (IsShare n q (before ++ works)) (jobs_for n q (length before) works)
shares n q before [] = tt
shares n q before (w ∷ works) =
    by_test (is_for n q w) refl
    (subst (λ (xs : List Work). Each (IsShare n q xs) (jobs_for n q (length before + 1) works)) (append_assoc before (w ∷ []) works)
    (subst (λ (k : ℕ). Each (IsShare n q ((before ++ w ∷ []) ++ works)) (jobs_for n q k works)) (length-append before (w ∷ [])) (shares n q (before ++ w ∷ []) works)))
  where
    all : List Work
    all = before ++ w ∷ works

    by_test : (t : Bool) → is_for n q w ≡ t → Each (IsShare n q all) (jobs_for n q (length before + 1) works)
        → Each (IsShare n q all) (cond t ((record { number = length before; work = w }) ∷ jobs_for n q (length before + 1) works) (jobs_for n q (length before + 1) works))
    by_test true own ih = (record { at = get-middle before works w; own = own }, ih)
    by_test false own ih = ih

pub each-share : (n q : ℕ) (works : List Work) → Each (IsShare n q works) (jobs_for n q 0 works)
each-share n q works = shares n q [] works

-- what jobs ask for
abbrev pub works_of : List Job → List Work
works_of jobs = map (λ (j : Job). j.work) jobs

same-number : (a b : ℕ) → a ≡ b → (a == b) ≡ true
same-number a b h = grind (arith, nat_tests)

-- a Load of a page is for the worker of the page
other-loads : (n page : ℕ) (work : Work) → is_for n (page % n + 1) work ≡ false → load_bytes page work ≡ []
unfolding load_bytes
other-loads n page (Load p r bytes) h = by_test (p == page) refl where
  by_test : (t : Bool) → (p == page) ≡ t → cond t (bytes ∷ []) [] ≡ []
  by_test true e =
      let same : p ≡ page = grind (arith, nat_tests) in
      let own : is_for n (page % n + 1) (Load p r bytes) ≡ true = same-number (p % n + 1) (page % n + 1) (ap (λ (x : ℕ). x % n + 1) same) in
      absurd (let b : ⊥ = cc in b)
  by_test false e = refl
other-loads n page (Fetch d) h = refl
other-loads n page (Place d bytes) h = refl
other-loads n page (Unload t) h = refl

-- so that worker has all Loads of the page
pub loads-for : (n page k : ℕ) (works : List Work) → bytes_loaded page (works_of (jobs_for n (page % n + 1) k works)) ≡ bytes_loaded page works
unfolding bytes_loaded
loads-for n page k [] = refl
loads-for n page k (w ∷ works) = by_test (is_for n (page % n + 1) w) refl (loads-for n page (k + 1) works) where
  by_test : (t : Bool) → is_for n (page % n + 1) w ≡ t → bytes_loaded page (works_of (jobs_for n (page % n + 1) (k + 1) works)) ≡ bytes_loaded page works
      → bytes_loaded page (works_of (cond t ((record { number = k; work = w }) ∷ jobs_for n (page % n + 1) (k + 1) works) (jobs_for n (page % n + 1) (k + 1) works)))
      ≡ load_bytes page w ++ bytes_loaded page works
  by_test true own ih = ap (λ (bs : List (List ℕ)). load_bytes page w ++ bs) ih
  by_test false own ih = ih ∙ ap (λ (bs : List (List ℕ)). bs ++ bytes_loaded page works) (sym (other-loads n page w own))
