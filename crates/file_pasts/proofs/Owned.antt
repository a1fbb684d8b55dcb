-- The j-th load of a page has the run's descriptor of the j-th part of the page, where a pool gives the tokens.
use Rattle.std.proofs.Common.{◌≡◌, ◌⊎◌, inl, inr, ℕ, zero, suc, ◌+◌, ◌*◌, ◌==◌, Bool, true, false, cond, Option, Some, List, [], ◌∷◌, ◌++◌, length, refl, sym, ap, ◌∙◌, subst, append_assoc, arith}
use Rattle.std.specs.Prelude.{slice_get}
use Rattle.std.proofs.lemmas.Bool.Decides.{nat_tests}
use Rattle.std.proofs.lemmas.List.{append-nil}
use Rattle.smbd_base.specs.Tokens.{number_of}
use Rattle.buffer_descriptor.specs.declared.descriptor.Descriptor.{Descriptor}
use Rattle.file_messages.specs.declared.job.Job.{Job}
use Rattle.file_messages.specs.declared.job.Work.{Work}
use Rattle.file_messages.specs.declared.job.Work.TheVariants.{Load, Fetch, Place, Unload}
use Rattle.file_messages.specs.declared.job.WorkResult.{WorkResult}
use Rattle.file_messages.specs.declared.job.WorkResult.TheVariants.{Loaded, Unloaded, Fetched, Placed}
use Rattle.file_messages.specs.Runs.{descriptor_of_load}
use Rattle.file_pasts.specs.ClientPast.{ClientEvent, Group, End, Sent, Replied, Gave, Completed, Received, groups_in, jobs_given, open_jobs, job_at, without_job, descriptors_on, loaded_by, token_of_descriptor, IsOfKind}
use Rattle.file_pasts.specs.PutDue.{IsPut, jobs_due, parts_on, part_on}
use Rattle.file_pasts.specs.PutTokens.{IsNextToken, HasPoolTokens}
use Rattle.file_pasts.specs.InStep.{is_load_on, is_unload_on, one_if, count, count_open, over}
use Rattle.file_pasts.proofs.InStep.{count-append, count_open-without, given-due, in_step}
use Rattle.file_pasts.proofs.Owning.{bytes_loaded-append, length-bytes_loaded, get-take, carries-parts}
use Rattle.file_pasts.specs.PutPages.{load_bytes, bytes_loaded, OwnsPart}

-- ---- open Loads of a page carry this part

abbrev pub Carries : ℕ → Option (List ℕ) → Work → Type 0
Carries page part (Load p r bytes) = p ≡ page → part ≡ Some bytes
Carries page part (Fetch d) = Unit {0}
Carries page part (Place d bytes) = Unit {0}
Carries page part (Unload t) = Unit {0}

abbrev pub AllCarry : ℕ → Option (List ℕ) → List Job → Type 0
AllCarry page part [] = Unit {0}
AllCarry page part (job ∷ later) = Carries page part job.work × AllCarry page part later

one-carries : (page : ℕ) (x y : Option (List ℕ)) (work : Work) → ((b : List ℕ) → x ≡ Some b → y ≡ Some b) → Carries page x work → Carries page y work
one-carries page x y (Load p r bytes) f c = λ e. f bytes (c e)
one-carries page x y (Fetch d) f c = tt
one-carries page x y (Place d bytes) f c = tt
one-carries page x y (Unload t) f c = tt

carry-map : (page : ℕ) (x y : Option (List ℕ)) (jobs : List Job) → ((b : List ℕ) → x ≡ Some b → y ≡ Some b) → AllCarry page x jobs → AllCarry page y jobs
carry-map page x y [] f a = tt
carry-map page x y (job ∷ later) f a = (one-carries page x y job.work f a.0, carry-map page x y later f a.1)

carry-append : (page : ℕ) (x : Option (List ℕ)) (jobs : List Job) (job : Job) → AllCarry page x jobs → Carries page x job.work → AllCarry page x (jobs ++ job ∷ [])
carry-append page x [] job a c = (c, tt)
carry-append page x (j ∷ js) job a c = (a.0, carry-append page x js job a.1 c)

carry-without : (page : ℕ) (x : Option (List ℕ)) (n : ℕ) (jobs : List Job) → AllCarry page x jobs → AllCarry page x (without_job n jobs)
carry-without page x n [] a = tt
carry-without page x n (job ∷ later) a = by_test (job.number == n) (carry-without page x n later a.1) where
  by_test : (t : Bool) → AllCarry page x (without_job n later) → AllCarry page x (cond t later (job ∷ without_job n later))
  by_test true r = a.1
  by_test false r = (a.0, r)

carry-at : (page : ℕ) (x : Option (List ℕ)) (n : ℕ) (jobs : List Job) (work : Work) → AllCarry page x jobs → job_at n jobs ≡ Some work → Carries page x work
carry-at page x n [] work a e = absurd (let b : ⊥ = cc in b)
carry-at page x n (job ∷ later) work a e = by_test (job.number == n) e (λ (h : job_at n later ≡ Some work). carry-at page x n later work a.1 h) where
  by_test : (t : Bool) → cond t (Some job.work) (job_at n later) ≡ Some work → (job_at n later ≡ Some work → Carries page x work) → Carries page x work
  by_test true h f = let same : job.work ≡ work = cc in subst (λ (v : Work). Carries page x v) same a.0
  by_test false h f = f h

carry-none : (page : ℕ) (x : Option (List ℕ)) (jobs : List Job) → count_open (is_load_on page) jobs ≡ 0 → AllCarry page x jobs
unfolding count_open one_if is_load_on
carry-none page x [] e = tt
carry-none page x (job ∷ later) e =
    (by_work job.work (omega arith), carry-none page x later (omega arith)) where
      by_work : (work : Work) → one_if (is_load_on page work) ≡ 0 → Carries page x work
      by_work (Load p r bytes) z = λ same. absurd (let on : (p == page) ≡ true = grind (arith, nat_tests) in omega (arith, z, ap one_if on))
      by_work (Fetch d) z = tt
      by_work (Place d bytes) z = tt
      by_work (Unload t) z = tt

-- ---- loads and the parts that they carry

pub record Owned (page : ℕ) (descriptors : List Descriptor) (parts : List (List ℕ)) (jobs : List Job) : Type 0 where
  pub own : (j : ℕ) (d : Descriptor) → slice_get descriptors j ≡ Some d → OwnsPart parts page j d
  pub carry : AllCarry page (slice_get parts (length descriptors)) jobs

get-more : {A : Type 0} (xs ys : List A) (j : ℕ) (x : A) → slice_get xs j ≡ Some x → slice_get (xs ++ ys) j ≡ Some x
get-more [] ys j x e = absurd (let b : ⊥ = cc in b)
get-more (z ∷ zs) ys zero x e = e
get-more (z ∷ zs) ys (suc j) x e = get-more zs ys j x e

get-last : (xs : List Descriptor) (y : Descriptor) (j : ℕ) (d : Descriptor) → slice_get (xs ++ y ∷ []) j ≡ Some d → (slice_get xs j ≡ Some d) ⊎ ((j ≡ length xs) × (d ≡ y))
get-last [] y zero d e = inr (refl, cc)
get-last [] y (suc j) d e = absurd (let b : ⊥ = cc in b)
get-last (z ∷ zs) y zero d e = inl e
get-last (z ∷ zs) y (suc j) d e = go (get-last zs y j d e) where
  go : (slice_get zs j ≡ Some d) ⊎ ((j ≡ length zs) × (d ≡ y)) → (slice_get zs j ≡ Some d) ⊎ ((suc j ≡ suc (length zs)) × (d ≡ y))
  go (inl h) = inl h
  go (inr h) = inr (ap suc h.0, h.1)

descriptor-same : (d e : Descriptor) → d.offset ≡ e.offset → d.token ≡ e.token → d.length ≡ e.length → d ≡ e
descriptor-same d e p q r = λ i. record { offset = p i; token = q i; length = r i }

owned-group : (page : ℕ) (ds : List Descriptor) (parts more : List (List ℕ)) (jobs : List Job) → Owned page ds parts jobs → Owned page ds (parts ++ more) jobs
owned-group page ds parts more jobs o = record {
  own = λ j d e. let h = o.own j d e in record { part = h.part; at = get-more parts more j h.part h.at; same = h.same };
  carry = carry-map page (slice_get parts (length ds)) (slice_get (parts ++ more) (length ds)) jobs (λ b e. get-more parts more (length ds) b e) o.carry;
}

owned-completed : (page n : ℕ) (ds : List Descriptor) (parts : List (List ℕ)) (jobs : List Job) (past : List ClientEvent) (work : Work) (result : WorkResult)
    → Owned page ds parts jobs → ds ≡ descriptors_on page past → IsOfKind work result → IsNextToken result past → job_at n jobs ≡ Some work
    → (is_load_on page work ≡ true → count_open (is_load_on page) (without_job n jobs) ≡ 0)
    → Owned page (ds ++ loaded_by page result) parts (without_job n jobs)
unfolding is_load_on
owned-completed page n ds parts jobs past (Load q r bytes) (Loaded d) o ds_is fits token opened last = by_page ((token_of_descriptor d).page == page) refl where
  unchanged : Owned page (ds ++ []) parts (without_job n jobs)
  unchanged = subst (λ (xs : List Descriptor). Owned page xs parts (without_job n jobs)) (sym (append-nil ds))
      (record { own = o.own; carry = carry-without page (slice_get parts (length ds)) n jobs o.carry })

  by_page : (t : Bool) → ((token_of_descriptor d).page == page) ≡ t → Owned page (ds ++ cond t (d ∷ []) []) parts (without_job n jobs)
  by_page false e = unchanged
  by_page true e =
      let on : (token_of_descriptor d).page ≡ page = grind (arith, nat_tests) in
      let here : q ≡ page = sym fits.1 ∙ on in
      let part : slice_get parts (length ds) ≡ Some bytes = carry-at page (slice_get parts (length ds)) n jobs (Load q r bytes) o.carry opened here in
      let is_load : (q == page) ≡ true = grind (arith, nat_tests) in
      let offset : d.offset ≡ page * 4096 = fits.0 ∙ ap (λ (k : ℕ). k * 4096) here in
      let number : d.token ≡ number_of (record { page = page; generation = length ds + 1 }) =
      token ∙ ap (λ (k : ℕ). number_of (record { page = k; generation = length (descriptors_on k past) + 1 })) on
      ∙ ap (λ (xs : List Descriptor). number_of (record { page = page; generation = length xs + 1 })) (sym ds_is) in
      let same : d ≡ descriptor_of_load page (length ds) (length bytes) = descriptor-same d (descriptor_of_load page (length ds) (length bytes)) offset number fits.3 in
      record {
        own = λ j x h. by_place j x (get-last ds d j x h) part same;
        carry = carry-none page (slice_get parts (length (ds ++ d ∷ []))) (without_job n jobs) (last is_load);
      }
    where
      by_place : (j : ℕ) (x : Descriptor) → (slice_get ds j ≡ Some x) ⊎ ((j ≡ length ds) × (x ≡ d)) → slice_get parts (length ds) ≡ Some bytes
          → d ≡ descriptor_of_load page (length ds) (length bytes) → OwnsPart parts page j x
      by_place j x (inl h) part same = o.own j x h
      by_place j x (inr h) part same = record {
        part = bytes;
        at = ap (λ (k : ℕ). slice_get parts k) h.0 ∙ part;
        same = h.1 ∙ same ∙ ap (λ (k : ℕ). descriptor_of_load page k (length bytes)) (sym h.0);
      }
owned-completed page n ds parts jobs past (Fetch d) (Fetched bytes) o ds_is fits token opened last = subst (λ (xs : List Descriptor). Owned page xs parts (without_job n jobs)) (sym (append-nil ds)) (record { own = o.own; carry = carry-without page (slice_get parts (length ds)) n jobs o.carry })
owned-completed page n ds parts jobs past (Place d bytes) Placed o ds_is fits token opened last = subst (λ (xs : List Descriptor). Owned page xs parts (without_job n jobs)) (sym (append-nil ds)) (record { own = o.own; carry = carry-without page (slice_get parts (length ds)) n jobs o.carry })
owned-completed page n ds parts jobs past (Unload t) (Unloaded bytes) o ds_is fits token opened last = subst (λ (xs : List Descriptor). Owned page xs parts (without_job n jobs)) (sym (append-nil ds)) (record { own = o.own; carry = carry-without page (slice_get parts (length ds)) n jobs o.carry })
owned-completed page n ds parts jobs past work result o ds_is fits token opened last = absurd fits

-- the job that is given next carries the next part of its page
given-carries : (w page : ℕ) (work : Work) (past : List ClientEvent) → IsPut (over w) (Gave work ∷ past) → Carries page (slice_get (parts_on w page past) (length (descriptors_on page past))) work
unfolding bytes_loaded load_bytes count one_if is_load_on
given-carries w page (Load q r bytes) past p = λ here.
    let s = in_step w page past p.1 in
    let t = in_step w page (Gave (Load q r bytes) ∷ past) p in
    let on : (q == page) ≡ true = grind (arith, nat_tests) in
    let split : bytes_loaded page (jobs_due w past) ≡ bytes_loaded page (jobs_given past) ++ bytes ∷ bytes_loaded page t.rest =
    ap (bytes_loaded page) (t.given ∙ append_assoc (jobs_given past) (Load q r bytes ∷ []) t.rest)
    ∙ bytes_loaded-append page (jobs_given past) (Load q r bytes ∷ t.rest)
    ∙ ap (λ (b : Bool). bytes_loaded page (jobs_given past) ++ (cond b (bytes ∷ []) [] ++ bytes_loaded page t.rest)) on in
    let got : slice_get (parts_on w page past) (length (bytes_loaded page (jobs_given past))) ≡ Some bytes =
    get-take (count (is_load_on page) (jobs_due w past)) (parts_on w page past) (bytes_loaded page (jobs_given past)) (bytes_loaded page t.rest) bytes (sym (carries-parts w page past p.1) ∙ split) in
    let one : count (is_load_on page) (jobs_given past ++ Load q r bytes ∷ []) ≡ count (is_load_on page) (jobs_given past) + 1 =
    count-append (is_load_on page) (jobs_given past) (Load q r bytes ∷ []) ∙ ap (λ (b : Bool). count (is_load_on page) (jobs_given past) + (one_if b + 0)) on in
    let place : length (bytes_loaded page (jobs_given past)) ≡ length (descriptors_on page past) =
    omega (
      arith,
      length-bytes_loaded page (jobs_given past),
      one,
      s.unloads,
      s.loads,
      s.replied_to,
      s.named,
      s.due,
      given-due (is_load_on page) (jobs_due w past) (jobs_given past ++ Load q r bytes ∷ []) t.rest t.given,
      given-due (is_unload_on page) (jobs_due w past) (jobs_given past) s.rest s.given,
    ) in
    ap (λ (k : ℕ). slice_get (parts_on w page past) k) (sym place) ∙ got
given-carries w page (Fetch d) past p = tt
given-carries w page (Place d bytes) past p = tt
given-carries w page (Unload t) past p = tt

one_true : one_if true ≡ 1
unfolding one_if
one_true = refl

pub owned : (w page : ℕ) (past : List ClientEvent) → IsPut (over w) past → HasPoolTokens past → Owned page (descriptors_on page past) (parts_on w page past) (open_jobs past)
owned w page [] p k = record { own = λ j d e. absurd (let b : ⊥ = cc in b); carry = tt }
owned w page (Group bytes ∷ past) p k = owned-group page (descriptors_on page past) (parts_on w page past) (part_on w page (length (groups_in past)) bytes) (open_jobs past) (owned w page past p.1 k)
owned w page (End ∷ past) p k = owned w page past p.1 k
owned w page (Sent r ∷ past) p k = owned w page past p.1 k
owned w page (Replied m ∷ past) p k = owned w page past p.1 k
owned w page (Gave work ∷ past) p k =
    let o = owned w page past p.1 k in
    record { own = o.own; carry = carry-append page (slice_get (parts_on w page past) (length (descriptors_on page past))) (open_jobs past) (record { number = length (jobs_given past); work = work }) o.carry (given-carries w page work past p) }
owned w page (Completed c ∷ past) p k =
    owned-completed page c.number (descriptors_on page past) (parts_on w page past) (open_jobs past) past p.0.work c.result (owned w page past p.1 k.1) refl p.0.fits k.0 p.0.is_open
    (λ (h : is_load_on page p.0.work ≡ true). none_left h) where
      none_left : is_load_on page p.0.work ≡ true → count_open (is_load_on page) (without_job c.number (open_jobs past)) ≡ 0
      none_left h =
          let s = in_step w page past p.1 in
          let one : one_if (is_load_on page p.0.work) ≡ 1 = ap one_if h ∙ one_true in
          omega (
            arith,
            one,
            count_open-without (is_load_on page) c.number (open_jobs past) p.0.work p.0.is_open,
            s.unloads,
            s.loads,
            s.replied_to,
            s.named,
            s.due,
            given-due (is_load_on page) (jobs_due w past) (jobs_given past) s.rest s.given,
            given-due (is_unload_on page) (jobs_due w past) (jobs_given past) s.rest s.given,
          )
owned w page (Received bytes ∷ past) p k = absurd p.0
