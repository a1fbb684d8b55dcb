-- The bytes that a get puts together are those of the pages that its Unloads took back.
use Rattle.std.proofs.Common.{◌≡◌, ◌⊎◌, inl, inr, ℕ, zero, suc, ◌+◌, ◌<◌, ◌≤◌, ◌==◌, Bool, true, false, cond, Option, Some, None, List, [], ◌∷◌, ◌++◌, length, take, drop, refl, sym, ap, ◌∙◌, subst, add-one, length-append, arith}
use Rattle.std.specs.Prelude.{slice_get}
use Rattle.std.specs.List.{flat_map}
use Rattle.std.proofs.lemmas.Bool.Decides.{nat_tests}
use Rattle.smbd_base.specs.Tokens.{PageToken}
use Rattle.file_messages.specs.declared.kind.Channel.{Channel}
use Rattle.file_messages.specs.declared.job.Job.{Job}
use Rattle.file_messages.specs.declared.job.Work.{Work}
use Rattle.file_messages.specs.declared.job.Work.TheVariants.{Load, Fetch, Place, Unload}
use Rattle.file_messages.specs.declared.job.WorkResult.{WorkResult}
use Rattle.file_messages.specs.declared.job.WorkResult.TheVariants.{Loaded, Fetched, Placed, Unloaded, Refused}
use Rattle.file_messages.specs.declared.job.Completion.{Completion}
use Rattle.file_pasts.specs.ClientPast.{ClientEvent, Group, End, Sent, Replied, Gave, Completed, Received, jobs_given, open_jobs, job_at, without_job, IsOfKind, AnswersJob}
use Rattle.file_pasts.specs.GetDue.{jobs_completed, page_bytes, unloaded_by, pages_back, IsGet}
use Rattle.file_pasts.specs.GetPagesBack.{brought_by, UnloadsBring, JobsAreCounted, PagesComeBack}
use Rattle.file_pasts.proofs.Lists.{get_in_front, get_last}

-- ---- jobs in the order of their numbers, from one number up to another

abbrev Sorted : ℕ → List Job → ℕ → Type 0
Sorted low [] high = low ≤ high
Sorted low (job ∷ later) high = (low ≤ job.number) × Sorted (job.number + 1) later high

sorted-from : (low more high : ℕ) (jobs : List Job) → low ≤ more → Sorted more jobs high → Sorted low jobs high
sorted-from low more high [] h s = omega (arith, h, s)
sorted-from low more high (job ∷ later) h s = ((let a = s.0 in omega (arith, h, a)), s.1)

sorted-ends : (low high : ℕ) (jobs : List Job) → Sorted low jobs high → low ≤ high
sorted-ends low high [] s = s
sorted-ends low high (job ∷ later) s = (let a = s.0 in let b = sorted-ends (job.number + 1) high later s.1 in omega (arith, a, b))

sorted-more : (low high : ℕ) (jobs : List Job) (work : Work) → Sorted low jobs high → Sorted low (jobs ++ (record { number = high; work = work }) ∷ []) (high + 1)
sorted-more low high [] work s = (s, (let z : high + 1 ≤ high + 1 = omega arith in z))
sorted-more low high (job ∷ later) work s = (s.0, sorted-more (job.number + 1) high later work s.1)

sorted-without : (low high n : ℕ) (jobs : List Job) → Sorted low jobs high → Sorted low (without_job n jobs) high
sorted-without low high n [] s = s
sorted-without low high n (job ∷ later) s = by_test (job.number == n) (sorted-without (job.number + 1) high n later s.1) where
  by_test : (t : Bool) → Sorted (job.number + 1) (without_job n later) high → Sorted low (cond t later (job ∷ without_job n later)) high
  by_test true r = sorted-from low (job.number + 1) high later (let a = s.0 in omega (arith, a)) s.1
  by_test false r = (s.0, r)

differ : (a b : ℕ) → a < b → (b == a) ≡ false
differ a b h = grind (arith, nat_tests)

equal : (a b : ℕ) → (a == b) ≡ true → a ≡ b
equal a b h = grind (arith, nat_tests)

same_number : (a : ℕ) → (a == a) ≡ true
same_number a = grind (arith, nat_tests)

none_before : (low high n : ℕ) (jobs : List Job) → Sorted low jobs high → n < low → job_at n jobs ≡ None
none_before low high n [] s h = refl
none_before low high n (job ∷ later) s h =
    ap (λ (t : Bool). cond t (Some job.work) (job_at n later)) (differ n job.number (let a = s.0 in omega (arith, h, a)))
    ∙ none_before (job.number + 1) high n later s.1 (let a = s.0 in omega (arith, h, a))

none_after : (low high : ℕ) (jobs : List Job) → Sorted low jobs high → job_at high jobs ≡ None
none_after low high [] s = refl
none_after low high (job ∷ later) s =
    ap (λ (t : Bool). cond t (Some job.work) (job_at high later)) (below job.number high (sorted-ends (job.number + 1) high later s.1)) ∙ none_after (job.number + 1) high later s.1
  where
    below : (a b : ℕ) → a + 1 ≤ b → (a == b) ≡ false
    below a b h = grind (arith, nat_tests)

-- ---- the job of a number

pub at-front : (n : ℕ) (jobs more : List Job) (work : Work) → job_at n jobs ≡ Some work → job_at n (jobs ++ more) ≡ Some work
at-front n [] more work e = absurd (let b : ⊥ = cc in b)
at-front n (job ∷ later) more work e = by_test (job.number == n) e (at-front n later more work) where
  by_test : (t : Bool) → cond t (Some job.work) (job_at n later) ≡ Some work → (job_at n later ≡ Some work → job_at n (later ++ more) ≡ Some work)
      → cond t (Some job.work) (job_at n (later ++ more)) ≡ Some work
  by_test true h ih = h
  by_test false h ih = ih h

pub at-other : (n m : ℕ) (jobs : List Job) (work : Work) → (m == n) ≡ false → job_at n (jobs ++ (record { number = m; work = work }) ∷ []) ≡ job_at n jobs
at-other n m [] work e = ap (λ (t : Bool). cond t (Some work) None) e
at-other n m (job ∷ later) work e = ap (λ (o : Option Work). cond (job.number == n) (Some job.work) o) (at-other n m later work e)

pub at-new : (n : ℕ) (jobs : List Job) (work : Work) → job_at n jobs ≡ None → job_at n (jobs ++ (record { number = n; work = work }) ∷ []) ≡ Some work
at-new n [] work e = ap (λ (t : Bool). cond t (Some work) None) (same_number n)
at-new n (job ∷ later) work e = by_test (job.number == n) e (at-new n later work) where
  by_test : (t : Bool) → cond t (Some job.work) (job_at n later) ≡ None → (job_at n later ≡ None → job_at n (later ++ (record { number = n; work = work }) ∷ []) ≡ Some work)
      → cond t (Some job.work) (job_at n (later ++ (record { number = n; work = work }) ∷ [])) ≡ Some work
  by_test true h ih = absurd (let b : ⊥ = cc in b)
  by_test false h ih = ih h

pub at-without : (n m : ℕ) (jobs : List Job) → (m == n) ≡ false → job_at n (without_job m jobs) ≡ job_at n jobs
at-without n m [] e = refl
at-without n m (job ∷ later) e = by_test (job.number == m) refl (at-without n m later e) where
  by_test : (t : Bool) → (job.number == m) ≡ t → job_at n (without_job m later) ≡ job_at n later → job_at n (cond t later (job ∷ without_job m later)) ≡ cond (job.number == n) (Some job.work) (job_at n later)
  by_test true h ih = sym (ap (λ (t : Bool). cond t (Some job.work) (job_at n later)) (ap (λ (k : ℕ). k == n) (equal job.number m h) ∙ e))
  by_test false h ih = ap (λ (o : Option Work). cond (job.number == n) (Some job.work) o) ih

at-gone : (low high n : ℕ) (jobs : List Job) → Sorted low jobs high → job_at n (without_job n jobs) ≡ None
at-gone low high n [] s = refl
at-gone low high n (job ∷ later) s = by_test (job.number == n) refl (at-gone (job.number + 1) high n later s.1) where
  by_test : (t : Bool) → (job.number == n) ≡ t → job_at n (without_job n later) ≡ None → job_at n (cond t later (job ∷ without_job n later)) ≡ None
  by_test true h ih = none_before (job.number + 1) high n later s.1 (let e = equal job.number n h in omega (arith, e))
  by_test false h ih = ap (λ (t : Bool). cond t (Some job.work) (job_at n (without_job n later))) h ∙ ih

pub length-without : (n : ℕ) (jobs : List Job) (work : Work) → job_at n jobs ≡ Some work → length (without_job n jobs) + 1 ≡ length jobs
length-without n [] work e = absurd (let b : ⊥ = cc in b)
length-without n (job ∷ later) work e = by_test (job.number == n) e (length-without n later work) where
  by_test : (t : Bool) → cond t (Some job.work) (job_at n later) ≡ Some work → (job_at n later ≡ Some work → length (without_job n later) + 1 ≡ length later)
      → length (cond t later (job ∷ without_job n later)) + 1 ≡ suc (length later)
  by_test true h ih = omega arith
  by_test false h ih = (let x = ih h in omega (arith, x))

-- ---- what a completion brings

brings : (content : PageToken → List ℕ) (work : Work) (result : WorkResult) → IsOfKind work result → ((t : PageToken) → work ≡ Unload t → page_bytes result ≡ content t)
    → page_bytes result ≡ brought_by content work
brings content (Load page right bytes) (Loaded d) k h = refl
brings content (Load page right bytes) (Fetched b) k h = absurd k
brings content (Load page right bytes) Placed k h = refl
brings content (Load page right bytes) (Unloaded b) k h = absurd k
brings content (Load page right bytes) (Refused status) k h = refl
brings content (Fetch d) (Loaded e) k h = refl
brings content (Fetch d) (Fetched b) k h = refl
brings content (Fetch d) Placed k h = refl
brings content (Fetch d) (Unloaded b) k h = absurd k
brings content (Fetch d) (Refused status) k h = refl
brings content (Place d bytes) (Loaded e) k h = refl
brings content (Place d bytes) (Fetched b) k h = refl
brings content (Place d bytes) Placed k h = refl
brings content (Place d bytes) (Unloaded b) k h = absurd k
brings content (Place d bytes) (Refused status) k h = refl
brings content (Unload t) result k h = h t refl

-- ---- by induction on the past

record Back (content : PageToken → List ℕ) (past : List ClientEvent) : Type 0 where
  sorted : Sorted 0 (open_jobs past) (length (jobs_given past))
  counts : jobs_completed past + length (open_jobs past) ≡ length (jobs_given past)
  open_is : (n : ℕ) (work : Work) → job_at n (open_jobs past) ≡ Some work → slice_get (jobs_given past) n ≡ Some work
  each : (n : ℕ) (work : Work) → slice_get (jobs_given past) n ≡ Some work → (job_at n (open_jobs past) ≡ Some work) ⊎ (unloaded_by n past ≡ brought_by content work)

get-end : (xs : List Work) (x : Work) → slice_get (xs ++ x ∷ []) (length xs) ≡ Some x
get-end [] x = refl
get-end (y ∷ ys) x = get-end ys x

same_work : (x y : Work) → Some x ≡ Some y → x ≡ y
same_work x y h = cc

back-gave : (content : PageToken → List ℕ) (work : Work) (past : List ClientEvent) → Back content past → Back content (Gave work ∷ past)
back-gave content work past b =
    let given : List Work = jobs_given past in
    let more : length (given ++ work ∷ []) ≡ length given + 1 = length-append given (work ∷ []) in
    record {
      sorted = subst (Sorted 0 (open_jobs past ++ (record { number = length given; work = work }) ∷ [])) (sym more) (sorted-more 0 (length given) (open_jobs past) work b.sorted);
      counts = (let c = b.counts in omega (arith, c, more, length-append (open_jobs past) ((record { number = length given; work = work }) ∷ [])));
      open_is = λ n w e. is_given n w e (length given == n) refl;
      each = λ n w e. by_place n w (get_last given work n w e);
    }
  where
    is_given : (n : ℕ) (w : Work) → job_at n (open_jobs past ++ (record { number = length (jobs_given past); work = work }) ∷ []) ≡ Some w
        → (t : Bool) → (length (jobs_given past) == n) ≡ t → slice_get (jobs_given past ++ work ∷ []) n ≡ Some w
    is_given n w e false t = get_in_front (jobs_given past) (work ∷ []) n w (b.open_is n w (sym (at-other n (length (jobs_given past)) (open_jobs past) work t) ∙ e))
    is_given n w e true t =
        let n_is : length (jobs_given past) ≡ n = equal (length (jobs_given past)) n t in
        ap (slice_get (jobs_given past ++ work ∷ [])) (sym n_is) ∙ get-end (jobs_given past) work
        ∙ sym (at-new (length (jobs_given past)) (open_jobs past) work (none_after 0 (length (jobs_given past)) (open_jobs past) b.sorted))
        ∙ ap (λ (k : ℕ). job_at k (open_jobs past ++ (record { number = length (jobs_given past); work = work }) ∷ [])) n_is ∙ e

    by_place : (n : ℕ) (w : Work) → (slice_get (jobs_given past) n ≡ Some w) ⊎ ((n ≡ length (jobs_given past)) × (w ≡ work))
        → (job_at n (open_jobs past ++ (record { number = length (jobs_given past); work = work }) ∷ []) ≡ Some w) ⊎ (unloaded_by n past ≡ brought_by content w)
    by_place n w (inl e) = by_each (b.each n w e) where
      by_each : (job_at n (open_jobs past) ≡ Some w) ⊎ (unloaded_by n past ≡ brought_by content w)
          → (job_at n (open_jobs past ++ (record { number = length (jobs_given past); work = work }) ∷ []) ≡ Some w) ⊎ (unloaded_by n past ≡ brought_by content w)
      by_each (inl h) = inl (at-front n (open_jobs past) _ w h)
      by_each (inr h) = inr h
    by_place n w (inr e) = inl (ap (λ (k : ℕ). job_at k (open_jobs past ++ (record { number = length (jobs_given past); work = work }) ∷ [])) e.0
        ∙ at-new (length (jobs_given past)) (open_jobs past) work (none_after 0 (length (jobs_given past)) (open_jobs past) b.sorted) ∙ ap Some (sym e.1))

back-completed : (content : PageToken → List ℕ) (c : Completion) (past : List ClientEvent) → AnswersJob past c
    → ((t : PageToken) → job_at c.number (open_jobs past) ≡ Some (Unload t) → page_bytes c.result ≡ content t) → Back content past → Back content (Completed c ∷ past)
back-completed content c past a h b = record {
  sorted = sorted-without 0 (length (jobs_given past)) c.number (open_jobs past) b.sorted;
  counts = (let k = b.counts in omega (arith, k, length-without c.number (open_jobs past) a.work a.is_open));
  open_is = λ n w e. is_given n w e (c.number == n) refl;
  each = λ n w e. by_number n w e (c.number == n) refl;
} where
  is_given : (n : ℕ) (w : Work) → job_at n (without_job c.number (open_jobs past)) ≡ Some w → (t : Bool) → (c.number == n) ≡ t → slice_get (jobs_given past) n ≡ Some w
  is_given n w e false t = b.open_is n w (sym (at-without n c.number (open_jobs past) t) ∙ e)
  is_given n w e true t = absurd (let gone : job_at n (without_job n (open_jobs past)) ≡ None = at-gone 0 (length (jobs_given past)) n (open_jobs past) b.sorted in
      let there : job_at n (without_job n (open_jobs past)) ≡ Some w = ap (λ (k : ℕ). job_at n (without_job k (open_jobs past))) (sym (equal c.number n t)) ∙ e in
      never w (sym gone ∙ there)) where
        never : (x : Work) → ◌≡◌ {A = Option Work} None (Some x) → ⊥
        never x k = cc

  by_number : (n : ℕ) (w : Work) → slice_get (jobs_given past) n ≡ Some w → (t : Bool) → (c.number == n) ≡ t
      → (job_at n (without_job c.number (open_jobs past)) ≡ Some w) ⊎ (cond (c.number == n) (page_bytes c.result) (unloaded_by n past) ≡ brought_by content w)
  by_number n w e true t =
      let n_is : c.number ≡ n = equal c.number n t in
      let given : slice_get (jobs_given past) c.number ≡ Some a.work = b.open_is c.number a.work a.is_open in
      let w_is : a.work ≡ w = same_work a.work w (sym given ∙ ap (slice_get (jobs_given past)) n_is ∙ e) in
      inr (ap (λ (x : Bool). cond x (page_bytes c.result) (unloaded_by n past)) t
      ∙ brings content a.work c.result a.fits (λ token k. h token (a.is_open ∙ ap Some k)) ∙ ap (brought_by content) w_is)
  by_number n w e false t = by_each (b.each n w e) where
    by_each : (job_at n (open_jobs past) ≡ Some w) ⊎ (unloaded_by n past ≡ brought_by content w)
        → (job_at n (without_job c.number (open_jobs past)) ≡ Some w) ⊎ (cond (c.number == n) (page_bytes c.result) (unloaded_by n past) ≡ brought_by content w)
    by_each (inl k) = inl (at-without n c.number (open_jobs past) t ∙ k)
    by_each (inr k) = inr (ap (λ (x : Bool). cond x (page_bytes c.result) (unloaded_by n past)) t ∙ k)

same_back : (content : PageToken → List ℕ) (past now : List ClientEvent) → open_jobs now ≡ open_jobs past → jobs_given now ≡ jobs_given past → jobs_completed now ≡ jobs_completed past
    → ((n : ℕ) → unloaded_by n now ≡ unloaded_by n past) → Back content past → Back content now
same_back content past now o g j u b = record {
  sorted = subst (λ (jobs : List Job). Sorted 0 jobs (length (jobs_given now))) (sym o) (subst (λ (works : List Work). Sorted 0 (open_jobs past) (length works)) (sym g) b.sorted);
  counts = (let c = b.counts in omega (arith, c, ap length o, ap length g, j));
  open_is = λ n w e. ap (λ (works : List Work). slice_get works n) g ∙ b.open_is n w (ap (job_at n) (sym o) ∙ e);
  each = λ n w e. by_each n w (b.each n w (ap (λ (works : List Work). slice_get works n) (sym g) ∙ e));
} where
  by_each : (n : ℕ) (w : Work) → (job_at n (open_jobs past) ≡ Some w) ⊎ (unloaded_by n past ≡ brought_by content w) → (job_at n (open_jobs now) ≡ Some w) ⊎ (unloaded_by n now ≡ brought_by content w)
  by_each n w (inl k) = inl (ap (job_at n) o ∙ k)
  by_each n w (inr k) = inr (u n ∙ k)

back : (channel : Channel) (content : PageToken → List ℕ) (past : List ClientEvent) → IsGet channel past → UnloadsBring content past → Back content past
back channel content [] p h = record { sorted = (let z : 0 ≤ 0 = omega arith in z); counts = refl; open_is = (λ n w e. absurd (let b : ⊥ = cc in b)); each = (λ n w e. absurd (let b : ⊥ = cc in b)) }
back channel content (Group bytes ∷ past) p h = absurd p.0
back channel content (End ∷ past) p h = absurd p.0
back channel content (Sent r ∷ past) p h = same_back content past (Sent r ∷ past) refl refl refl (λ n. refl) (back channel content past p.1 h)
back channel content (Replied m ∷ past) p h = same_back content past (Replied m ∷ past) refl refl refl (λ n. refl) (back channel content past p.1 h)
back channel content (Gave work ∷ past) p h = back-gave content work past (back channel content past p.1 h)
back channel content (Completed c ∷ past) p h = back-completed content c past p.0 h.0 (back channel content past p.1 h.1)
back channel content (Received bytes ∷ past) p h = same_back content past (Received bytes ∷ past) refl refl refl (λ n. refl) (back channel content past p.1 h)

-- ---- jobs in a row

split_at : (n : ℕ) (xs : List Work) → n < length xs → (x : Work) × (slice_get xs n ≡ Some x) × (drop n xs ≡ x ∷ drop (suc n) xs)
split_at n [] h = absurd (omega arith)
split_at zero (x ∷ xs) h = (x, refl, refl)
split_at (suc n) (x ∷ xs) h = (let r = split_at n xs (omega arith) in (r.0, r.1, r.2))

in_a_row : (content : PageToken → List ℕ) (past : List ClientEvent) (count n : ℕ) → Back content past → open_jobs past ≡ [] → n + count ≤ length (jobs_given past)
    → pages_back count n past ≡ flat_map (brought_by content) (take count (drop n (jobs_given past)))
in_a_row content past zero n b none h = refl
in_a_row content past (suc count) n b none h =
    let one = split_at n (jobs_given past) (omega (arith, h)) in
    let rest : drop n (jobs_given past) ≡ one.0 ∷ drop (n + 1) (jobs_given past) = one.2 ∙ ap (λ (k : ℕ). one.0 ∷ drop k (jobs_given past)) (sym (add-one n)) in
    let here : unloaded_by n past ≡ brought_by content one.0 = by_each (b.each n one.0 one.1) in
    let later : pages_back count (n + 1) past ≡ flat_map (brought_by content) (take count (drop (n + 1) (jobs_given past))) = in_a_row content past count (n + 1) b none (omega (arith, h)) in
    ap (λ (xs : List ℕ). xs ++ pages_back count (n + 1) past) here ∙ ap (λ (xs : List ℕ). brought_by content one.0 ++ xs) later
    ∙ ap (λ (works : List Work). flat_map (brought_by content) (take (suc count) works)) (sym rest)
  where
    by_each : {w : Work} → (job_at n (open_jobs past) ≡ Some w) ⊎ (unloaded_by n past ≡ brought_by content w) → unloaded_by n past ≡ brought_by content w
    by_each (inl k) = absurd (let e = sym (ap (job_at n) none) ∙ k in let b : ⊥ = cc in b)
    by_each (inr k) = k

nothing_left : (jobs : List Job) → length jobs ≡ 0 → jobs ≡ []
nothing_left [] h = refl
nothing_left (job ∷ later) h = absurd (omega (arith, h))

pub pages_back_of : PagesComeBack
pages_back_of channel content past count n p h all within =
    let b = back channel content past p h in
    in_a_row content past count n b (nothing_left (open_jobs past) (let c = b.counts in omega (arith, c, all))) within

pub jobs_counted : JobsAreCounted
jobs_counted channel past p = counted past p where
  counted : (past : List ClientEvent) → IsGet channel past → jobs_completed past + length (open_jobs past) ≡ length (jobs_given past)
  counted [] p = refl
  counted (Group bytes ∷ past) p = absurd p.0
  counted (End ∷ past) p = absurd p.0
  counted (Sent r ∷ past) p = counted past p.1
  counted (Replied m ∷ past) p = counted past p.1
  counted (Gave work ∷ past) p =
      let c = counted past p.1 in
      omega (arith, c, length-append (jobs_given past) (work ∷ []), length-append (open_jobs past) ((record { number = length (jobs_given past); work = work }) ∷ []))
  counted (Completed d ∷ past) p = (let c = counted past p.1 in omega (arith, c, length-without d.number (open_jobs past) p.0.work p.0.is_open))
  counted (Received bytes ∷ past) p = counted past p.1
