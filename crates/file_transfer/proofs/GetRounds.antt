-- The rounds of a get over registered pages, in each lawful past of one.
use Rattle.std.proofs.Common.{◌≡◌, ◌⊎◌, inl, inr, ℕ, zero, suc, ◌+◌, ◌-◌, ◌*◌, ◌<◌, ◌≤◌, ◌==◌, nat_lt, ◌&&◌, ◌||◌, Bool, true, false, cond, Option, Some, None, List, [], ◌∷◌, ◌++◌, length, drop, replicate, option_map, refl, sym, ap, ◌∙◌, subst, append_assoc, length-append, arith}
use Rattle.std.specs.Prelude.{slice_get}
use Rattle.std.proofs.lemmas.Bool.Decides.{nat_tests}
use Rattle.std.proofs.lemmas.List.{append-nil}
use Rattle.smbd_base.specs.declared.right.Right.TheVariants as right
use Rattle.buffer_descriptor.specs.declared.descriptor.Descriptor.{Descriptor}
use Rattle.file_messages.specs.declared.kind.Channel.TheVariants as channels
use Rattle.file_messages.specs.declared.fault.ReplyFault.{ReplyFault}
use Rattle.file_messages.specs.declared.message.Request.{Request}
use Rattle.file_messages.specs.declared.job.Job.{Job}
use Rattle.file_messages.specs.declared.job.Work.{Work}
use Rattle.file_messages.specs.declared.job.Work.TheVariants.{Load, Unload}
use Rattle.file_messages.specs.declared.job.Completion.{Completion}
use Rattle.file_messages.specs.Messages.{END}
use Rattle.file_messages.specs.Runs.{end_request}
use Rattle.file_pasts.specs.ClientPast.{ClientEvent, Group, End, Sent, Replied, Gave, Completed, Received, requests_sent, jobs_given, open_jobs, job_at, without_job, token_of_descriptor, loaded_by, descriptors_on, fault_of_reply, lasting_or, reply_fault, replied, answers, AnswersJob}
use Rattle.file_pasts.specs.PutDue.{in_front, if_taken, unloads_of, unloads_of_first}
use Rattle.file_pasts.specs.GetDue.{sent, goes_on, has_ended, jobs_completed, page_loads, begins_round, jobs_due, descriptors_loaded, read_request, read_due, counts_taken, sum_of, last_count, IsGet}
use Rattle.file_pasts.specs.InStep.{is_load_on, one_if, count, count_open}
use Rattle.file_pasts.proofs.Lists.{within, get_in_front}
use Rattle.file_pasts.proofs.InStep.{count-append, count_open-append, count_open-without, loaded-count, loads-none}
use Rattle.file_pasts.proofs.GetTokens.{given_due}
use Rattle.file_pasts.proofs.GetPages.{next_in_rest}
use Rattle.file_transfer.proofs.GetWaits.{NextGet, next_get, end_known}

-- ---- open jobs

-- each of these jobs has its number from this one on, and was given
unfoldable pub OpenFrom : ℕ → List Work → List Job → Type 0
OpenFrom base given [] = Unit {0}
OpenFrom base given (job ∷ later) = (base ≤ job.number) × (slice_get given job.number ≡ Some job.work) × OpenFrom base given later

open-more : (base : ℕ) (given : List Work) (more : List Work) (jobs : List Job) → OpenFrom base given jobs → OpenFrom base (given ++ more) jobs
unfolding OpenFrom
open-more base given more [] h = tt
open-more base given more (job ∷ later) h = (h.0, get_in_front given more job.number job.work h.1, open-more base given more later h.2)

open-append : (base : ℕ) (given : List Work) (jobs : List Job) (job : Job) → OpenFrom base given jobs → base ≤ job.number → slice_get given job.number ≡ Some job.work
    → OpenFrom base given (jobs ++ job ∷ [])
unfolding OpenFrom
open-append base given [] job h a b = (a, b, tt)
open-append base given (x ∷ xs) job h a b = (h.0, h.1, open-append base given xs job h.2 a b)

open-without : (base n : ℕ) (given : List Work) (jobs : List Job) → OpenFrom base given jobs → OpenFrom base given (without_job n jobs)
unfolding OpenFrom
open-without base n given [] h = tt
open-without base n given (job ∷ later) h = by_test (job.number == n) (open-without base n given later h.2) where
  by_test : (t : Bool) → OpenFrom base given (without_job n later) → OpenFrom base given (cond t later (job ∷ without_job n later))
  by_test true k = h.2
  by_test false k = (h.0, h.1, k)

pub open-at : (base n : ℕ) (given : List Work) (jobs : List Job) (work : Work) → OpenFrom base given jobs → job_at n jobs ≡ Some work
    → (base ≤ n) × (slice_get given n ≡ Some work)
unfolding OpenFrom
open-at base n given [] work h e = absurd (let b : ⊥ = cc in b)
open-at base n given (job ∷ later) work h e = by_test (job.number == n) refl e (λ (k : job_at n later ≡ Some work). open-at base n given later work h.2 k) where
  by_test : (t : Bool) → (job.number == n) ≡ t → cond t (Some job.work) (job_at n later) ≡ Some work → (job_at n later ≡ Some work → (base ≤ n) × (slice_get given n ≡ Some work))
      → (base ≤ n) × (slice_get given n ≡ Some work)
  by_test true p k f =
      let same : job.number ≡ n = grind (arith, nat_tests) in
      (subst (λ (x : ℕ). base ≤ x) same h.0, ap (slice_get given) (sym same) ∙ h.1 ∙ k)
  by_test false p k f = f k

length-without : (n : ℕ) (jobs : List Job) (work : Work) → job_at n jobs ≡ Some work → length (without_job n jobs) + 1 ≡ length jobs
length-without n [] work e = absurd (let b : ⊥ = cc in b)
length-without n (job ∷ later) work e = by_test (job.number == n) e (λ (k : job_at n later ≡ Some work). length-without n later work k) where
  by_test : (t : Bool) → cond t (Some job.work) (job_at n later) ≡ Some work → (job_at n later ≡ Some work → length (without_job n later) + 1 ≡ length later)
      → length (cond t later (job ∷ without_job n later)) + 1 ≡ suc (length later)
  by_test true k f = omega arith
  by_test false k f = omega (arith, f k)

none_open : {A : Type 0} (xs : List A) → length xs ≡ 0 → xs ≡ []
none_open [] h = refl
none_open (x ∷ xs) h = absurd (omega arith)

-- ---- lists of works

pub behind : {A : Type 0} (front last : List A) (n : ℕ) (x : A) → length front ≤ n → slice_get (front ++ last) n ≡ Some x → slice_get last (n - length front) ≡ Some x
behind [] last n x h e = ap (slice_get last) (let z : n - 0 ≡ n = omega arith in z) ∙ e
behind (y ∷ ys) last zero x h e = absurd (omega arith)
behind (y ∷ ys) last (suc n) x h e = ap (slice_get last) (let z : suc n - suc (length ys) ≡ n - length ys = omega arith in z) ∙ behind ys last n x (omega arith) e

pub length-loads : (count i : ℕ) → length (page_loads count i) ≡ count
length-loads zero i = refl
length-loads (suc n) i = omega (arith, length-loads n (i + 1))

pub length-unloads : (ds : List Descriptor) → length (unloads_of ds) ≡ length ds
length-unloads [] = refl
length-unloads (d ∷ ds) = omega (arith, length-unloads ds)

-- a work of a round's Loads
pub at-loads : (count i k : ℕ) (work : Work) → slice_get (page_loads count i) k ≡ Some work → (k < count) × (work ≡ Load (i + k) right.Place (replicate 4096 0))
at-loads zero i k work e = absurd (let b : ⊥ = cc in b)
at-loads (suc n) i zero work e =
    let same : Load i right.Place (replicate 4096 0) ≡ work = cc in
    (omega arith, sym same ∙ ap (λ (x : ℕ). Load x right.Place (replicate 4096 0)) (let z : i ≡ i + 0 = omega arith in z))
at-loads (suc n) i (suc k) work e =
    let later = at-loads n (i + 1) k work e in
    (omega (arith, later.0), later.1 ∙ ap (λ (x : ℕ). Load x right.Place (replicate 4096 0)) (let z : i + 1 + k ≡ i + suc k = omega arith in z))

pub at-unloads : (ds : List Descriptor) (k : ℕ) (work : Work) → slice_get (unloads_of ds) k ≡ Some work → (d : Descriptor) × (work ≡ Unload (token_of_descriptor d))
at-unloads [] k work e = absurd (let b : ⊥ = cc in b)
at-unloads (d ∷ ds) zero work e = let same : Unload (token_of_descriptor d) ≡ work = cc in (d, sym same)
at-unloads (d ∷ ds) (suc k) work e = at-unloads ds k work e

count-loads : (n i page : ℕ) → i ≤ page → page < i + n → count (is_load_on page) (page_loads n i) ≡ 1
unfolding count is_load_on one_if
count-loads zero i page lo hi = absurd (omega arith)
count-loads (suc n) i page lo hi = by_test (i == page) refl (λ h k. count-loads n (i + 1) page h k) where
  later-none : (m j : ℕ) → page < j → count (is_load_on page) (page_loads m j) ≡ 0
  later-none zero j h = refl
  later-none (suc m) j h = let apart : (j == page) ≡ false = grind (arith, nat_tests) in omega (arith, ap one_if apart, later-none m (j + 1) (omega arith))

  both : {b : Bool} → b ≡ true → b ≡ false → ⊥
  both x y = cc

  more : (a b : ℕ) → a ≤ b → (a ≡ b → ⊥) → a + 1 ≤ b
  more a b h k = by_lt (nat_lt a b) refl where
    by_lt : (t : Bool) → nat_lt a b ≡ t → a + 1 ≤ b
    by_lt true e = let less : a < b = grind (arith, nat_tests) in omega arith
    by_lt false e = let not_less : b ≤ a = grind (arith, nat_tests) in absurd (k (omega arith))

  by_test : (t : Bool) → (i == page) ≡ t → (i + 1 ≤ page → page < i + 1 + n → count (is_load_on page) (page_loads n (i + 1)) ≡ 1)
      → one_if (i == page) + count (is_load_on page) (page_loads n (i + 1)) ≡ 1
  by_test true e ih = let same : i ≡ page = grind (arith, nat_tests) in omega (arith, ap one_if e, later-none n (i + 1) (omega arith))
  by_test false e ih =
      let apart : i ≡ page → ⊥ = (λ (h : i ≡ page). let y : (i == page) ≡ true = grind (arith, nat_tests) in both y e) in
      omega (arith, ap one_if e, ih (more i page lo apart) (omega arith))

-- ---- stages of a round

-- how the jobs that came due from this one on stand, after so many rounds of Loads
pub record IsLoading (past : List ClientEvent) (base rounds : ℕ) (last : List Work) : Type 0 where
  pub at : base ≡ 32 * sent past
  pub round : rounds ≡ sent past + 1
  pub works : last ≡ page_loads 16 0
  pub answered : (answers past).unanswered ≡ []
  pub unended : has_ended (requests_sent past) ≡ false
  pub going : goes_on past ≡ true

pub record IsReading (past : List ClientEvent) (base rounds : ℕ) (last : List Work) : Type 0 where
  pub at : base + 16 ≡ 32 * sent past
  pub round : rounds ≡ sent past
  pub works : last ≡ []
  pub read : Request
  pub waits : (answers past).unanswered ≡ read ∷ []
  pub pages : length read.descriptors ≡ 16
  pub unended : has_ended (requests_sent past) ≡ false

pub record IsUnloading (past : List ClientEvent) (base rounds : ℕ) (last : List Work) : Type 0 where
  pub at : base + 16 ≡ 32 * sent past
  pub round : rounds ≡ sent past
  pub named : List Descriptor
  pub works : last ≡ unloads_of named
  pub pages : length named ≡ 16
  pub answered : (answers past).unanswered ≡ []
  pub unended : has_ended (requests_sent past) ≡ false

pub record IsOver (past : List ClientEvent) (base rounds : ℕ) (last : List Work) : Type 0 where
  pub at : base + 32 ≡ 32 * sent past
  pub round : rounds + 1 ≡ sent past
  pub works : last ≡ []
  pub waits : ((answers past).unanswered ≡ []) ⊎ ((r : Request) × ((answers past).unanswered ≡ r ∷ []) × (r.descriptors ≡ []))
  pub ended : has_ended (requests_sent past) ≡ true

unfoldable pub Stage : List ClientEvent → ℕ → ℕ → List Work → Type 0
Stage past base rounds last = IsLoading past base rounds last ⊎ (IsReading past base rounds last ⊎ (IsUnloading past base rounds last ⊎ IsOver past base rounds last))

pub record Round (past : List ClientEvent) : Type 0 where
  pub base : ℕ
  pub rounds : ℕ
  pub front : List Work
  pub last : List Work
  pub due : jobs_due past ≡ front ++ last
  pub begun : length front ≡ base
  pub done : base ≤ jobs_completed past
  pub counts : jobs_completed past + length (open_jobs past) ≡ length (jobs_given past)
  pub rest : List Work
  pub given : jobs_due past ≡ jobs_given past ++ rest
  pub numbers : OpenFrom base (jobs_given past) (open_jobs past)
  pub dues : (i : ℕ) → i < 16 → count (is_load_on i) (jobs_due past) ≡ rounds
  pub loads : (i : ℕ) → length (descriptors_on i past) + count_open (is_load_on i) (open_jobs past) ≡ count (is_load_on i) (jobs_given past)
  pub least : has_ended (requests_sent past) ≡ false → (i : ℕ) → i < 16 → sent past ≤ length (descriptors_on i past)
  pub stage : Stage past base rounds last

-- no page was loaded more often than rounds began
pub at-most : (past : List ClientEvent) (r : Round past) (i : ℕ) → i < 16 → length (descriptors_on i past) ≤ r.rounds
at-most past r i h = omega (arith, r.loads i, r.dues i h, ap (count (is_load_on i)) r.given, count-append (is_load_on i) (jobs_given past) r.rest)

pub length-due : (past : List ClientEvent) (r : Round past) → length (jobs_due past) ≡ r.base + length r.last
length-due past r = ap length r.due ∙ length-append r.front r.last ∙ ap (λ (n : ℕ). n + length r.last) r.begun

pub given-within : (past : List ClientEvent) (r : Round past) → length (jobs_given past) ≤ length (jobs_due past)
given-within past r = omega (arith, ap length r.given, length-append (jobs_given past) r.rest)

-- ---- a request is given

-- each of so many pages from the i-th on was loaded more often than so
loaded-each : (n i turn page : ℕ) (past : List ClientEvent) (ds : List Descriptor) → descriptors_loaded n i turn past ≡ Some ds → i ≤ page → page < i + n
    → turn < length (descriptors_on page past)
loaded-each zero i turn page past ds e lo hi = absurd (omega arith)
loaded-each (suc n) i turn page past ds e lo hi = by_parts (slice_get (descriptors_on i past) turn) (descriptors_loaded n (i + 1) turn past) refl refl e (nat_lt i page) refl
    (λ later q lo2 hi2. loaded-each n (i + 1) turn page past later q lo2 hi2) where
      by_parts : (o : Option Descriptor) (l : Option (List Descriptor)) → slice_get (descriptors_on i past) turn ≡ o → descriptors_loaded n (i + 1) turn past ≡ l → in_front o l ≡ Some ds
          → (t : Bool) → nat_lt i page ≡ t
          → ((later : List Descriptor) → descriptors_loaded n (i + 1) turn past ≡ Some later → i + 1 ≤ page → page < i + 1 + n → turn < length (descriptors_on page past))
          → turn < length (descriptors_on page past)
      by_parts None l p q h t f ih = absurd (let b : ⊥ = cc in b)
      by_parts (Some d) None p q h t f ih = absurd (let b : ⊥ = cc in b)
      by_parts (Some d) (Some later) p q h true f ih = let more : i < page = grind (arith, nat_tests) in ih later q (omega arith) (omega arith)
      by_parts (Some d) (Some later) p q h false f ih =
          let upto : page ≤ i = grind (arith, nat_tests) in
          let same : i ≡ page = omega arith in
          subst (λ (x : ℕ). turn < length (descriptors_on x past)) same (within (descriptors_on i past) turn d p)

loaded-length : (n i turn : ℕ) (past : List ClientEvent) (ds : List Descriptor) → descriptors_loaded n i turn past ≡ Some ds → length ds ≡ n
loaded-length zero i turn past ds e = let h : ds ≡ [] = cc in ap length h
loaded-length (suc n) i turn past ds e = by_parts (slice_get (descriptors_on i past) turn) (descriptors_loaded n (i + 1) turn past) refl e (λ later q. loaded-length n (i + 1) turn past later q) where
  by_parts : (o : Option Descriptor) (l : Option (List Descriptor)) → descriptors_loaded n (i + 1) turn past ≡ l → in_front o l ≡ Some ds
      → ((later : List Descriptor) → descriptors_loaded n (i + 1) turn past ≡ Some later → length later ≡ n) → length ds ≡ suc n
  by_parts None l q h ih = absurd (let b : ⊥ = cc in b)
  by_parts (Some d) None q h ih = absurd (let b : ⊥ = cc in b)
  by_parts (Some d) (Some later) q h ih = let same : ds ≡ d ∷ later = cc in omega (arith, ap length same, ih later q)

-- the READ that is due names the loads of its round
pub record ReadNames (past : List ClientEvent) (r : Request) : Type 0 where
  pub ds : List Descriptor
  pub loaded : descriptors_loaded 16 0 (sent past) past ≡ Some ds
  pub read : r ≡ read_request 1 (sent past + 1) (sum_of (counts_taken past)) ds

pub read-names : (past : List ClientEvent) (r : Request) → read_due channels.V1 past ≡ Some r → ReadNames past r
read-names past r e = by_loaded (descriptors_loaded 16 0 (sent past) past) refl e where
  by_loaded : (o : Option (List Descriptor)) → descriptors_loaded 16 0 (sent past) past ≡ o → option_map (read_request 1 (sent past + 1) (sum_of (counts_taken past))) o ≡ Some r → ReadNames past r
  by_loaded None p h = absurd (let b : ⊥ = cc in b)
  by_loaded (Some ds) p h = let same : read_request 1 (sent past + 1) (sum_of (counts_taken past)) ds ≡ r = cc in record { ds = ds; loaded = p; read = sym same }

-- where each page is loaded once more, all jobs that came due are completed
pub record AllDone (past : List ClientEvent) : Type 0 where
  pub completed : jobs_completed past ≡ length (jobs_due past)
  pub given : length (jobs_given past) ≡ length (jobs_due past)
  pub none : open_jobs past ≡ []

loads-done : (past : List ClientEvent) (r : Round past) → IsLoading past r.base r.rounds r.last → ((i : ℕ) → i < 16 → sent past < length (descriptors_on i past)) → AllDone past
unfolding count count_open one_if is_load_on OpenFrom
loads-done past r s each = record {
  completed = omega (arith, r.counts, ap length empty, whole);
  given = whole;
  none = empty;
} where
  page_counts : (i : ℕ) → i < 16 → (count_open (is_load_on i) (open_jobs past) ≡ 0) × (count (is_load_on i) r.rest ≡ 0)
  page_counts i h =
      let both : count (is_load_on i) (jobs_due past) ≡ count (is_load_on i) (jobs_given past) + count (is_load_on i) r.rest = ap (count (is_load_on i)) r.given ∙ count-append (is_load_on i) (jobs_given past) r.rest in
      (omega (arith, r.loads i, r.dues i h, both, each i h, s.round), omega (arith, r.loads i, r.dues i h, both, each i h, s.round))

  load-of : (n : ℕ) (work : Work) → r.base ≤ n → slice_get (jobs_due past) n ≡ Some work → (i : ℕ) × (i < 16) × (is_load_on i work ≡ true)
  load-of n work lo at =
      let f = at-loads 16 0 (n - length r.front) work
      (ap (λ (ws : List Work). slice_get ws (n - length r.front)) (sym s.works) ∙ behind r.front r.last n work (omega (arith, r.begun)) (ap (λ (ws : List Work). slice_get ws n) (sym r.due) ∙ at)) in
      (0 + (n - length r.front), omega (arith, f.0), ap (is_load_on (0 + (n - length r.front))) f.1 ∙ itself (0 + (n - length r.front))) where
        itself : (x : ℕ) → (x == x) ≡ true
        itself x = grind (arith, nat_tests)

  none-of : (jobs : List Job) → OpenFrom r.base (jobs_given past) jobs → ((i : ℕ) → i < 16 → count_open (is_load_on i) jobs ≡ 0) → jobs ≡ []
  none-of [] h k = refl
  none-of (job ∷ later) h k =
      let l = load-of job.number job.work h.0 (ap (λ (ws : List Work). slice_get ws job.number) r.given ∙ get_in_front (jobs_given past) r.rest job.number job.work h.1) in
      absurd (omega (arith, k l.0 l.1, ap one_if l.2))

  empty : open_jobs past ≡ []
  empty = none-of (open_jobs past) r.numbers (λ i h. (page_counts i h).0)

  no-rest : (xs : List Work) → r.rest ≡ xs → length xs ≡ 0
  no-rest [] e = refl
  no-rest (work ∷ later) e =
      let at : slice_get (jobs_given past ++ r.rest) (length (jobs_given past)) ≡ Some work = ap (λ (ws : List Work). slice_get (jobs_given past ++ ws) (length (jobs_given past))) e ∙ first_behind (jobs_given past) in
      let l = load-of (length (jobs_given past)) work (omega (arith, r.done, r.counts)) (ap (λ (ws : List Work). slice_get ws (length (jobs_given past))) r.given ∙ at) in
      absurd (omega (arith, (page_counts l.0 l.1).1, ap (count (is_load_on l.0)) e, ap one_if l.2))
    where
      first_behind : (xs : List Work) → slice_get (xs ++ work ∷ later) (length xs) ≡ Some work
      first_behind [] = refl
      first_behind (x ∷ xs) = first_behind xs

  whole : length (jobs_given past) ≡ length (jobs_due past)
  whole = omega (arith, ap length r.given, length-append (jobs_given past) r.rest, no-rest r.rest refl)

-- the same past, after which nothing is open and a request was given
round-asked : (past : List ClientEvent) (q : Request) (rounds : ℕ) (r : Round past) → AllDone past → rounds ≡ r.rounds
    → (has_ended (requests_sent past ++ q ∷ []) ≡ false → (i : ℕ) → i < 16 → sent past + 1 ≤ length (descriptors_on i past))
    → Stage (Sent q ∷ past) (length (jobs_due past)) rounds [] → Round (Sent q ∷ past)
unfolding OpenFrom
round-asked past q rounds r a same least stage = record {
  base = length (jobs_due past);
  rounds = rounds;
  front = jobs_due past;
  last = [];
  due = sym (append-nil (jobs_due past));
  begun = refl;
  done = omega (arith, a.completed);
  counts = r.counts;
  rest = r.rest;
  given = r.given;
  numbers = subst (OpenFrom (length (jobs_due past)) (jobs_given past)) (sym a.none) tt;
  dues = λ i h. r.dues i h ∙ sym same;
  loads = r.loads;
  least = λ e i h. omega (arith, least e i h, length-append (requests_sent past) (q ∷ []));
  stage = stage;
}

unloads-done : (past : List ClientEvent) (r : Round past) → IsUnloading past r.base r.rounds r.last → 32 * sent past ≤ jobs_completed past → AllDone past
unloads-done past r s back =
    let size : length (jobs_due past) ≡ r.base + 16 = length-due past r ∙ ap (λ (ws : List Work). r.base + length ws) s.works ∙ ap (λ (n : ℕ). r.base + n) (length-unloads s.named ∙ s.pages) in
    record {
      completed = omega (arith, size, s.at, back, given-within past r, r.counts);
      given = omega (arith, size, s.at, back, given-within past r, r.counts);
      none = none_open (open_jobs past) (omega (arith, size, s.at, back, given-within past r, r.counts));
    }

round-sent : (past : List ClientEvent) (q : Request) → Round past → NextGet channels.V1 past q → Round (Sent q ∷ past)
unfolding Stage
round-sent past q r n = by_stage r.stage where
  more : length (requests_sent past ++ q ∷ []) ≡ sent past + 1
  more = length-append (requests_sent past) (q ∷ [])

  empty_some : (x : Request) (xs : List Request) → x ∷ xs ≡ [] → ⊥
  empty_some x xs e = cc

  asked : (answers past).unanswered ++ q ∷ [] ≡ q ∷ []
  asked = ap (λ (rs : List Request). rs ++ q ∷ []) n.answered

  both : {b : Bool} → b ≡ true → b ≡ false → ⊥
  both x y = cc

  by_stage : Stage past r.base r.rounds r.last → Round (Sent q ∷ past)
  by_stage (inl s) =
      let names = read-names past q (sym (ap (λ (t : Bool). cond t (read_due channels.V1 past) (Some (end_request (sent past + 1) (sum_of (counts_taken past))))) s.going) ∙ n.which) in
      let each : (i : ℕ) → i < 16 → sent past < length (descriptors_on i past) = (λ i h. loaded-each 16 0 (sent past) i past names.ds names.loaded (omega arith) (omega (arith, h))) in
      let a = loads-done past r s each in
      let size : length (jobs_due past) ≡ 32 * sent past + 16 = length-due past r ∙ ap (λ (ws : List Work). r.base + length ws) s.works ∙ ap (λ (b : ℕ). b + 16) s.at in
      round-asked past q r.rounds r a refl (λ e i h. omega (arith, each i h))
      (inr (inl (record {
        at = omega (arith, size, more);
        round = omega (arith, s.round, more);
        works = refl;
        read = q;
        waits = asked;
        pages = ap (λ (x : Request). length x.descriptors) names.read ∙ loaded-length 16 0 (sent past) past names.ds names.loaded;
        unended = end_known (requests_sent past) q ∙ ap (λ (t : Bool). t || q.op == END) s.unended ∙ ap (λ (x : Request). x.op == END) names.read;
      })))
  by_stage (inr (inl s)) = absurd (empty_some s.read [] (sym s.waits ∙ n.answered))
  by_stage (inr (inr (inl s))) =
      let back : 32 * sent past ≤ jobs_completed past = by_back n.back in
      let a = unloads-done past r s back in
      let size : length (jobs_due past) ≡ r.base + 16 = length-due past r ∙ ap (λ (ws : List Work). r.base + length ws) s.works ∙ ap (λ (k : ℕ). r.base + k) (length-unloads s.named ∙ s.pages) in
      let is_end : q ≡ end_request (sent past + 1) (sum_of (counts_taken past)) = by_going (goes_on past) n.which in
      round-asked past q r.rounds r a refl (λ e. absurd (both (ended is_end) e))
      (inr (inr (inr (record {
        at = omega (arith, size, s.at, more);
        round = omega (arith, s.round, more);
        works = refl;
        waits = inr (q, asked, ap (λ (x : Request). x.descriptors) is_end);
        ended = ended is_end;
      }))))
    where
      by_back : (sent past ≡ 0) ⊎ (32 * sent past ≤ jobs_completed past) → 32 * sent past ≤ jobs_completed past
      by_back (inl x) = omega (arith, x)
      by_back (inr x) = x

      ended : q ≡ end_request (sent past + 1) (sum_of (counts_taken past)) → has_ended (requests_sent past ++ q ∷ []) ≡ true
      ended e = end_known (requests_sent past) q ∙ ap (λ (t : Bool). t || q.op == END) s.unended ∙ ap (λ (x : Request). x.op == END) e

      by_going : (t : Bool) → cond t (read_due channels.V1 past) (Some (end_request (sent past + 1) (sum_of (counts_taken past)))) ≡ Some q
          → q ≡ end_request (sent past + 1) (sum_of (counts_taken past))
      by_going true h =
          let names = read-names past q h in
          absurd (omega (arith, loaded-each 16 0 (sent past) 0 past names.ds names.loaded (omega arith) (omega arith), at-most past r 0 (omega arith), s.round))
      by_going false h = (let same : end_request (sent past + 1) (sum_of (counts_taken past)) ≡ q = cc in sym same)
  by_stage (inr (inr (inr s))) = absurd (both s.ended n.unended)

-- ---- a reply is taken

round-replied : (past : List ClientEvent) (m : List ℕ) → Round past → Round (Replied m ∷ past)
unfolding Stage OpenFrom
round-replied past m r = by_fault (reply_fault (answers past) m) refl where
  both : {b : Bool} → b ≡ true → b ≡ false → ⊥
  both x y = cc

  none_first : (fault : Option ReplyFault) (rs : List Request) → rs ≡ [] → lasting_or fault (fault_of_reply rs m) ≡ None → ⊥
  none_first (Some f) rs e h = cc
  none_first None [] e h = cc
  none_first None (x ∷ xs) e h = cc

  -- the works that came due, and the stage that follows
  with_works : (works : List Work) → jobs_due (Replied m ∷ past) ≡ jobs_due past ++ works → ((i : ℕ) → count (is_load_on i) works ≡ 0)
      → Stage (Replied m ∷ past) r.base r.rounds (r.last ++ works) → Round (Replied m ∷ past)
  with_works works due none stage = record {
    base = r.base;
    rounds = r.rounds;
    front = r.front;
    last = r.last ++ works;
    due = due ∙ ap (λ (ws : List Work). ws ++ works) r.due ∙ append_assoc r.front r.last works;
    begun = r.begun;
    done = r.done;
    counts = r.counts;
    rest = r.rest ++ works;
    given = due ∙ ap (λ (ws : List Work). ws ++ works) r.given ∙ append_assoc (jobs_given past) r.rest works;
    numbers = r.numbers;
    dues = λ i h. omega (arith, ap (count (is_load_on i)) due, count-append (is_load_on i) (jobs_due past) works, none i, r.dues i h);
    loads = r.loads;
    least = r.least;
    stage = stage;
  }

  no-load : (ds : List Descriptor) (i : ℕ) → count (is_load_on i) (unloads_of ds) ≡ 0
  no-load ds i = loads-none i ds

  by_fault : (o : Option ReplyFault) → reply_fault (answers past) m ≡ o → Round (Replied m ∷ past)
  by_fault (Some f) e =
      let left : (answers (Replied m ∷ past)).unanswered ≡ (answers past).unanswered = ap (λ (o : Option ReplyFault). (replied o (answers past)).unanswered) e in
      let counted_same : counts_taken (Replied m ∷ past) ≡ counts_taken past = rw e (append-nil (counts_taken past)) in
      let due : jobs_due (Replied m ∷ past) ≡ jobs_due past ++ [] = ap (λ (o : Option ReplyFault). jobs_due past ++ if_taken o (unloads_of_first (answers past).unanswered)) e in
      with_works [] due (λ i. no-load [] i) (by_stage left counted_same r.stage)
    where
      by_stage : (answers (Replied m ∷ past)).unanswered ≡ (answers past).unanswered → counts_taken (Replied m ∷ past) ≡ counts_taken past
          → Stage past r.base r.rounds r.last → Stage (Replied m ∷ past) r.base r.rounds (r.last ++ [])
      by_stage left same (inl s) =
          inl (record { at = s.at; round = s.round; works = append-nil r.last ∙ s.works; answered = left ∙ s.answered; unended = s.unended; going = ap (λ (ns : List ℕ). last_count ns == 65536) same ∙ s.going })
      by_stage left same (inr (inl s)) =
          inr (inl (record { at = s.at; round = s.round; works = append-nil r.last ∙ s.works; read = s.read; waits = left ∙ s.waits; pages = s.pages; unended = s.unended }))
      by_stage left same (inr (inr (inl s))) =
          inr (inr (inl (record { at = s.at; round = s.round; named = s.named; works = append-nil r.last ∙ s.works; pages = s.pages; answered = left ∙ s.answered; unended = s.unended })))
      by_stage left same (inr (inr (inr s))) =
          inr (inr (inr (record { at = s.at; round = s.round; works = append-nil r.last ∙ s.works; waits = by_waits left s.waits; ended = s.ended }))) where
            by_waits : (answers (Replied m ∷ past)).unanswered ≡ (answers past).unanswered
                → ((answers past).unanswered ≡ []) ⊎ ((x : Request) × ((answers past).unanswered ≡ x ∷ []) × (x.descriptors ≡ []))
                → ((answers (Replied m ∷ past)).unanswered ≡ []) ⊎ ((x : Request) × ((answers (Replied m ∷ past)).unanswered ≡ x ∷ []) × (x.descriptors ≡ []))
            by_waits left (inl x) = inl (left ∙ x)
            by_waits left (inr x) = inr (x.0, left ∙ x.1, x.2)
  by_fault None e =
      let left : (answers (Replied m ∷ past)).unanswered ≡ drop 1 (answers past).unanswered = ap (λ (o : Option ReplyFault). (replied o (answers past)).unanswered) e in
      let due : jobs_due (Replied m ∷ past) ≡ jobs_due past ++ unloads_of_first (answers past).unanswered = ap (λ (o : Option ReplyFault). jobs_due past ++ if_taken o (unloads_of_first (answers past).unanswered)) e in
      by_stage left due r.stage
    where
      by_stage : (answers (Replied m ∷ past)).unanswered ≡ drop 1 (answers past).unanswered → jobs_due (Replied m ∷ past) ≡ jobs_due past ++ unloads_of_first (answers past).unanswered
          → Stage past r.base r.rounds r.last → Round (Replied m ∷ past)
      by_stage left due (inl s) = absurd (none_first (answers past).fault (answers past).unanswered s.answered e)
      by_stage left due (inr (inl s)) =
          let works : unloads_of_first (answers past).unanswered ≡ unloads_of s.read.descriptors = ap unloads_of_first s.waits in
          with_works (unloads_of s.read.descriptors) (due ∙ ap (λ (ws : List Work). jobs_due past ++ ws) works) (no-load s.read.descriptors)
          (inr (inr (inl (record {
            at = s.at;
            round = s.round;
            named = s.read.descriptors;
            works = ap (λ (ws : List Work). ws ++ unloads_of s.read.descriptors) s.works;
            pages = s.pages;
            answered = left ∙ ap (drop 1) s.waits;
            unended = s.unended;
          }))))
      by_stage left due (inr (inr (inl s))) = absurd (none_first (answers past).fault (answers past).unanswered s.answered e)
      by_stage left due (inr (inr (inr s))) = by_waits s.waits where
        by_waits : ((answers past).unanswered ≡ []) ⊎ ((x : Request) × ((answers past).unanswered ≡ x ∷ []) × (x.descriptors ≡ [])) → Round (Replied m ∷ past)
        by_waits (inl x) = absurd (none_first (answers past).fault (answers past).unanswered x e)
        by_waits (inr x) =
            let works : unloads_of_first (answers past).unanswered ≡ [] = ap unloads_of_first x.1 ∙ ap unloads_of x.2 in
            with_works [] (due ∙ ap (λ (ws : List Work). jobs_due past ++ ws) works) (λ i. no-load [] i)
            (inr (inr (inr (record { at = s.at; round = s.round; works = append-nil r.last ∙ s.works; waits = inl (left ∙ ap (drop 1) x.1); ended = s.ended }))))

-- ---- a job is given

round-gave : (past : List ClientEvent) (work : Work) → Round past → slice_get (jobs_due past) (length (jobs_given past)) ≡ Some work → Round (Gave work ∷ past)
unfolding Stage count
round-gave past work r at =
    let next = next_in_rest (jobs_given past) r.rest work (ap (λ (ws : List Work). slice_get ws (length (jobs_given past))) (sym r.given) ∙ at) in
    let job : Job = record { number = length (jobs_given past); work = work } in
    record {
      base = r.base;
      rounds = r.rounds;
      front = r.front;
      last = r.last;
      due = r.due;
      begun = r.begun;
      done = r.done;
      counts = omega (arith, r.counts, length-append (open_jobs past) (job ∷ []), length-append (jobs_given past) (work ∷ []));
      rest = next.0;
      given = r.given ∙ ap (λ (ws : List Work). jobs_given past ++ ws) next.1 ∙ sym (append_assoc (jobs_given past) (work ∷ []) next.0);
      numbers = open-append r.base (jobs_given past ++ work ∷ []) (open_jobs past) job (open-more r.base (jobs_given past) (work ∷ []) (open_jobs past) r.numbers)
          (omega (arith, r.done, r.counts)) (last-at (jobs_given past));
      dues = r.dues;
      loads = λ i. omega (arith, r.loads i, count_open-append (is_load_on i) (open_jobs past) job, count-append (is_load_on i) (jobs_given past) (work ∷ []));
      least = r.least;
      stage = by_stage r.stage;
    }
  where
    last-at : (xs : List Work) → slice_get (xs ++ work ∷ []) (length xs) ≡ Some work
    last-at [] = refl
    last-at (x ∷ xs) = last-at xs

    by_stage : Stage past r.base r.rounds r.last → Stage (Gave work ∷ past) r.base r.rounds r.last
    by_stage (inl s) = inl (record { at = s.at; round = s.round; works = s.works; answered = s.answered; unended = s.unended; going = s.going })
    by_stage (inr (inl s)) = inr (inl (record { at = s.at; round = s.round; works = s.works; read = s.read; waits = s.waits; pages = s.pages; unended = s.unended }))
    by_stage (inr (inr (inl s))) = inr (inr (inl (record { at = s.at; round = s.round; named = s.named; works = s.works; pages = s.pages; answered = s.answered; unended = s.unended })))
    by_stage (inr (inr (inr s))) = inr (inr (inr (record { at = s.at; round = s.round; works = s.works; waits = s.waits; ended = s.ended })))

-- ---- a job is completed

round-completed : (past : List ClientEvent) (c : Completion) → Round past → AnswersJob past c → Round (Completed c ∷ past)
unfolding Stage OpenFrom count
round-completed past c r a = by_begins (begins_round past) refl where
  left : length (without_job c.number (open_jobs past)) + 1 ≡ length (open_jobs past)
  left = length-without c.number (open_jobs past) a.work a.is_open

  counts_now : jobs_completed past + 1 + length (without_job c.number (open_jobs past)) ≡ length (jobs_given past)
  counts_now = omega (arith, r.counts, left)

  loads_now : (i : ℕ) → length (descriptors_on i past ++ loaded_by i c.result) + count_open (is_load_on i) (without_job c.number (open_jobs past)) ≡ count (is_load_on i) (jobs_given past)
  loads_now i =
      omega (
        arith,
        r.loads i,
        length-append (descriptors_on i past) (loaded_by i c.result),
        loaded-count i a.work c.result a.fits,
        count_open-without (is_load_on i) c.number (open_jobs past) a.work a.is_open,
      )

  least_now : has_ended (requests_sent past) ≡ false → (i : ℕ) → i < 16 → sent past ≤ length (descriptors_on i past ++ loaded_by i c.result)
  least_now e i h = omega (arith, r.least e i h, length-append (descriptors_on i past) (loaded_by i c.result))

  both : {b : Bool} → b ≡ true → b ≡ false → ⊥
  both x y = cc

  parts : (x y : Bool) → (x && y) ≡ true → (x ≡ true) × (y ≡ true)
  parts true y h = (refl, h)
  parts false y h = absurd (let b : ⊥ = cc in b)

  begins : (works : List Work) → jobs_completed past + 1 ≡ 32 * sent past → goes_on past ≡ true → jobs_due (Completed c ∷ past) ≡ jobs_due past ++ page_loads 16 0
      → Stage past r.base r.rounds r.last → Round (Completed c ∷ past)
  begins works at going due (inl s) = absurd (omega (arith, at, s.at, r.done))
  begins works at going due (inr (inl s)) =
      absurd (omega (arith, at, s.at, counts_now, given-within past r, length-due past r, ap length s.works))
  begins works at going due (inr (inr (inr s))) =
      absurd (omega (arith, at, s.at, counts_now, given-within past r, length-due past r, ap length s.works))
  begins works at going due (inr (inr (inl s))) =
      let size : length (jobs_due past) ≡ r.base + 16 = length-due past r ∙ ap (λ (ws : List Work). r.base + length ws) s.works ∙ ap (λ (k : ℕ). r.base + k) (length-unloads s.named ∙ s.pages) in
      let none : without_job c.number (open_jobs past) ≡ [] = none_open (without_job c.number (open_jobs past)) (omega (arith, counts_now, given-within past r, size, s.at, at)) in
      record {
        base = length (jobs_due past);
        rounds = r.rounds + 1;
        front = jobs_due past;
        last = page_loads 16 0;
        due = due;
        begun = refl;
        done = omega (arith, at, size, s.at);
        counts = counts_now;
        rest = r.rest ++ page_loads 16 0;
        given = due ∙ ap (λ (ws : List Work). ws ++ page_loads 16 0) r.given ∙ append_assoc (jobs_given past) r.rest (page_loads 16 0);
        numbers = subst (OpenFrom (length (jobs_due past)) (jobs_given past)) (sym none) tt;
        dues = λ i h.
            omega (arith, ap (count (is_load_on i)) due, count-append (is_load_on i) (jobs_due past) (page_loads 16 0), count-loads 16 0 i (omega arith) (omega (arith, h)), r.dues i h);
        loads = loads_now;
        least = least_now;
        stage = inl (record { at = omega (arith, size, s.at); round = omega (arith, s.round); works = refl; answered = s.answered; unended = s.unended; going = going });
      }

  goes : jobs_due (Completed c ∷ past) ≡ jobs_due past ++ [] → Round (Completed c ∷ past)
  goes due = record {
    base = r.base;
    rounds = r.rounds;
    front = r.front;
    last = r.last;
    due = due ∙ append-nil (jobs_due past) ∙ r.due;
    begun = r.begun;
    done = omega (arith, r.done);
    counts = counts_now;
    rest = r.rest;
    given = due ∙ append-nil (jobs_due past) ∙ r.given;
    numbers = open-without r.base c.number (jobs_given past) (open_jobs past) r.numbers;
    dues = λ i h. ap (count (is_load_on i)) (due ∙ append-nil (jobs_due past)) ∙ r.dues i h;
    loads = loads_now;
    least = least_now;
    stage = by_stage r.stage;
  } where
    by_stage : Stage past r.base r.rounds r.last → Stage (Completed c ∷ past) r.base r.rounds r.last
    by_stage (inl s) = inl (record { at = s.at; round = s.round; works = s.works; answered = s.answered; unended = s.unended; going = s.going })
    by_stage (inr (inl s)) = inr (inl (record { at = s.at; round = s.round; works = s.works; read = s.read; waits = s.waits; pages = s.pages; unended = s.unended }))
    by_stage (inr (inr (inl s))) = inr (inr (inl (record { at = s.at; round = s.round; named = s.named; works = s.works; pages = s.pages; answered = s.answered; unended = s.unended })))
    by_stage (inr (inr (inr s))) = inr (inr (inr (record { at = s.at; round = s.round; works = s.works; waits = s.waits; ended = s.ended })))

  by_begins : (t : Bool) → begins_round past ≡ t → Round (Completed c ∷ past)
  by_begins true e =
      let p = parts (jobs_completed past + 1 == 32 * sent past) (goes_on past) e in
      let at : jobs_completed past + 1 ≡ 32 * sent past = (let x : (jobs_completed past + 1 == 32 * sent past) ≡ true = p.0 in grind (arith, nat_tests)) in
      begins [] at p.1 (ap (λ (t : Bool). jobs_due past ++ cond t (page_loads 16 0) []) e) r.stage
  by_begins false e = goes (ap (λ (t : Bool). jobs_due past ++ cond t (page_loads 16 0) []) e)

-- ---- each past

pub rounds_of : (past : List ClientEvent) → IsGet channels.V1 past → Round past
unfolding Stage OpenFrom count count_open
rounds_of [] p = record {
  base = 0;
  rounds = 1;
  front = [];
  last = page_loads 16 0;
  due = refl;
  begun = refl;
  done = omega arith;
  counts = refl;
  rest = page_loads 16 0;
  given = refl;
  numbers = tt;
  dues = λ i h. count-loads 16 0 i (omega arith) (omega (arith, h));
  loads = λ i. refl;
  least = λ e i h. omega arith;
  stage = inl (record { at = refl; round = refl; works = refl; answered = refl; unended = refl; going = refl });
}
rounds_of (Group b ∷ past) p = absurd p.0
rounds_of (End ∷ past) p = absurd p.0
rounds_of (Sent q ∷ past) p = round-sent past q (rounds_of past p.1) (next_get channels.V1 past q p.0)
rounds_of (Replied m ∷ past) p = round-replied past m (rounds_of past p.1)
rounds_of (Gave work ∷ past) p = round-gave past work (rounds_of past p.1) (given_due past work p.0)
rounds_of (Completed c ∷ past) p = round-completed past c (rounds_of past p.1) p.0
rounds_of (Received b ∷ past) p =
    let r = rounds_of past p.1 in
    record {
      base = r.base;
      rounds = r.rounds;
      front = r.front;
      last = r.last;
      due = r.due;
      begun = r.begun;
      done = r.done;
      counts = r.counts;
      rest = r.rest;
      given = r.given;
      numbers = r.numbers;
      dues = r.dues;
      loads = r.loads;
      least = r.least;
      stage = by_stage r.base r.rounds r.last r.stage;
    }
  where
    by_stage : (base rounds : ℕ) (last : List Work) → Stage past base rounds last → Stage (Received b ∷ past) base rounds last
    by_stage base rounds last (inl s) = inl (record { at = s.at; round = s.round; works = s.works; answered = s.answered; unended = s.unended; going = s.going })
    by_stage base rounds last (inr (inl s)) = inr (inl (record { at = s.at; round = s.round; works = s.works; read = s.read; waits = s.waits; pages = s.pages; unended = s.unended }))
    by_stage base rounds last (inr (inr (inl s))) = inr (inr (inl (record { at = s.at; round = s.round; named = s.named; works = s.works; pages = s.pages; answered = s.answered; unended = s.unended })))
    by_stage base rounds last (inr (inr (inr s))) = inr (inr (inr (record { at = s.at; round = s.round; works = s.works; waits = s.waits; ended = s.ended })))
