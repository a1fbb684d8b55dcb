-- What came of the jobs of a request.
use Rattle.std.proofs.Common.{◌≡◌, ℕ, zero, suc, ◌+◌, ◌<◌, ◌≤◌, ◌==◌, Bool, true, false, cond, Option, Some, None, List, [], ◌∷◌, ◌++◌, length, map, set, refl, ap, ◌∙◌, arith, subst}
use Rattle.std.specs.Prelude.{option_map, slice_get}
use Rattle.std.specs.List.{flat_map}
use Rattle.std.proofs.lemmas.Bool.Decides.{nat_tests}
use Rattle.buffer_descriptor.specs.declared.descriptor.Descriptor.{Descriptor}
use Rattle.file_messages.specs.declared.job.Work.{Work}
use Rattle.file_messages.specs.declared.job.Work.TheVariants.{Load, Fetch, Place, Unload}
use Rattle.file_messages.specs.declared.job.WorkResult.{WorkResult}
use Rattle.file_messages.specs.declared.job.WorkResult.TheVariants.{Loaded, Fetched, Placed, Unloaded, Refused}
use Rattle.file_messages.specs.declared.job.Completion.{Completion}
use Rattle.file_messages.specs.Messages.{sum_of_lengths}
use Rattle.file_pasts.specs.ServerDue.{ServerEvent, Completed, result_at, result_in_front, results_from, status_in, status_of, fetched, Fits}
use Rattle.file_server.specs.ServerTurn.{outcomes_of, all_of, status_then, status_from, fetched_in, outcome_bytes, FitsIfThere, AreFitting, bytes_fetched_by, total_in}

pub results-all : (n : ℕ) (jobs : List Work) (past : List ServerEvent) → results_from n jobs past ≡ all_of (outcomes_of n jobs past)
results-all n [] past = refl
results-all n (w ∷ ws) past = ap (result_in_front (result_at n past)) (results-all (n + 1) ws past)

-- none of the jobs from here on is completed
pub outcomes-ahead : (n : ℕ) (jobs : List Work) (past : List ServerEvent) → ((m : ℕ) → n ≤ m → result_at m past ≡ None)
    → outcomes_of n jobs past ≡ map (λ (w : Work). None) jobs
outcomes-ahead n [] past h = refl
outcomes-ahead n (w ∷ ws) past h =
    let first : result_at n past ≡ None = h n (omega arith) in
    let later : outcomes_of (n + 1) ws past ≡ map (λ (v : Work). None) ws = outcomes-ahead (n + 1) ws past (λ m l. h m (omega arith)) in
    cc

-- what leaves each result alone leaves the outcomes
pub outcomes-same : (n : ℕ) (jobs : List Work) (past next : List ServerEvent) → ((m : ℕ) → result_at m next ≡ result_at m past)
    → outcomes_of n jobs next ≡ outcomes_of n jobs past
outcomes-same n [] past next h = refl
outcomes-same n (w ∷ ws) past next h = ap (λ (o : Option WorkResult). o ∷ outcomes_of (n + 1) ws next) (h n)
    ∙ ap (λ (os : List (Option WorkResult)). result_at n past ∷ os) (outcomes-same (n + 1) ws past next h)

-- ---- a job is completed

outcomes-past : (n : ℕ) (jobs : List Work) (c : Completion) (past : List ServerEvent) → c.number < n
    → outcomes_of n jobs (Completed c ∷ past) ≡ outcomes_of n jobs past
outcomes-past n [] c past h = refl
outcomes-past n (w ∷ ws) c past h =
    let other : (c.number == n) ≡ false = grind (arith, nat_tests) in
    let later : outcomes_of (n + 1) ws (Completed c ∷ past) ≡ outcomes_of (n + 1) ws past = outcomes-past (n + 1) ws c past (omega arith) in
    rw (other, later) refl

pub outcomes-set : (n : ℕ) (jobs : List Work) (c : Completion) (place : ℕ) (past : List ServerEvent) → c.number ≡ n + place
    → outcomes_of n jobs (Completed c ∷ past) ≡ set (outcomes_of n jobs past) place (Some c.result)
outcomes-set n [] c zero past e = refl
outcomes-set n [] c (suc k) past e = refl
outcomes-set n (w ∷ ws) c zero past e =
    let this : (c.number == n) ≡ true = grind (arith, nat_tests) in
    let later : outcomes_of (n + 1) ws (Completed c ∷ past) ≡ outcomes_of (n + 1) ws past = outcomes-past (n + 1) ws c past (omega arith) in
    rw (this, later) refl
outcomes-set n (w ∷ ws) c (suc k) past e =
    let other : (c.number == n) ≡ false = grind (arith, nat_tests) in
    let later : outcomes_of (n + 1) ws (Completed c ∷ past) ≡ set (outcomes_of (n + 1) ws past) k (Some c.result) =
    outcomes-set (n + 1) ws c k past (omega arith) in
    rw (other, later) refl

-- one that is not completed
pub missing : (n : ℕ) (jobs : List Work) (place : ℕ) (past : List ServerEvent) → place < length jobs → result_at (n + place) past ≡ None
    → all_of (outcomes_of n jobs past) ≡ None
missing n [] place past h e = absurd (omega arith)
missing n (w ∷ ws) zero past h e =
    let here : result_at n past ≡ None = ap (λ (m : ℕ). result_at m past) (let s : n ≡ n + 0 = omega arith in s) ∙ e in
    rw here refl
missing n (w ∷ ws) (suc k) past h e =
    let there : result_at (n + 1 + k) past ≡ None = ap (λ (m : ℕ). result_at m past) (let s : n + 1 + k ≡ n + suc k = omega arith in s) ∙ e in
    let later : all_of (outcomes_of (n + 1) ws past) ≡ None = missing (n + 1) ws k past (omega arith) there in
    rw later (in_front_of (result_at n past))
  where
    in_front_of : (o : Option WorkResult) → result_in_front o None ≡ None
    in_front_of None = refl
    in_front_of (Some r) = refl

pub length-outcomes : (n : ℕ) (jobs : List Work) (past : List ServerEvent) → length (outcomes_of n jobs past) ≡ length jobs
length-outcomes n [] past = refl
length-outcomes n (w ∷ ws) past = omega (arith, length-outcomes (n + 1) ws past)

-- ---- the status

status-then : (s : ℕ) (r : WorkResult) (t : ℕ) → cond (status_then s r == 0) t (status_then s r) ≡ cond (s == 0) (cond (status_in r == 0) t (status_in r)) s
status-then s r t = by_test (s == 0) refl where
  by_test : (b : Bool) → (s == 0) ≡ b → cond (status_then s r == 0) t (status_then s r) ≡ cond (s == 0) (cond (status_in r == 0) t (status_in r)) s
  by_test true e = rw e refl
  by_test false e = rw e (rw e refl)

pub status-all : (s : ℕ) (os : List (Option WorkResult)) → status_from s os ≡ option_map (λ (t : ℕ). cond (s == 0) t s) (option_map status_of (all_of os))
status-all s [] = by_test (s == 0) refl where
  by_test : (b : Bool) → (s == 0) ≡ b → Some s ≡ Some (cond (s == 0) 0 s)
  by_test true e = let z : s ≡ 0 = grind (arith, nat_tests) in rw e (ap Some z)
  by_test false e = rw e refl
status-all s (None ∷ os) = refl
status-all s (Some r ∷ os) = status-all (status_then s r) os ∙ by_rest (all_of os) where
  by_rest : (o : Option (List WorkResult)) → option_map (λ (t : ℕ). cond (status_then s r == 0) t (status_then s r)) (option_map status_of o)
      ≡ option_map (λ (t : ℕ). cond (s == 0) t s) (option_map status_of (result_in_front (Some r) o))
  by_rest None = refl
  by_rest (Some works) = ap Some (status-then s r (status_of works))

pub status-is : (os : List (Option WorkResult)) → status_from 0 os ≡ option_map status_of (all_of os)
status-is os = status-all 0 os ∙ same (option_map status_of (all_of os)) where
  same : (o : Option ℕ) → option_map (λ (t : ℕ). cond (0 == 0) t 0) o ≡ o
  same None = refl
  same (Some t) = refl

-- ---- bytes

-- the bytes that were fetched, once all is there
pub fetched-all : (os : List (Option WorkResult)) (works : List WorkResult) → all_of os ≡ Some works → flat_map fetched_in os ≡ flat_map fetched works
fetched-all [] [] e = refl
fetched-all [] (w ∷ ws) e = absurd (let b : ⊥ = cc in b)
fetched-all (None ∷ os) works e = absurd (let b : ⊥ = cc in b)
fetched-all (Some r ∷ os) works e = by_rest (all_of os) (λ later p. fetched-all os later p) refl e where
  by_rest : (o : Option (List WorkResult)) → ((later : List WorkResult) → all_of os ≡ Some later → flat_map fetched_in os ≡ flat_map fetched later)
      → all_of os ≡ o → result_in_front (Some r) o ≡ Some works → flat_map fetched_in (Some r ∷ os) ≡ flat_map fetched works
  by_rest None rest p q = absurd (let b : ⊥ = cc in b)
  by_rest (Some later) rest p q =
      let parts : r ∷ later ≡ works = cc in
      ap (λ (t : List ℕ). fetched r ++ t) (rest later p) ∙ ap (λ (t : List WorkResult). flat_map fetched t) parts

at_least : (n : ℕ) → 0 ≤ n
at_least n = omega arith

-- at most as many bytes come as are asked for
pub bytes-fit : (jobs : List Work) (os : List (Option WorkResult)) → AreFitting jobs os → outcome_bytes os ≤ total_in jobs
bytes-fit [] [] h = omega arith
bytes-fit [] (o ∷ os) h = absurd h
bytes-fit (w ∷ ws) [] h = absurd h
bytes-fit (w ∷ ws) (o ∷ os) h = omega (arith, one w o h.0, bytes-fit ws os h.1) where
  one : (w : Work) (o : Option WorkResult) → FitsIfThere w o → length (fetched_in o) ≤ bytes_fetched_by w
  one w None h = omega arith
  one w (Some (Loaded d)) h = at_least (bytes_fetched_by w)
  one w (Some Placed) h = at_least (bytes_fetched_by w)
  one w (Some (Unloaded bytes)) h = at_least (bytes_fetched_by w)
  one w (Some (Refused status)) h = at_least (bytes_fetched_by w)
  one (Fetch d) (Some (Fetched bytes)) h = omega (arith, h)
  one (Load page right bytes) (Some (Fetched got)) h = absurd h
  one (Place d bytes) (Some (Fetched got)) h = absurd h
  one (Unload token) (Some (Fetched got)) h = absurd h

pub total-fetches : (ds : List Descriptor) → total_in (map (λ (d : Descriptor). Fetch d) ds) ≡ sum_of_lengths ds
total-fetches [] = refl
total-fetches (d ∷ ds) = ap (λ (n : ℕ). d.length + n) (total-fetches ds)

-- ---- they fit

pub fitting-none : (jobs : List Work) → AreFitting jobs (map (λ (w : Work). None) jobs)
fitting-none [] = tt
fitting-none (w ∷ ws) = (tt, fitting-none ws)

pub fitting-set : (jobs : List Work) (os : List (Option WorkResult)) (place : ℕ) (w : Work) (r : WorkResult) → AreFitting jobs os → slice_get jobs place ≡ Some w → Fits w r
    → AreFitting jobs (set os place (Some r))
fitting-set [] [] place w r h e f = absurd (let b : ⊥ = cc in b)
fitting-set [] (o ∷ os) place w r h e f = absurd h
fitting-set (v ∷ vs) [] place w r h e f = absurd h
fitting-set (v ∷ vs) (o ∷ os) zero w r h e f =
    let same : w ≡ v = cc in (subst (λ (x : Work). Fits x r) same f, h.1)
fitting-set (v ∷ vs) (o ∷ os) (suc k) w r h e f = (h.0, fitting-set vs os k w r h.1 e f)
