-- The loads that a client is told of have the tokens that the pool gives.
use Rattle.std.proofs.Common.{◌≡◌, ℕ, ◌+◌, ◌%◌, ◌<◌, ◌≤◌, ◌==◌, Bool, true, false, cond, Option, Some, List, [], ◌∷◌, ◌++◌, length, map, reverse, refl, sym, ap, ◌∙◌, subst, arith, append_assoc}
use Rattle.std.specs.Prelude.{slice_get}
use mathlib.Core.List.{IsPrefix}
use Rattle.std.proofs.lemmas.List.{append-nil, map-append}
use Rattle.std.proofs.lemmas.Nat.{mod_below}
use Rattle.std.proofs.lemmas.Bool.Decides.{nat_tests}
use Rattle.smbd_base.specs.Tokens.{PageToken, number_of}
use Rattle.smbd_base.specs.Pages.{Entry, PageState}
use Rattle.smbd_base.specs.PagesFit.{events_by}
use Rattle.buffer_descriptor.specs.declared.descriptor.Descriptor.{Descriptor}
use Rattle.file_messages.specs.declared.kind.CopyKind.{CopyKind}
use Rattle.file_messages.specs.declared.job.Work.{Work}
use Rattle.file_messages.specs.declared.job.Work.TheVariants.{Load, Fetch, Place, Unload}
use Rattle.file_messages.specs.declared.job.WorkResult.{WorkResult}
use Rattle.file_messages.specs.declared.job.WorkResult.TheVariants.{Loaded, Fetched, Placed, Unloaded, Refused}
use Rattle.file_messages.specs.declared.job.Job.{Job}
use Rattle.file_messages.specs.declared.job.Completion.{Completion}
use Rattle.file_pasts.specs.ClientPast.{ClientEvent, Group, End, Sent, Replied, Gave, Completed, Received, jobs_given, open_jobs, job_at, without_job, descriptors_on, loaded_by, token_of_descriptor, IsOfKind}
use Rattle.file_pasts.specs.PutTokens.{IsNextToken, HasPoolTokens}
use Rattle.file_pasts.specs.ServerDue.{IsServer}
use Rattle.file_pasts.proofs.Lists.{get_in_front, last_mapped}
use Rattle.page_workers.specs.Workers.{WorkerState}
use Rattle.copy_laws.specs.Shares.{is_for, is_some_for, is_answer_of, jobs_for, completions_of}
use Rattle.copy_laws.specs.ClientDone.{completions_in, JobsAnswered}
use Rattle.copy_laws.specs.Coupled.{Pasts, AreCoupled}
use Rattle.copy_laws.proofs.Eaches.{Each, each-append, each-weaker}
use Rattle.copy_laws.proofs.Runs.{PageLoad, loads_in, load_descriptor, loads_told, run-loads}
use Rattle.copy_laws.proofs.Pool.{loads_on, loads_on-by, IsPlaced, placed-run}
use Rattle.copy_laws.proofs.Origins.{did-at, each-loads-by}

-- ---- fronts

pub prefix-trans : {X : Type 0} (xs ys zs : List X) → IsPrefix xs ys → IsPrefix ys zs → IsPrefix xs zs
prefix-trans xs ys zs p q = (p.0 ++ q.0, sym (append_assoc xs p.0 q.0) ∙ ap (λ (l : List _). l ++ q.0) p.1 ∙ q.1)

pub prefix-front : {X : Type 0} (xs more ys : List X) → IsPrefix (xs ++ more) ys → IsPrefix xs ys
prefix-front xs more ys p = (more ++ p.0, sym (append_assoc xs more p.0) ∙ p.1)

pub prefix-get : {X : Type 0} (xs ys : List X) (n : ℕ) (x : X) → IsPrefix xs ys → slice_get xs n ≡ Some x → slice_get ys n ≡ Some x
prefix-get xs ys n x p at = subst (λ (l : List _). slice_get l n ≡ Some x) p.1 (get_in_front xs p.0 n x at)

pub prefix-map : {X Y : Type 0} (f : X → Y) (xs ys : List X) → IsPrefix xs ys → IsPrefix (map f xs) (map f ys)
prefix-map f xs ys p = (map f p.0, sym (map-append f xs p.0) ∙ ap (map f) p.1)

-- ---- completions answer jobs that were given

-- a completion, by the job that was given with its number
pub record AnswersGiven (works : List Work) (c : Completion) : Type 0 where
  pub work : Work
  pub at : slice_get works c.number ≡ Some work
  pub fits : IsOfKind work c.result

abbrev IsGiven : List Work → Job → Type 0
IsGiven works j = slice_get works j.number ≡ Some j.work

get-end : (xs : List Work) (x : Work) → slice_get (xs ++ x ∷ []) (length xs) ≡ Some x
get-end [] x = refl
get-end (y ∷ xs) x = get-end xs x

each-without : (P : Job → Type 0) (n : ℕ) (jobs : List Job) → Each P jobs → Each P (without_job n jobs)
each-without P n [] h = tt
each-without P n (j ∷ jobs) h = by_test (j.number == n) (each-without P n jobs h.1) where
  by_test : (t : Bool) → Each P (without_job n jobs) → Each P (cond t jobs (j ∷ without_job n jobs))
  by_test true ih = h.1
  by_test false ih = (h.0, ih)

open-given : (past : List ClientEvent) → Each (IsGiven (jobs_given past)) (open_jobs past)
open-given [] = tt
open-given (Group b ∷ past) = open-given past
open-given (End ∷ past) = open-given past
open-given (Sent r ∷ past) = open-given past
open-given (Replied m ∷ past) = open-given past
open-given (Gave w ∷ past) =
    each-append (IsGiven (jobs_given past ++ w ∷ [])) (open_jobs past) ((record { number = length (jobs_given past); work = w }) ∷ [])
    (each-weaker (IsGiven (jobs_given past)) (IsGiven (jobs_given past ++ w ∷ [])) (open_jobs past) (λ j h. get_in_front (jobs_given past) (w ∷ []) j.number j.work h) (open-given past))
    (get-end (jobs_given past) w, tt)
open-given (Completed c ∷ past) = each-without (IsGiven (jobs_given past)) c.number (open_jobs past) (open-given past)
open-given (Received b ∷ past) = open-given past

job-given : (works : List Work) (n : ℕ) (jobs : List Job) (w : Work) → Each (IsGiven works) jobs → job_at n jobs ≡ Some w → slice_get works n ≡ Some w
job-given works n [] w h at = absurd (let b : ⊥ = cc in b)
job-given works n (j ∷ jobs) w h at = by_test (j.number == n) refl at (job-given works n jobs w h.1) where
  by_test : (t : Bool) → (j.number == n) ≡ t → cond t (Some j.work) (job_at n jobs) ≡ Some w → (job_at n jobs ≡ Some w → slice_get works n ≡ Some w) → slice_get works n ≡ Some w
  by_test true e k ih = subst (λ (m : ℕ). slice_get works m ≡ Some w) (let z : j.number ≡ n = grind (arith, nat_tests) in z) (h.0 ∙ k)
  by_test false e k ih = ih k

-- an open job stands at its number among those that were given
pub open-at : (past : List ClientEvent) (n : ℕ) (w : Work) → job_at n (open_jobs past) ≡ Some w → slice_get (jobs_given past) n ≡ Some w
open-at past n w at = job-given (jobs_given past) n (open_jobs past) w (open-given past) at

-- each completion that was handed in answers a job that was given
pub answers-given : (past : List ClientEvent) → JobsAnswered past → Each (AnswersGiven (jobs_given past)) (completions_in past)
answers-given [] h = tt
answers-given (Group b ∷ past) h = answers-given past h
answers-given (End ∷ past) h = answers-given past h
answers-given (Sent r ∷ past) h = answers-given past h
answers-given (Replied m ∷ past) h = answers-given past h
answers-given (Gave w ∷ past) h =
    each-weaker (AnswersGiven (jobs_given past)) (AnswersGiven (jobs_given past ++ w ∷ [])) (completions_in past)
    (λ c k. record { work = k.work; at = get_in_front (jobs_given past) (w ∷ []) c.number k.work k.at; fits = k.fits }) (answers-given past h)
answers-given (Completed c ∷ past) h =
    each-append (AnswersGiven (jobs_given past)) (completions_in past) (c ∷ []) (answers-given past h.1)
    (record { work = h.0.work; at = job-given (jobs_given past) c.number (open_jobs past) h.0.work (open-given past) h.0.is_open; fits = h.0.fits }, tt)
answers-given (Received b ∷ past) h = answers-given past h

-- ---- the loads that were told

told-append : (page : ℕ) (xs ys : List Completion) → loads_told page (xs ++ ys) ≡ loads_told page xs ++ loads_told page ys
told-append page [] ys = refl
told-append page (c ∷ xs) ys =
    ap (λ (ds : List Descriptor). loaded_by page c.result ++ ds) (told-append page xs ys) ∙ sym (append_assoc (loaded_by page c.result) (loads_told page xs) (loads_told page ys))

descriptors-told : (page : ℕ) (past : List ClientEvent) → descriptors_on page past ≡ loads_told page (completions_in past)
descriptors-told page [] = refl
descriptors-told page (Group b ∷ past) = descriptors-told page past
descriptors-told page (End ∷ past) = descriptors-told page past
descriptors-told page (Sent r ∷ past) = descriptors-told page past
descriptors-told page (Replied m ∷ past) = descriptors-told page past
descriptors-told page (Gave w ∷ past) = descriptors-told page past
descriptors-told page (Completed c ∷ past) =
    ap (λ (ds : List Descriptor). ds ++ loaded_by page c.result) (descriptors-told page past)
    ∙ ap (λ (ds : List Descriptor). loads_told page (completions_in past) ++ ds) (sym (append-nil (loaded_by page c.result)))
    ∙ sym (told-append page (completions_in past) (c ∷ []))
descriptors-told page (Received b ∷ past) = descriptors-told page past

-- a load of a page is told by the worker of the page
other-told : (workers page : ℕ) (w : Work) (r : WorkResult) → IsOfKind w r → is_for workers (page % workers + 1) w ≡ false → loaded_by page r ≡ []
other-told workers page (Load p right bytes) (Loaded d) k h = by_test ((token_of_descriptor d).page == page) refl where
  by_test : (t : Bool) → ((token_of_descriptor d).page == page) ≡ t → cond t (d ∷ []) [] ≡ []
  by_test true e =
      let same : (token_of_descriptor d).page ≡ page = grind (arith, nat_tests) in
      let here : p ≡ page = sym k.1 ∙ same in
      let own : is_for workers (page % workers + 1) (Load p right bytes) ≡ true = ap (λ (q : ℕ). q % workers + 1 == page % workers + 1) here ∙ same_number (page % workers + 1) in
      absurd (let b : ⊥ = cc in b)
    where
      same_number : (a : ℕ) → (a == a) ≡ true
      same_number a = grind (arith, nat_tests)
  by_test false e = refl
other-told workers page (Load p right bytes) (Fetched b) k h = refl
other-told workers page (Load p right bytes) Placed k h = refl
other-told workers page (Load p right bytes) (Unloaded b) k h = refl
other-told workers page (Load p right bytes) (Refused n) k h = refl
other-told workers page (Fetch d) (Loaded x) k h = absurd k
other-told workers page (Fetch d) (Fetched b) k h = refl
other-told workers page (Fetch d) Placed k h = refl
other-told workers page (Fetch d) (Unloaded b) k h = refl
other-told workers page (Fetch d) (Refused n) k h = refl
other-told workers page (Place d bytes) (Loaded x) k h = absurd k
other-told workers page (Place d bytes) (Fetched b) k h = refl
other-told workers page (Place d bytes) Placed k h = refl
other-told workers page (Place d bytes) (Unloaded b) k h = refl
other-told workers page (Place d bytes) (Refused n) k h = refl
other-told workers page (Unload t) (Loaded x) k h = absurd k
other-told workers page (Unload t) (Fetched b) k h = refl
other-told workers page (Unload t) Placed k h = refl
other-told workers page (Unload t) (Unloaded b) k h = refl
other-told workers page (Unload t) (Refused n) k h = refl

told-by : (workers page : ℕ) (works : List Work) (cs : List Completion) → Each (AnswersGiven works) cs → loads_told page (completions_of workers (page % workers + 1) works cs) ≡ loads_told page cs
told-by workers page works [] h = refl
told-by workers page works (c ∷ cs) h = by_test (is_answer_of workers (page % workers + 1) works c) refl (told-by workers page works cs h.1) where
  by_test : (t : Bool) → is_answer_of workers (page % workers + 1) works c ≡ t → loads_told page (completions_of workers (page % workers + 1) works cs) ≡ loads_told page cs
      → loads_told page (cond t (c ∷ completions_of workers (page % workers + 1) works cs) (completions_of workers (page % workers + 1) works cs)) ≡ loaded_by page c.result ++ loads_told page cs
  by_test true e ih = ap (λ (ds : List Descriptor). loaded_by page c.result ++ ds) ih
  by_test false e ih =
      let no : is_for workers (page % workers + 1) h.0.work ≡ false = ap (λ (o : Option Work). is_some_for workers (page % workers + 1) o) (sym h.0.at) ∙ e in
      ih ∙ ap (λ (ds : List Descriptor). ds ++ loads_told page cs) (sym (other-told workers page h.0.work c.result h.0.fits no))

-- ---- the loads of a page that the client knows are the first that it had

pub known-loads : (workers count page : ℕ) (kind : CopyKind) (p : Pasts) (pages : List PageState) (cs ss : List WorkerState) → 1 ≤ workers → count ≤ 256
    → AreCoupled workers count p pages cs ss → IsServer kind p.server → JobsAnswered p.client
    → IsPrefix (descriptors_on page p.client) (map load_descriptor (loads_on page p.pool))
known-loads workers count page kind p pages cs ss some few a served answered =
    let place = page % workers in
    let works = jobs_given p.client in
    let below : place < workers = mod_below page workers (omega (arith, some)) in
    let x = did-at workers 0 place works (completions_in p.client) p.pool cs a.clients below in
    let own = completions_of workers (place + 1) works (completions_in p.client) in
    let told = run-loads page x.worker.kept x.worker.waiting (jobs_for workers (place + 1) 0 works) (own ++ x.worker.done) (reverse (events_by (0 + place) p.pool)) x.did in
    let same : loads_on page p.pool ≡ loads_in page (reverse (events_by (0 + place) p.pool)) =
    loads_on-by page place p.pool (each-loads-by workers count page kind p pages cs ss few a served)
    ∙ ap (λ (q : ℕ). loads_in page (reverse (events_by q p.pool))) (let z : place ≡ 0 + place = omega arith in z) in
    let front : IsPrefix (loads_told page own) (map load_descriptor (loads_in page (reverse (events_by (0 + place) p.pool)))) =
    prefix-front (loads_told page own) (loads_told page x.worker.done) _ (subst (λ (ds : List Descriptor). IsPrefix ds (map load_descriptor (loads_in page (reverse (events_by (0 + place) p.pool))))) (told-append page own x.worker.done) told) in
    subst (λ (ls : List PageLoad). IsPrefix (descriptors_on page p.client) (map load_descriptor ls)) (sym same)
    (subst (λ (ds : List Descriptor). IsPrefix ds (map load_descriptor (loads_in page (reverse (events_by (0 + place) p.pool)))))
    (told-by workers page works (completions_in p.client) (answers-given p.client answered) ∙ sym (descriptors-told page p.client)) front)

-- ---- so its loads have the tokens of the pool

next-token : (pool : List Entry) (past : List ClientEvent) (r : WorkResult) → ((page : ℕ) → IsPlaced page (loads_on page pool))
    → ((page : ℕ) → IsPrefix (descriptors_on page past ++ loaded_by page r) (map load_descriptor (loads_on page pool))) → IsNextToken r past
next-token pool past (Loaded d) placed known =
    let page = (token_of_descriptor d).page in
    let one : loaded_by page (Loaded d) ≡ d ∷ [] = ap (λ (t : Bool). cond {A = List Descriptor} t (d ∷ []) []) (same_number page) in
    let at = last_mapped load_descriptor (descriptors_on page past) d (loads_on page pool)
    (subst (λ (ds : List Descriptor). IsPrefix (descriptors_on page past ++ ds) (map load_descriptor (loads_on page pool))) one (known page)) in
    ap (λ (x : Descriptor). x.token) at.2 ∙ ap (λ (t : PageToken). number_of t) (placed page (length (descriptors_on page past)) at.0 at.1)
  where
    same_number : (a : ℕ) → (a == a) ≡ true
    same_number a = grind (arith, nat_tests)
next-token pool past (Fetched b) placed known = tt
next-token pool past Placed placed known = tt
next-token pool past (Unloaded b) placed known = tt
next-token pool past (Refused n) placed known = tt

tokens-from : (pool : List Entry) (past : List ClientEvent) → ((page : ℕ) → IsPlaced page (loads_on page pool))
    → ((page : ℕ) → IsPrefix (descriptors_on page past) (map load_descriptor (loads_on page pool))) → HasPoolTokens past
tokens-from pool [] placed known = tt
tokens-from pool (Group b ∷ past) placed known = tokens-from pool past placed known
tokens-from pool (End ∷ past) placed known = tokens-from pool past placed known
tokens-from pool (Sent r ∷ past) placed known = tokens-from pool past placed known
tokens-from pool (Replied m ∷ past) placed known = tokens-from pool past placed known
tokens-from pool (Gave w ∷ past) placed known = tokens-from pool past placed known
tokens-from pool (Completed c ∷ past) placed known =
    (next-token pool past c.result placed known, tokens-from pool past placed (λ page. prefix-front (descriptors_on page past) (loaded_by page c.result) (map load_descriptor (loads_on page pool)) (known page)))
tokens-from pool (Received b ∷ past) placed known = tokens-from pool past placed known

pub pool-tokens : (workers count : ℕ) (kind : CopyKind) (p : Pasts) (pages : List PageState) (cs ss : List WorkerState) → 1 ≤ workers → count ≤ 256
    → AreCoupled workers count p pages cs ss → IsServer kind p.server → JobsAnswered p.client → HasPoolTokens p.client
pool-tokens workers count kind p pages cs ss some few a served answered =
    tokens-from p.pool p.client (placed-run count p.pool pages a.run) (λ page. known-loads workers count page kind p pages cs ss some few a served answered)
