-- The pages of a get, round by round.
use Rattle.std.proofs.Common.{◌≡◌, inl, inr, ℕ, zero, suc, ◌+◌, ◌-◌, ◌*◌, ◌%◌, ◌<◌, ◌≤◌, ◌==◌, nat_lt, not, ◌&&◌, Bool, true, false, cond, Option, Some, None, List, [], ◌∷◌, ◌++◌, length, map, replicate, refl, sym, ap, ◌∙◌, subst, add-one, length-append, arith}
use Rattle.std.specs.Prelude.{slice_get, slice_set}
use Rattle.std.specs.List.{flat_map}
use Rattle.std.proofs.lemmas.Bool.Decides.{nat_tests}
use Rattle.std.proofs.lemmas.List.{append-nil}
use Rattle.smbd_base.specs.declared.right.Right.TheVariants as right
use Rattle.buffer_descriptor.specs.declared.descriptor.Descriptor.{Descriptor}
use Rattle.file_messages.specs.declared.kind.Channel.TheVariants as channels
use Rattle.file_messages.specs.declared.job.Job.{Job}
use Rattle.file_messages.specs.declared.job.Work.{Work}
use Rattle.file_messages.specs.declared.job.Work.TheVariants.{Load, Fetch, Place, Unload}
use Rattle.file_messages.specs.declared.job.Completion.{Completion}
use Rattle.file_messages.specs.declared.job.WorkResult.{WorkResult}
use Rattle.file_messages.specs.declared.job.WorkResult.TheVariants.{Loaded, Fetched, Placed, Unloaded, Refused}
use Rattle.file_pasts.specs.ClientPast.{ClientEvent, Group, End, Sent, Replied, Gave, Completed, Received, requests_sent, jobs_given, open_jobs, job_at, token_of_descriptor, loaded_by, descriptors_on, AnswersJob, IsOfKind}
use Rattle.file_pasts.specs.PutDue.{in_front}
use Rattle.file_pasts.specs.GetDue.{sent, has_ended, jobs_completed, page_bytes, unloaded_by, pages_back, page_loads, jobs_due, descriptors_loaded, IsGet}
use Rattle.file_pasts.specs.InStep.{is_load_on, count, count_open}
use Rattle.file_pasts.proofs.Lists.{within, get_in_front}
use Rattle.file_pasts.proofs.InStep.{count-append, counted}
use Rattle.file_transfer.specs.declared.get_pages.Page.{Page}
use Rattle.file_transfer.specs.GetStands.{awaits}
use Rattle.file_transfer.specs.GetPagesStand.{loaded_in, back_in, same_bytes, sizes, unused_pages, loads_at, all_of, pages_from, first_unload}
use Rattle.file_transfer.proofs.GetRounds.{OpenFrom, open-at, behind, at-loads, at-unloads, length-unloads, Stage, Round, given-within, rounds_of}

-- ---- lists of pages

pub all-loads : (n i turn : ℕ) (past : List ClientEvent) → all_of (loads_at n i turn past) ≡ descriptors_loaded n i turn past
all-loads zero i turn past = refl
all-loads (suc n) i turn past = ap (in_front (slice_get (descriptors_on i past) turn)) (all-loads n (i + 1) turn past)

pub length-at : (n i turn : ℕ) (past : List ClientEvent) → length (loads_at n i turn past) ≡ n
length-at zero i turn past = refl
length-at (suc n) i turn past = omega (arith, length-at n (i + 1) turn past)

get-past : {A : Type 0} (xs : List A) (n : ℕ) → length xs ≤ n → slice_get xs n ≡ None
get-past [] n h = refl
get-past (x ∷ xs) zero h = absurd (omega arith)
get-past (x ∷ xs) (suc n) h = get-past xs n (omega arith)

get_added : {A : Type 0} (xs : List A) (x : A) → slice_get (xs ++ x ∷ []) (length xs) ≡ Some x
get_added [] x = refl
get_added (y ∷ ys) x = get_added ys x

pub unused-more : (n : ℕ) → unused_pages (n + 1) ≡ unused_pages n ++ (record { loaded = None; back = None }) ∷ []
unused-more n = ap unused_pages (add-one n) ∙ by_suc n where
  by_suc : (k : ℕ) → unused_pages (suc k) ≡ unused_pages k ++ (record { loaded = None; back = None }) ∷ []
  by_suc zero = refl
  by_suc (suc k) = ap (λ (ps : List Page). (record { loaded = None; back = None }) ∷ ps) (by_suc k)

pub loads-more : (n : ℕ) → page_loads (n + 1) 0 ≡ page_loads n 0 ++ Load n right.Place (replicate 4096 0) ∷ []
loads-more n = ap (λ (k : ℕ). page_loads k 0) (add-one n) ∙ by_suc n 0 ∙ ap (λ (k : ℕ). page_loads n 0 ++ Load k right.Place (replicate 4096 0) ∷ []) (let z : 0 + n ≡ n = omega arith in z) where
  by_suc : (k i : ℕ) → page_loads (suc k) i ≡ page_loads k i ++ Load (i + k) right.Place (replicate 4096 0) ∷ []
  by_suc zero i = ap (λ (x : ℕ). Load x right.Place (replicate 4096 0) ∷ []) (let z : i ≡ i + 0 = omega arith in z)
  by_suc (suc k) i =
      ap (λ (ws : List Work). Load i right.Place (replicate 4096 0) ∷ ws)
      (by_suc k (i + 1) ∙ ap (λ (x : ℕ). page_loads k (i + 1) ++ Load x right.Place (replicate 4096 0) ∷ []) (let z : i + 1 + k ≡ i + suc k = omega arith in z))

-- a page of which one thing changes
pub set-changed : {B : Type 0} (f : Page → B) (xs : List Page) (i : ℕ) (x : Page) → map f (slice_set xs i x) ≡ slice_set (map f xs) i (f x)
set-changed f [] i x = refl
set-changed f (y ∷ ys) zero x = refl
set-changed f (y ∷ ys) (suc i) x = ap (λ t. f y ∷ t) (set-changed f ys i x)

pub set-same : {B : Type 0} (f : Page → B) (xs : List Page) (i : ℕ) (x old : Page) → slice_get xs i ≡ Some old → f x ≡ f old → map f (slice_set xs i x) ≡ map f xs
set-same f [] i x old e h = refl
set-same f (y ∷ ys) zero x old e h = let same : y ≡ old = cc in ap (λ t. t ∷ map f ys) (h ∙ ap f (sym same))
set-same f (y ∷ ys) (suc i) x old e h = ap (λ t. f y ∷ t) (set-same f ys i x old e h)

-- these before those, if there are those
abbrev pub in_front_of : List Descriptor → Option (List Descriptor) → Option (List Descriptor)
in_front_of ds None = None
in_front_of ds (Some later) = Some (ds ++ later)

-- pages that were loaded at most so often have no load after so many
pub no-loads : (n i turn : ℕ) (past : List ClientEvent) → ((page : ℕ) → i ≤ page → page < i + n → length (descriptors_on page past) ≤ turn)
    → map loaded_in (unused_pages n) ≡ loads_at n i turn past
no-loads zero i turn past h = refl
no-loads (suc n) i turn past h =
    ap (λ (o : Option Descriptor). o ∷ map loaded_in (unused_pages n)) (sym (get-past (descriptors_on i past) turn (h i (omega arith) (omega arith))))
    ∙ ap (λ (os : List (Option Descriptor)). slice_get (descriptors_on i past) turn ∷ os) (no-loads n (i + 1) turn past (λ page lo hi. h page (omega (arith, lo)) (omega (arith, hi))))

pub flat-back : (n number : ℕ) (past : List ClientEvent) → flat_map same_bytes (pages_from n number past) ≡ pages_back n number past
flat-back zero number past = refl
flat-back (suc n) number past = ap (λ (t : List ℕ). unloaded_by number past ++ t) (flat-back n (number + 1) past)

-- ---- a page is loaded

loads-other : (n i turn : ℕ) (c : Completion) (d : Descriptor) (past : List ClientEvent) → c.result ≡ Loaded d → (token_of_descriptor d).page < i
    → loads_at n i turn (Completed c ∷ past) ≡ loads_at n i turn past
loads-other zero i turn c d past e h = refl
loads-other (suc n) i turn c d past e h =
    let apart : ((token_of_descriptor d).page == i) ≡ false = grind (arith, nat_tests) in
    let none : loaded_by i c.result ≡ [] = ap (loaded_by i) e ∙ ap (λ (t : Bool). cond t (d ∷ []) []) apart in
    ap (λ (ds : List Descriptor). slice_get (descriptors_on i past ++ ds) turn ∷ loads_at n (i + 1) turn (Completed c ∷ past)) none
    ∙ ap (λ (ds : List Descriptor). slice_get ds turn ∷ loads_at n (i + 1) turn (Completed c ∷ past)) (append-nil (descriptors_on i past))
    ∙ ap (λ (os : List (Option Descriptor)). slice_get (descriptors_on i past) turn ∷ os) (loads-other n (i + 1) turn c d past e (omega arith))

pub loads-set : (n i j : ℕ) (c : Completion) (d : Descriptor) (past : List ClientEvent) → c.result ≡ Loaded d → (token_of_descriptor d).page ≡ i + j → j < n
    → length (descriptors_on (token_of_descriptor d).page past) ≡ sent past
    → loads_at n i (sent past) (Completed c ∷ past) ≡ slice_set (loads_at n i (sent past) past) j (Some d)
loads-set zero i j c d past e p h k = absurd (omega arith)
loads-set (suc n) i zero c d past e p h k =
    let same : (token_of_descriptor d).page ≡ i = omega (arith, p) in
    let here : ((token_of_descriptor d).page == i) ≡ true = grind (arith, nat_tests) in
    let one : loaded_by i c.result ≡ d ∷ [] = ap (loaded_by i) e ∙ ap (λ (t : Bool). cond t (d ∷ []) []) here in
    let at : length (descriptors_on i past) ≡ sent past = ap (λ (x : ℕ). length (descriptors_on x past)) (sym same) ∙ k in
    ap (λ (ds : List Descriptor). slice_get (descriptors_on i past ++ ds) (sent past) ∷ loads_at n (i + 1) (sent past) (Completed c ∷ past)) one
    ∙ ap (λ (m : ℕ). slice_get (descriptors_on i past ++ d ∷ []) m ∷ loads_at n (i + 1) (sent past) (Completed c ∷ past)) (sym at)
    ∙ ap (λ (o : Option Descriptor). o ∷ loads_at n (i + 1) (sent past) (Completed c ∷ past)) (get_added (descriptors_on i past) d)
    ∙ ap (λ (os : List (Option Descriptor)). Some d ∷ os) (loads-other n (i + 1) (sent past) c d past e (omega arith))
loads-set (suc n) i (suc j) c d past e p h k =
    let apart : ((token_of_descriptor d).page == i) ≡ false = grind (arith, nat_tests) in
    let none : loaded_by i c.result ≡ [] = ap (loaded_by i) e ∙ ap (λ (t : Bool). cond t (d ∷ []) []) apart in
    ap (λ (ds : List Descriptor). slice_get (descriptors_on i past ++ ds) (sent past) ∷ loads_at n (i + 1) (sent past) (Completed c ∷ past)) none
    ∙ ap (λ (ds : List Descriptor). slice_get ds (sent past) ∷ loads_at n (i + 1) (sent past) (Completed c ∷ past)) (append-nil (descriptors_on i past))
    ∙ ap (λ (os : List (Option Descriptor)). slice_get (descriptors_on i past) (sent past) ∷ os) (loads-set n (i + 1) j c d past e (omega (arith, p)) (omega arith) k)

pub loads-same : (n i turn : ℕ) (c : Completion) (past : List ClientEvent) → ((page : ℕ) → loaded_by page c.result ≡ []) → loads_at n i turn (Completed c ∷ past) ≡ loads_at n i turn past
loads-same zero i turn c past h = refl
loads-same (suc n) i turn c past h =
    ap (λ (ds : List Descriptor). slice_get (descriptors_on i past ++ ds) turn ∷ loads_at n (i + 1) turn (Completed c ∷ past)) (h i)
    ∙ ap (λ (ds : List Descriptor). slice_get ds turn ∷ loads_at n (i + 1) turn (Completed c ∷ past)) (append-nil (descriptors_on i past))
    ∙ ap (λ (os : List (Option Descriptor)). slice_get (descriptors_on i past) turn ∷ os) (loads-same n (i + 1) turn c past h)

-- ---- a page is unloaded

pages-other : (n number : ℕ) (c : Completion) (past : List ClientEvent) → c.number < number → pages_from n number (Completed c ∷ past) ≡ pages_from n number past
pages-other zero number c past h = refl
pages-other (suc n) number c past h =
    let apart : (c.number == number) ≡ false = grind (arith, nat_tests) in
    ap (λ (t : Bool). cond t (page_bytes c.result) (unloaded_by number past) ∷ pages_from n (number + 1) (Completed c ∷ past)) apart
    ∙ ap (λ (ps : List (List ℕ)). unloaded_by number past ∷ ps) (pages-other n (number + 1) c past (omega arith))

pub pages-set : (n number j : ℕ) (c : Completion) (bytes : List ℕ) (past : List ClientEvent) → c.result ≡ Unloaded bytes → c.number ≡ number + j → j < n
    → pages_from n number (Completed c ∷ past) ≡ slice_set (pages_from n number past) j bytes
pages-set zero number j c bytes past e p h = absurd (omega arith)
pages-set (suc n) number zero c bytes past e p h =
    let here : (c.number == number) ≡ true = (let same : c.number ≡ number = omega (arith, p) in grind (arith, nat_tests)) in
    ap (λ (t : Bool). cond t (page_bytes c.result) (unloaded_by number past) ∷ pages_from n (number + 1) (Completed c ∷ past)) here
    ∙ ap (λ (r : WorkResult). page_bytes r ∷ pages_from n (number + 1) (Completed c ∷ past)) e
    ∙ ap (λ (ps : List (List ℕ)). bytes ∷ ps) (pages-other n (number + 1) c past (omega (arith, p)))
pages-set (suc n) number (suc j) c bytes past e p h =
    let apart : (c.number == number) ≡ false = grind (arith, nat_tests) in
    ap (λ (t : Bool). cond t (page_bytes c.result) (unloaded_by number past) ∷ pages_from n (number + 1) (Completed c ∷ past)) apart
    ∙ ap (λ (ps : List (List ℕ)). unloaded_by number past ∷ ps) (pages-set n (number + 1) j c bytes past e (omega (arith, p)) (omega arith))

-- a page has at most 4,096 bytes
back-short : (number : ℕ) (past : List ClientEvent) → IsGet channels.V1 past → length (unloaded_by number past) ≤ 4096
back-short number [] p = omega arith
back-short number (Group b ∷ past) p = absurd p.0
back-short number (End ∷ past) p = absurd p.0
back-short number (Sent q ∷ past) p = back-short number past p.1
back-short number (Replied m ∷ past) p = back-short number past p.1
back-short number (Gave work ∷ past) p = back-short number past p.1
back-short number (Completed c ∷ past) p = by_test (c.number == number) (back-short number past p.1) where
  by_kind : (work : Work) (result : WorkResult) → IsOfKind work result → length (page_bytes result) ≤ 4096
  by_kind (Load page r bytes) (Loaded d) k = omega arith
  by_kind (Fetch d) (Fetched bytes) k = omega arith
  by_kind (Place d bytes) Placed k = omega arith
  by_kind (Unload t) (Unloaded bytes) k = omega (arith, k)
  by_kind work result k = absurd k

  by_test : (t : Bool) → length (unloaded_by number past) ≤ 4096 → length (cond t (page_bytes c.result) (unloaded_by number past)) ≤ 4096
  by_test true h = by_kind p.0.work c.result p.0.fits
  by_test false h = h
back-short number (Received b ∷ past) p = back-short number past p.1

pub sizes-short : (n number : ℕ) (past : List ClientEvent) → IsGet channels.V1 past → sizes (pages_from n number past) ≤ 4096 * n
sizes-short zero number past p = omega arith
sizes-short (suc n) number past p = omega (arith, back-short number past p, sizes-short n (number + 1) past p)

-- no page came back by a job that was not given
none-later : (number : ℕ) (past : List ClientEvent) → IsGet channels.V1 past → length (jobs_given past) ≤ number → unloaded_by number past ≡ []
unfolding OpenFrom
none-later number [] p h = refl
none-later number (Group b ∷ past) p h = absurd p.0
none-later number (End ∷ past) p h = absurd p.0
none-later number (Sent q ∷ past) p h = none-later number past p.1 h
none-later number (Replied m ∷ past) p h = none-later number past p.1 h
none-later number (Gave work ∷ past) p h = none-later number past p.1 (omega (arith, h, length-append (jobs_given past) (work ∷ [])))
none-later number (Completed c ∷ past) p h =
    let r = rounds_of past p.1 in
    let at = open-at r.base c.number (jobs_given past) (open_jobs past) p.0.work r.numbers p.0.is_open in
    let less : c.number < length (jobs_given past) = within (jobs_given past) c.number p.0.work at.1 in
    let apart : (c.number == number) ≡ false = grind (arith, nat_tests) in
    ap (λ (t : Bool). cond t (page_bytes c.result) (unloaded_by number past)) apart ∙ none-later number past p.1 h
none-later number (Received b ∷ past) p h = none-later number past p.1 h

pub none-back : (n number : ℕ) (past : List ClientEvent) → IsGet channels.V1 past → length (jobs_given past) ≤ number → map back_in (unused_pages n) ≡ pages_from n number past
none-back zero number past p h = refl
none-back (suc n) number past p h =
    ap (λ (t : List ℕ). t ∷ map back_in (unused_pages n)) (sym (none-later number past p h))
    ∙ ap (λ (ps : List (List ℕ)). unloaded_by number past ∷ ps) (none-back n (number + 1) past p (omega (arith, h)))

-- ---- what a completion meets

-- the work of an open job stands at its place, in the round that is under way
pub record IsUnderWay (past : List ClientEvent) (r : Round past) (n : ℕ) (work : Work) : Type 0 where
  pub from : r.base ≤ n
  pub at : slice_get r.last (n - r.base) ≡ Some work
  pub less : jobs_completed past < length (jobs_due past)

pub under_way : (past : List ClientEvent) (r : Round past) (n : ℕ) (work : Work) → job_at n (open_jobs past) ≡ Some work → IsUnderWay past r n work
under_way past r n work e =
    let at = open-at r.base n (jobs_given past) (open_jobs past) work r.numbers e in
    let due : slice_get (r.front ++ r.last) n ≡ Some work =
    ap (λ (ws : List Work). slice_get ws n) (sym r.due ∙ r.given) ∙ get_in_front (jobs_given past) r.rest n work at.1 in
    let some : 1 ≤ length (open_jobs past) = any_open (open_jobs past) e in
    record {
      from = at.0;
      at = ap (λ (k : ℕ). slice_get r.last (n - k)) (sym r.begun) ∙ behind r.front r.last n work (omega (arith, at.0, r.begun)) due;
      less = omega (arith, r.counts, given-within past r, some);
    }
  where
    any_open : (jobs : List Job) → job_at n jobs ≡ Some work → 1 ≤ length jobs
    any_open [] h = absurd (let b : ⊥ = cc in b)
    any_open (job ∷ later) h = omega arith

none_at : {A : Type 0} (xs : List A) (n : ℕ) (x : A) → xs ≡ [] → slice_get xs n ≡ Some x → ⊥
none_at [] n x e h = cc
none_at (y ∷ ys) n x e h = cc

-- a page that is loaded is loaded for the READ that comes next
pub record IsLoadTurn (past : List ClientEvent) (d : Descriptor) : Type 0 where
  pub page : (token_of_descriptor d).page < 16
  pub token : 256 ≤ d.token
  pub turn : length (descriptors_on (token_of_descriptor d).page past) ≡ sent past
  pub unawaited : awaits channels.V1 past ≡ false

pub load-turn : (past : List ClientEvent) (number : ℕ) (d : Descriptor) → IsGet channels.V1 past → AnswersJob past (record { number = number; result = Loaded d }) → IsLoadTurn past d
unfolding Stage is_load_on
load-turn past number d p a = by_work a.work a.is_open a.fits (rounds_of past p) where
  unload_load : (e : Descriptor) (t : Work) → t ≡ Unload (token_of_descriptor e) → IsOfKind t (Loaded d) → ⊥
  unload_load e t h k = let x : IsOfKind (Unload (token_of_descriptor e)) (Loaded d) = subst (λ (w : Work). IsOfKind w (Loaded d)) h k in x

  pages_same : (i : ℕ) (work : Work) → work ≡ Load i right.Place (replicate 4096 0) → IsOfKind work (Loaded d) → ((token_of_descriptor d).page ≡ i) × (256 ≤ d.token)
  pages_same i work h k = let f : IsOfKind (Load i right.Place (replicate 4096 0)) (Loaded d) = subst (λ (w : Work). IsOfKind w (Loaded d)) h k in (f.1, f.2)

  is_load : (i : ℕ) (work : Work) → work ≡ Load i right.Place (replicate 4096 0) → is_load_on i work ≡ true
  is_load i work h = ap (is_load_on i) h ∙ itself i where
    itself : (x : ℕ) → (x == x) ≡ true
    itself x = grind (arith, nat_tests)

  not_less : (x y : ℕ) (b : Bool) → y ≤ x → (not b && nat_lt x y) ≡ false
  not_less x y b h = let f : nat_lt x y ≡ false = grind (arith, nat_tests) in ap (λ (t : Bool). not b && t) f ∙ and_false (not b) where
    and_false : (t : Bool) → (t && false) ≡ false
    and_false true = refl
    and_false false = refl

  by_work : (work : Work) → job_at number (open_jobs past) ≡ Some work → IsOfKind work (Loaded d) → (r : Round past) → IsLoadTurn past d
  by_work work e k r = by_stage r.stage where
    u : IsUnderWay past r number work
    u = under_way past r number work e

    by_stage : Stage past r.base r.rounds r.last → IsLoadTurn past d
    by_stage (inl s) =
        let at = at-loads 16 0 (number - r.base) work (ap (λ (ws : List Work). slice_get ws (number - r.base)) (sym s.works) ∙ u.at) in
        let k2 = pages_same (0 + (number - r.base)) work at.1 k in
        let small : (token_of_descriptor d).page < 16 = omega (arith, k2.0, at.0) in
        let one : 1 ≤ count_open (is_load_on (token_of_descriptor d).page) (open_jobs past) =
        counted (is_load_on (token_of_descriptor d).page) number (open_jobs past) work e (ap (λ (x : ℕ). is_load_on x work) k2.0 ∙ is_load (0 + (number - r.base)) work at.1) in
        record {
          page = small;
          token = k2.1;
          turn = omega (
            arith,
            one,
            r.loads (token_of_descriptor d).page,
            r.dues (token_of_descriptor d).page small,
            s.round,
            r.least s.unended (token_of_descriptor d).page small,
            ap (count (is_load_on (token_of_descriptor d).page)) r.given,
            count-append (is_load_on (token_of_descriptor d).page) (jobs_given past) r.rest,
          );
          unawaited = not_less (jobs_completed past) (32 * sent past) (has_ended (requests_sent past)) (omega (arith, s.at, r.done));
        }
    by_stage (inr (inl s)) = absurd (none_at r.last (number - r.base) work s.works u.at)
    by_stage (inr (inr (inl s))) =
        let at = at-unloads s.named (number - r.base) work (ap (λ (ws : List Work). slice_get ws (number - r.base)) (sym s.works) ∙ u.at) in
        absurd (unload_load at.0 work at.1 k)
    by_stage (inr (inr (inr s))) = absurd (none_at r.last (number - r.base) work s.works u.at)

-- a page that is unloaded is one of the READ that was given last
pub record IsUnloadTurn (past : List ClientEvent) (number : ℕ) (bytes : List ℕ) : Type 0 where
  pub from : first_unload past ≤ number
  pub place : number ≡ first_unload past + number % 16

pub unload-turn : (past : List ClientEvent) (number : ℕ) (bytes : List ℕ) → IsGet channels.V1 past → AnswersJob past (record { number = number; result = Unloaded bytes }) → IsUnloadTurn past number bytes
unfolding Stage
unload-turn past number bytes p a = by_work a.work a.is_open a.fits (rounds_of past p) where
  load_unload : (i : ℕ) (work : Work) → work ≡ Load i right.Place (replicate 4096 0) → IsOfKind work (Unloaded bytes) → ⊥
  load_unload i work h k = let x : IsOfKind (Load i right.Place (replicate 4096 0)) (Unloaded bytes) = subst (λ (w : Work). IsOfKind w (Unloaded bytes)) h k in x

  by_work : (work : Work) → job_at number (open_jobs past) ≡ Some work → IsOfKind work (Unloaded bytes) → (r : Round past) → IsUnloadTurn past number bytes
  by_work work e k r = by_stage r.stage where
    u : IsUnderWay past r number work
    u = under_way past r number work e

    by_stage : Stage past r.base r.rounds r.last → IsUnloadTurn past number bytes
    by_stage (inl s) =
        let at = at-loads 16 0 (number - r.base) work (ap (λ (ws : List Work). slice_get ws (number - r.base)) (sym s.works) ∙ u.at) in
        absurd (load_unload (0 + (number - r.base)) work at.1 k)
    by_stage (inr (inl s)) = absurd (none_at r.last (number - r.base) work s.works u.at)
    by_stage (inr (inr (inl s))) =
        let less : number - r.base < 16 = omega (arith, within r.last (number - r.base) work u.at, ap length s.works, length-unloads s.named, s.pages) in
        record { from = omega (arith, s.at, u.from); place = omega (arith, s.at, u.from, less) }
    by_stage (inr (inr (inr s))) = absurd (none_at r.last (number - r.base) work s.works u.at)

-- no other job is answered at a get
pub no-other : (past : List ClientEvent) (c : Completion) → IsGet channels.V1 past → AnswersJob past c → ((d : Descriptor) → c.result ≡ Loaded d → ⊥) → ((bytes : List ℕ) → c.result ≡ Unloaded bytes → ⊥) → ⊥
unfolding Stage
no-other past c p a not_load not_unload = by_work a.work a.is_open a.fits (rounds_of past p) where
  of_load : (i : ℕ) (result : WorkResult) → c.result ≡ result → IsOfKind (Load i right.Place (replicate 4096 0)) result → ⊥
  of_load i (Loaded d) e k = not_load d e
  of_load i (Fetched bytes) e k = k
  of_load i Placed e k = k
  of_load i (Unloaded bytes) e k = k
  of_load i (Refused status) e k = k

  of_unload : (d : Descriptor) (result : WorkResult) → c.result ≡ result → IsOfKind (Unload (token_of_descriptor d)) result → ⊥
  of_unload d (Loaded x) e k = k
  of_unload d (Fetched bytes) e k = k
  of_unload d Placed e k = k
  of_unload d (Unloaded bytes) e k = not_unload bytes e
  of_unload d (Refused status) e k = k

  by_work : (work : Work) → job_at c.number (open_jobs past) ≡ Some work → IsOfKind work c.result → (r : Round past) → ⊥
  by_work work e k r = by_stage r.stage where
    u : IsUnderWay past r c.number work
    u = under_way past r c.number work e

    by_stage : Stage past r.base r.rounds r.last → ⊥
    by_stage (inl s) =
        let at = at-loads 16 0 (c.number - r.base) work (ap (λ (ws : List Work). slice_get ws (c.number - r.base)) (sym s.works) ∙ u.at) in
        of_load (0 + (c.number - r.base)) c.result refl (subst (λ (w : Work). IsOfKind w c.result) at.1 k)
    by_stage (inr (inl s)) = none_at r.last (c.number - r.base) work s.works u.at
    by_stage (inr (inr (inl s))) =
        let at = at-unloads s.named (c.number - r.base) work (ap (λ (ws : List Work). slice_get ws (c.number - r.base)) (sym s.works) ∙ u.at) in
        of_unload at.0 c.result refl (subst (λ (w : Work). IsOfKind w c.result) at.1 k)
    by_stage (inr (inr (inr s))) = none_at r.last (c.number - r.base) work s.works u.at
