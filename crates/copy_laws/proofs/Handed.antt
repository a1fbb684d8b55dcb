-- By which job the workers of an end made an event, which event a completion tells of, and which jobs were done where a request was
-- answered.
use Rattle.std.proofs.Common.{◌≡◌, ℕ, zero, suc, ◌+◌, ◌-◌, ◌%◌, ◌<◌, ◌≤◌, ◌==◌, Bool, true, false, cond, Option, Some, List, [], ◌∷◌, ◌++◌, length, take, drop, reverse, refl, sym, ap, ◌∙◌, subst, arith, length-append, ⊎_elim, Contains}
use Rattle.std.specs.Prelude.{slice_get}
use Rattle.std.specs.List.{flat_map}
use mathlib.Core.List.{IsPrefix}
use Rattle.std.proofs.lemmas.Nat.{mod_below}
use Rattle.std.proofs.lemmas.Bool.Decides.{nat_tests}
use Rattle.smbd_base.specs.declared.page_event.PageEvent.{PageEvent}
use Rattle.smbd_base.specs.Tokens.{PageToken}
use Rattle.smbd_base.specs.Pages.{Entry, PageState, page_in, IsPoolRun}
use Rattle.smbd_base.specs.PagesFit.{all_events, events_by}
use Rattle.smbd_base.proofs.EventLists.{Contains-head, Contains-tail}
use Rattle.buffer_descriptor.specs.declared.descriptor.Descriptor.{Descriptor}
use Rattle.file_messages.specs.declared.kind.CopyKind.{CopyKind}
use Rattle.file_messages.specs.declared.message.Request.{Request}
use Rattle.file_messages.specs.declared.job.Work.{Work}
use Rattle.file_messages.specs.declared.job.WorkResult.{WorkResult}
use Rattle.file_messages.specs.declared.job.Completion.{Completion}
use Rattle.file_pasts.specs.ClientPast.{token_of_descriptor}
use Rattle.file_pasts.specs.PutPages.{tokens_named}
use Rattle.file_pasts.specs.ServerDue.{ServerEvent, Asked, Filled, Gave, Completed, Replied, Stored, replies, result_at, jobs_in_hand, jobs_given, jobs_due, IsServer}
use Rattle.file_pasts.specs.ServerLaws.{works_given, jobs_needed, AsksFor, NothingRefused, FillsFrom}
use Rattle.file_pasts.proofs.Lists.{within, get_in_front, get_of_front, get_last, length_take}
use Rattle.file_pasts.proofs.ServerJobs.{counts, jobs, split_at, servers_fetch}
use Rattle.page_workers.specs.Jobs.{IsDoneBy}
use Rattle.page_workers.specs.Turns.{page_of_work}
use Rattle.page_workers.specs.Workers.{WorkerState}
use Rattle.copy_laws.specs.Shares.{jobs_for, is_some_for, is_answer_of, completions_of}
use Rattle.copy_laws.specs.ServerDone.{completions_taken}
use Rattle.copy_laws.specs.Coupled.{AreWorkers}
use Rattle.copy_laws.specs.Laws.{lists_from}
use Rattle.copy_laws.proofs.Eaches.{each-both, each-at, each-contained, reverse-cons}
use Rattle.copy_laws.proofs.Shares.{IsShare, each-share}
use Rattle.copy_laws.proofs.Runs.{Makes, HasMaker, run-at}
use Rattle.copy_laws.proofs.Pool.{each-among}
use Rattle.copy_laws.proofs.Origins.{did-at, made-at}
use Rattle.copy_laws.proofs.Tokens.{prefix-get}
use Rattle.copy_laws.proofs.WorkerLists.{each-of-pass, each-lists, contained-lists}
use Rattle.copy_laws.proofs.Loads.{named-by}
use Rattle.copy_laws.proofs.StepsLists.{get-middle}
use Rattle.copy_laws.proofs.StepsGiven.{own-job}
use Rattle.copy_laws.proofs.StepsTaken.{answered-at}
use Rattle.copy_laws.proofs.StepsServers.{works-count, replied-there}

-- ---- lists

get-after : {X : Type 0} (xs ys : List X) (n : ℕ) → slice_get (xs ++ ys) (length xs + n) ≡ slice_get ys n
get-after [] ys n = ap (λ (k : ℕ). slice_get ys k) (let z : 0 + n ≡ n = omega arith in z)
get-after (x ∷ xs) ys n = ap (λ (k : ℕ). slice_get (x ∷ (xs ++ ys)) k) (let z : suc (length xs) + n ≡ suc (length xs + n) = omega arith in z) ∙ get-after xs ys n

get-in-take : {X : Type 0} (m : ℕ) (xs : List X) (n : ℕ) (x : X) → n < m → slice_get xs n ≡ Some x → slice_get (take m xs) n ≡ Some x
get-in-take zero xs n x h at = absurd (omega (arith, h))
get-in-take (suc m) [] n x h at = absurd (let b : ⊥ = cc in b)
get-in-take (suc m) (y ∷ xs) zero x h at = at
get-in-take (suc m) (y ∷ xs) (suc n) x h at = get-in-take m xs n x (omega (arith, h)) at

taken-below : {X : Type 0} (m : ℕ) (xs : List X) (n : ℕ) (x : X) → slice_get (take m xs) n ≡ Some x → n < m
taken-below zero xs n x e = absurd (let z : ⊥ = cc in z)
taken-below (suc m) [] n x e = absurd (let z : ⊥ = cc in z)
taken-below (suc m) (y ∷ xs) zero x e = omega arith
taken-below (suc m) (y ∷ xs) (suc n) x e = (let less = taken-below m xs n x e in omega (arith, less))

reversed-has : (es : List PageEvent) (n : ℕ) (e : PageEvent) → slice_get (reverse es) n ≡ Some e → Contains es e
reversed-has [] n e at = absurd (let b : ⊥ = cc in b)
reversed-has (x ∷ es) n e at =
    ⊎_elim
    (λ (old : slice_get (reverse es) n ≡ Some e). Contains-tail x es e (reversed-has es n e old))
    (λ (last : (n ≡ length (reverse es)) × (e ≡ x)). subst (λ (y : PageEvent). Contains (x ∷ es) y) (sym last.1) (Contains-head x es))
    (get_last (reverse es) x n e (subst (λ (xs : List PageEvent). slice_get xs n ≡ Some e) (reverse-cons x es) at))

-- ---- the workers of an end

-- an event of theirs, and its job
pub record IsMadeBy (works : List Work) (e : PageEvent) : Type 0 where
  pub n : ℕ
  pub work : Work
  pub at : slice_get works n ≡ Some work
  pub makes : Makes work e
  pub below : page_in e < 256

-- the event of a piece of work whose completion was handed in
pub record HandedEvent (lists : List (List PageEvent)) (work : Work) (r : WorkResult) : Type 0 where
  pub event : PageEvent
  pub listed : Contains (all_events lists) event
  pub done : IsDoneBy work r event

module _ (workers first : ℕ) (works : List Work) (handed : List Completion) (pool : List Entry) (ws : List WorkerState) (a : AreWorkers workers first works handed pool ws) where
  pub made-by : (count : ℕ) (pages : List PageState) → count ≤ 256 → IsPoolRun 1 count pool pages
      → (e : PageEvent) → Contains (all_events (lists_from first workers pool)) e → IsMadeBy works e
  made-by count pages few run e has =
      each-contained (IsMadeBy works) (all_events (lists_from first workers pool)) e
      (each-lists (IsMadeBy works) first workers pool (λ place below.
      each-both (HasMaker (IsShare workers (place + 1) works)) (λ (x : PageEvent). page_in x < count) (IsMadeBy works) (events_by (first + place) pool)
      (λ x m under. record { n = m.job.number; work = m.job.work; at = m.own.at; makes = m.makes; below = omega (arith, under, few) })
      (made-at workers first place works handed pool ws a below)
      (each-of-pass (λ (x : PageEvent). page_in x < count) (first + place) pool (each-among 1 count pool pages run)))) has

  pub handed-event : (m : ℕ) (c : Completion) (work : Work) → 1 ≤ workers → slice_get handed m ≡ Some c → slice_get works c.number ≡ Some work
      → HandedEvent (lists_from first workers pool) work c.result
  handed-event m c work some at given =
      let place = page_of_work work % workers in
      let below : place < workers = mod_below (page_of_work work) workers (omega (arith, some)) in
      let own : is_answer_of workers (place + 1) works c ≡ true = ap (λ (o : Option Work). is_some_for workers (place + 1) o) given ∙ own-job workers place work refl in
      let stands = answered-at workers (place + 1) works handed m c at own in
      let x = did-at workers first place works handed pool ws a below in
      let jobs_are = jobs_for workers (place + 1) 0 works in
      let sent = completions_of workers (place + 1) works handed in
      let y = run-at x.worker.kept x.worker.waiting jobs_are (sent ++ x.worker.done) (reverse (events_by (first + place) pool)) stands.0 c x.did (get_in_front sent x.worker.done stands.0 c stands.1) in
      let share = each-at (IsShare workers (place + 1) works) jobs_are stands.0 y.job (each-share workers (place + 1) works) y.job_at in
      let same : y.job.work ≡ work = some-same y.job.work work (sym share.at ∙ ap (λ (n : ℕ). slice_get works n) (sym y.done.number) ∙ given) in
      record {
        event = y.event;
        listed = contained-lists first workers place pool y.event below (reversed-has (events_by (first + place) pool) stands.0 y.event y.event_at);
        done = subst (λ (q : Work). IsDoneBy q c.result y.event) same y.done.done;
      }
    where
      some-same : (x y : Work) → Some x ≡ Some y → x ≡ y
      some-same x y h = cc

-- ---- the result of a job came by a completion

result-handed : (n : ℕ) (past : List ServerEvent) (r : WorkResult) → result_at n past ≡ Some r → (m : ℕ) × (c : Completion) × (slice_get (completions_taken past) m ≡ Some c) × (c.number ≡ n)
result-handed n [] r h = absurd (let b : ⊥ = cc in b)
result-handed n (Asked m ∷ past) r h = result-handed n past r h
result-handed n (Filled b ∷ past) r h = result-handed n past r h
result-handed n (Gave w ∷ past) r h = result-handed n past r h
result-handed n (Completed c ∷ past) r h = by_test (c.number == n) refl h (result-handed n past r) where
  Found : Type 0
  Found = (m : ℕ) × (d : Completion) × (slice_get (completions_taken past ++ c ∷ []) m ≡ Some d) × (d.number ≡ n)

  by_test : (t : Bool) → (c.number == n) ≡ t → cond t (Some c.result) (result_at n past) ≡ Some r
      → (result_at n past ≡ Some r → (m : ℕ) × (d : Completion) × (slice_get (completions_taken past) m ≡ Some d) × (d.number ≡ n)) → Found
  by_test true is k ih = (length (completions_taken past), c, get-middle (completions_taken past) [] c, (let z : c.number ≡ n = grind (arith, nat_tests) in z))
  by_test false is k ih = (let x = ih k in (x.0, x.1, get_in_front (completions_taken past) (c ∷ []) x.0 x.1 x.2, x.3))
result-handed n (Replied q ∷ past) r h = result-handed n past r h
result-handed n (Stored b ∷ past) r h = result-handed n past r h

-- ---- a request that was answered

-- a token that one of the first so many requests of a run names
pub record IsNamedEarly (run : List Request) (count : ℕ) (t : PageToken) : Type 0 where
  pub request : ℕ
  pub place : ℕ
  pub named_by : Request
  pub descriptor : Descriptor
  pub below : request < count
  pub request_at : slice_get run request ≡ Some named_by
  pub descriptor_at : slice_get named_by.descriptors place ≡ Some descriptor
  pub token_is : t ≡ token_of_descriptor descriptor

pub named-early : (sent run : List Request) (count : ℕ) (t : PageToken) → IsPrefix sent run → Contains (tokens_named (take count sent)) t → IsNamedEarly run count t
named-early sent run count t front has =
    let x = named-by (take count sent) t has in
    record {
      request = x.request;
      place = x.place;
      named_by = x.named_by;
      descriptor = x.descriptor;
      below = taken-below count sent x.request x.named_by x.request_at;
      request_at = prefix-get sent run x.request x.named_by front (get_of_front count sent x.request x.named_by x.request_at);
      descriptor_at = x.descriptor_at;
      token_is = x.token_is;
    }

module _ (kind : CopyKind) (bytes : List ℕ) (run : List Request) (past : List ServerEvent)
    (served : IsServer kind past) (asks : AsksFor run past) (refused : NothingRefused past) (fills : FillsFrom kind bytes past) where
  -- each job that it needs was given, and its result is there
  answered-job : (k i : ℕ) (r : Request) (work : Work) → k < length (replies past) → slice_get run k ≡ Some r → slice_get (jobs_needed bytes r) i ≡ Some work
      → (n : ℕ) × (slice_get (works_given past) n ≡ Some work) × (n < jobs_given past - jobs_in_hand past)
  answered-job k i r work less at job =
      let front = take (length (replies past)) run in
      let in_front : slice_get front k ≡ Some r = get-in-take (length (replies past)) run k r less at in
      let f = jobs_needed bytes in
      let before = flat_map f (take k front) in
      let n = length before + i in
      let stands : slice_get (flat_map f front) n ≡ Some work =
      ap (λ (ws : List Work). slice_get ws n) (split_at f k front r in_front)
      ∙ get-after before (jobs_needed bytes r ++ flat_map f (drop (suc k) front)) i
      ∙ get_in_front (jobs_needed bytes r) (flat_map f (drop (suc k) front)) i work job in
      let done = (servers_fetch kind bytes run past served asks refused fills).replied in
      let j = jobs kind bytes run past served asks refused fills in
      let c = counts kind bytes run past served asks refused fills in
      let hand = length_take (jobs_in_hand past) (jobs_due kind past) c.in_hand in
      let sum : length (works_given past) ≡ length (flat_map f front) + length (take (jobs_in_hand past) (jobs_due kind past)) =
      ap (λ (ws : List Work). length ws) j.works ∙ length-append (flat_map f front) (take (jobs_in_hand past) (jobs_due kind past)) in
      let inside = within (flat_map f front) n work stands in
      (n, prefix-get (flat_map f front) (works_given past) n work done stands, omega (arith, inside, sum, hand, works-count past))

  -- so its event was made
  pub answered-event : (workers : ℕ) (pool : List Entry) (ss : List WorkerState) → 1 ≤ workers → AreWorkers workers workers (works_given past) (completions_taken past) pool ss
      → (k i : ℕ) (r : Request) (work : Work) → k < length (replies past) → slice_get run k ≡ Some r → slice_get (jobs_needed bytes r) i ≡ Some work
      → (result : WorkResult) × HandedEvent (lists_from workers workers pool) work result
  answered-event workers pool ss some a k i r work less at job =
      let x = answered-job k i r work less at job in
      let there = replied-there kind past x.0 served x.2 in
      let came = result-handed x.0 past there.0 there.1 in
      (came.1.result, handed-event workers workers (works_given past) (completions_taken past) pool ss a came.0 came.1 work some came.2 (ap (λ (n : ℕ). slice_get (works_given past) n) came.3 ∙ x.1))
