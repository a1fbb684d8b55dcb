-- The server of a copy gives jobs to its workers, and is handed their completions.
use Rattle.std.proofs.Common.{◌≡◌, ◌⊎◌, inl, inr, ℕ, zero, suc, ◌+◌, ◌-◌, ◌%◌, ◌<◌, ◌≤◌, ◌==◌, ◌&&◌, Bool, true, false, cond, is_none, Option, Some, None, List, [], ◌∷◌, ◌++◌, length, drop, map, refl, sym, ap, ◌∙◌, subst, arith, length-append, ⊎_elim}
use Rattle.std.specs.Prelude.{slice_get, slice_set}
use Rattle.std.proofs.lemmas.Bool.Decides.{nat_tests}
use Rattle.buffer_descriptor.specs.declared.descriptor.Descriptor.{Descriptor}
use Rattle.file_messages.specs.declared.kind.CopyKind.{CopyKind}
use Rattle.file_messages.specs.declared.message.Request.{Request}
use Rattle.file_messages.specs.declared.message.Reply.{Reply}
use Rattle.file_messages.specs.declared.job.Work.{Work}
use Rattle.file_messages.specs.declared.job.Work.TheVariants.{Fetch}
use Rattle.file_messages.specs.declared.job.WorkResult.{WorkResult}
use Rattle.file_messages.specs.declared.job.Job.{Job}
use Rattle.file_messages.specs.declared.job.Completion.{Completion}
use Rattle.file_messages.specs.Messages.{refusal}
use Rattle.file_pasts.specs.ServerDue.{ServerEvent, Asked, Filled, Gave, Completed, Replied, Stored, handled, standing_status, source_in_hand, source_for, wants_source, places_of, places_in_hand, jobs_of, jobs_if_handled, jobs_due, jobs_given, jobs_in_hand, result_at, results, results_from, result_in_front, answer_with, reply_if_handled, next_reply, AnswersJob, IsServer}
use Rattle.file_pasts.specs.ServerLaws.{works_given}
use Rattle.file_pasts.proofs.Lists.{within, get_in_front, get_last, got_of_map}
use Rattle.file_pasts.proofs.ServerJobs.{nothing_due, gave_place, due-gave, due-completed, due-stored, due-asked}
use Rattle.smbd_base.specs.declared.page_event.PageEvent.{PageEvent}
use Rattle.page_workers.specs.Jobs.{IsDone}
use Rattle.page_workers.specs.Turns.{page_of_work}
use Rattle.page_workers.specs.Laws.{IsOfServer}
use Rattle.page_workers.proofs.JobLaws.{answers-servers}
use Rattle.copy_laws.specs.ServerDone.{completions_taken}
use Rattle.copy_laws.specs.Coupled.{AreWorkers}
use Rattle.copy_laws.specs.Steps.{with_job, ServerGives, ServerTakes}
use Rattle.copy_laws.proofs.Eaches.{Each, each-append, each-weaker}
use Rattle.copy_laws.proofs.StepsLists.{get-middle, get-here}
use Rattle.copy_laws.proofs.StepsGiven.{IsGiven, workers-given}
use Rattle.copy_laws.proofs.StepsTaken.{IsNext, worker-next, workers-taken}

-- ---- how many jobs were given

pub works-count : (past : List ServerEvent) → length (works_given past) ≡ jobs_given past
works-count [] = refl
works-count (Asked m ∷ past) = works-count past
works-count (Filled bytes ∷ past) = works-count past
works-count (Gave work ∷ past) = length-append (works_given past) (work ∷ []) ∙ ap (λ (n : ℕ). n + 1) (works-count past)
works-count (Completed c ∷ past) = works-count past
works-count (Replied r ∷ past) = works-count past
works-count (Stored bytes ∷ past) = works-count past

pub few-in-hand : (past : List ServerEvent) → jobs_in_hand past ≤ jobs_given past
few-in-hand [] = omega arith
few-in-hand (Asked m ∷ past) = few-in-hand past
few-in-hand (Filled bytes ∷ past) = few-in-hand past
few-in-hand (Gave work ∷ past) = (let few = few-in-hand past in omega (arith, few))
few-in-hand (Completed c ∷ past) = few-in-hand past
few-in-hand (Replied r ∷ past) = omega arith
few-in-hand (Stored bytes ∷ past) = few-in-hand past

-- each completion that was handed in is of a job that was given
pub handed-given : (kind : CopyKind) (past : List ServerEvent) → IsServer kind past → Each (IsGiven (works_given past)) (completions_taken past)
handed-given kind [] p = tt
handed-given kind (Asked m ∷ past) p = handed-given kind past p.1
handed-given kind (Filled bytes ∷ past) p = handed-given kind past p.1
handed-given kind (Gave work ∷ past) p =
    let more : length (works_given past ++ work ∷ []) ≡ length (works_given past) + 1 = length-append (works_given past) (work ∷ []) in
    each-weaker (IsGiven (works_given past)) (IsGiven (works_given past ++ work ∷ [])) (completions_taken past) (λ c less. omega (arith, less, more)) (handed-given kind past p.1)
handed-given kind (Completed c ∷ past) p =
    let number_is = p.0.number in
    let below = p.0.given in
    each-append (IsGiven (works_given past)) (completions_taken past) (c ∷ []) (handed-given kind past p.1)
    ((let z : c.number < length (works_given past) = omega (arith, number_is, below, few-in-hand past, works-count past) in z), tt)
handed-given kind (Replied r ∷ past) p = handed-given kind past p.1
handed-given kind (Stored bytes ∷ past) p = handed-given kind past p.1

-- ---- what is due

-- before its bytes are there nothing is due for a READ
unfilled : (kind : CopyKind) (past : List ServerEvent) (most : ℕ) → wants_source kind past ≡ Some most → jobs_due kind past ≡ []
unfilled kind past most w = by_handled (handled kind past) refl w where
  no_source : (o : Option (List ℕ)) → is_none o ≡ true → o ≡ None
  no_source None e = refl
  no_source (Some x) e = absurd (let b : ⊥ = cc in b)

  not_one : (n : ℕ) → (n == 2) ≡ true → (n == 1) ≡ false
  not_one n e = (let x : n ≡ 2 = grind (arith, nat_tests) in grind (arith, nat_tests))

  by_tests : (q : Request) (a b c : Bool) → (q.op == 2) ≡ a → is_none (source_in_hand past) ≡ c → cond ((a && b) && c) (Some q.length) None ≡ Some most
      → ((q.op == 2) ≡ true) × (source_in_hand past ≡ None)
  by_tests q true true true s r h = (s, no_source (source_in_hand past) r)
  by_tests q true true false s r h = absurd (let x : ⊥ = cc in x)
  by_tests q true false c s r h = absurd (let x : ⊥ = cc in x)
  by_tests q false b c s r h = absurd (let x : ⊥ = cc in x)

  none_of : (q : Request) (t : Bool) → ((q.op == 2) ≡ true) × (source_in_hand past ≡ None) → cond t (jobs_of q past) [] ≡ []
  none_of q false h = refl
  none_of q true h =
      ap (λ (b : Bool). cond b (map (λ (d : Descriptor). Fetch d) q.descriptors) (cond (q.op == 2) (places_in_hand q (source_in_hand past)) [])) (not_one q.op h.0)
      ∙ ap (λ (b : Bool). cond b (places_in_hand q (source_in_hand past)) []) h.0 ∙ ap (places_in_hand q) h.1

  by_handled : (o : Option Request) → handled kind past ≡ o → source_for o past ≡ Some most → jobs_due kind past ≡ []
  by_handled None s h = nothing_due kind past s
  by_handled (Some q) s h =
      ap (λ (o : Option Request). jobs_if_handled kind o past) s
      ∙ none_of q (standing_status past == 0) (by_tests q (q.op == 2) (standing_status past == 0) (is_none (source_in_hand past)) refl refl h)

nothing-stands : (works : List Work) (n : ℕ) (work : Work) → works ≡ [] → slice_get works n ≡ Some work → ⊥
nothing-stands [] n work e at = cc
nothing-stands (x ∷ xs) n work e at = cc

-- a job that was given since the last reply stands among those that are due
pub given-due : (kind : CopyKind) (past : List ServerEvent) (n : ℕ) (work : Work) → IsServer kind past
    → slice_get (works_given past) (jobs_given past - jobs_in_hand past + n) ≡ Some work → slice_get (jobs_due kind past) n ≡ Some work
given-due kind [] n work p e = absurd (let b : ⊥ = cc in b)
given-due kind (Asked m ∷ past) n work p e = by_handled (handled kind past) refl (given-due kind past n work p.1 e) where
  by_handled : (o : Option Request) → handled kind past ≡ o → slice_get (jobs_due kind past) n ≡ Some work → slice_get (jobs_due kind (Asked m ∷ past)) n ≡ Some work
  by_handled None h at = absurd (nothing-stands (jobs_due kind past) n work (nothing_due kind past h) at)
  by_handled (Some q) h at = ap (λ (works : List Work). slice_get works n) (due-asked kind m past q h) ∙ at
given-due kind (Filled bytes ∷ past) n work p e =
    absurd (nothing-stands (jobs_due kind past) n work (unfilled kind past p.0.0 p.0.1) (given-due kind past n work p.1 e))
given-due kind (Gave x ∷ past) n work p e =
    let few = few-in-hand past in
    let same : jobs_given past + 1 - (jobs_in_hand past + 1) + n ≡ jobs_given past - jobs_in_hand past + n = omega (arith, few) in
    ap (λ (works : List Work). slice_get works n) (due-gave kind x past)
    ∙ ⊎_elim
    (λ (old : slice_get (works_given past) (jobs_given past - jobs_in_hand past + n) ≡ Some work). given-due kind past n work p.1 old)
    (λ (last : (jobs_given past - jobs_in_hand past + n ≡ length (works_given past)) × (work ≡ x)).
    let at = last.0 in
    let place : n ≡ jobs_in_hand past = omega (arith, few, at, works-count past) in
    ap (λ (k : ℕ). slice_get (jobs_due kind past) k) place ∙ gave_place kind x past p.0 ∙ ap (λ (y : Work). Some y) (sym last.1))
    (get_last (works_given past) x (jobs_given past - jobs_in_hand past + n) work (ap (λ (k : ℕ). slice_get (works_given past ++ x ∷ []) k) (sym same) ∙ e))
given-due kind (Completed c ∷ past) n work p e = ap (λ (works : List Work). slice_get works n) (due-completed kind c past) ∙ given-due kind past n work p.1 e
given-due kind (Replied r ∷ past) n work p e =
    absurd (let far = within (works_given past) (jobs_given past - 0 + n) work e in omega (arith, far, works-count past))
given-due kind (Stored bytes ∷ past) n work p e = ap (λ (works : List Work). slice_get works n) (due-stored kind bytes past) ∙ given-due kind past n work p.1 e

-- a server gives Fetches and Places
place-server : (ds : List Descriptor) (bytes : List ℕ) (n : ℕ) (work : Work) → slice_get (places_of ds bytes) n ≡ Some work → IsOfServer work
place-server [] bytes n work e = absurd (let b : ⊥ = cc in b)
place-server (d ∷ later) [] n work e = absurd (let b : ⊥ = cc in b)
place-server (d ∷ later) (b ∷ bytes) zero work e = subst IsOfServer (same _ work e) tt where
  same : (x y : Work) → Some x ≡ Some y → x ≡ y
  same x y h = cc
place-server (d ∷ later) (b ∷ bytes) (suc n) work e = place-server later (drop d.length (b ∷ bytes)) n work e

due-server : (kind : CopyKind) (past : List ServerEvent) (n : ℕ) (work : Work) → slice_get (jobs_due kind past) n ≡ Some work → IsOfServer work
due-server kind past n work e = by_handled (handled kind past) e where
  by_source : (q : Request) (o : Option (List ℕ)) → slice_get (places_in_hand q o) n ≡ Some work → IsOfServer work
  by_source q None h = absurd (let b : ⊥ = cc in b)
  by_source q (Some bytes) h = place-server q.descriptors bytes n work h

  by_tests : (q : Request) (t a b : Bool)
      → slice_get (cond t (cond a (map (λ (d : Descriptor). Fetch d) q.descriptors) (cond b (places_in_hand q (source_in_hand past)) [])) []) n ≡ Some work → IsOfServer work
  by_tests q false a b h = absurd (let x : ⊥ = cc in x)
  by_tests q true true b h =
      let x = got_of_map (λ (d : Descriptor). Fetch d) q.descriptors n work h in
      subst IsOfServer (sym x.2) tt
  by_tests q true false true h = by_source q (source_in_hand past) h
  by_tests q true false false h = absurd (let x : ⊥ = cc in x)

  by_handled : (o : Option Request) → slice_get (jobs_if_handled kind o past) n ≡ Some work → IsOfServer work
  by_handled None h = absurd (let b : ⊥ = cc in b)
  by_handled (Some q) h = by_tests q (standing_status past == 0) (q.op == 1) (q.op == 2) h

-- ---- results

-- each of these results is there
result-there : (from n : ℕ) (works : List Work) (past : List ServerEvent) (found : List WorkResult) (work : Work) → results_from from works past ≡ Some found
    → slice_get works n ≡ Some work → (r : WorkResult) × (result_at (from + n) past ≡ Some r)
result-there from n [] past found work e at = absurd (let b : ⊥ = cc in b)
result-there from n (x ∷ works) past found work e at =
    by_parts (result_at from past) (results_from (from + 1) works past) refl refl e n at (λ m later k. result-there (from + 1) m works past later work k) where
      by_parts : (o : Option WorkResult) (l : Option (List WorkResult)) → result_at from past ≡ o → results_from (from + 1) works past ≡ l → result_in_front o l ≡ Some found
          → (n : ℕ) → slice_get (x ∷ works) n ≡ Some work
          → ((m : ℕ) (later : List WorkResult) → results_from (from + 1) works past ≡ Some later → slice_get works m ≡ Some work → (r : WorkResult) × (result_at (from + 1 + m) past ≡ Some r))
          → (r : WorkResult) × (result_at (from + n) past ≡ Some r)
      by_parts None l s t k n at ih = absurd (let b : ⊥ = cc in b)
      by_parts (Some r) None s t k n at ih = absurd (let b : ⊥ = cc in b)
      by_parts (Some r) (Some later) s t k zero at ih = (r, ap (λ (i : ℕ). result_at i past) (let z : from + 0 ≡ from = omega arith in z) ∙ s)
      by_parts (Some r) (Some later) s t k (suc m) at ih =
          let y = ih m later t at in
          (y.0, ap (λ (i : ℕ). result_at i past) (let z : from + suc m ≡ from + 1 + m = omega arith in z) ∙ y.1)

-- where a reply is due, either the results of all jobs that are due are there, or none is due
reply-there : (kind : CopyKind) (past : List ServerEvent) (r : Reply) → next_reply kind past ≡ Some r
    → ((found : List WorkResult) × (results kind past ≡ Some found)) ⊎ (jobs_due kind past ≡ [])
reply-there kind past r e = by_handled (handled kind past) refl e where
  by_results : (q : Request) (o : Option (List WorkResult)) → results kind past ≡ o → answer_with q (source_in_hand past) o ≡ Some r → (found : List WorkResult) × (results kind past ≡ Some found)
  by_results q None s k = absurd (let b : ⊥ = cc in b)
  by_results q (Some found) s k = (found, s)

  by_standing : (q : Request) (t : Bool) → handled kind past ≡ Some q → (standing_status past == 0) ≡ t
      → cond t (answer_with q (source_in_hand past) (results kind past)) (Some (refusal q (standing_status past))) ≡ Some r
      → ((found : List WorkResult) × (results kind past ≡ Some found)) ⊎ (jobs_due kind past ≡ [])
  by_standing q true s t k = inl (by_results q (results kind past) refl k)
  by_standing q false s t k = inr (ap (λ (o : Option Request). jobs_if_handled kind o past) s ∙ ap (λ (b : Bool). cond b (jobs_of q past) []) t)

  by_handled : (o : Option Request) → handled kind past ≡ o → reply_if_handled kind o past ≡ Some r
      → ((found : List WorkResult) × (results kind past ≡ Some found)) ⊎ (jobs_due kind past ≡ [])
  by_handled None s k = absurd (let b : ⊥ = cc in b)
  by_handled (Some q) s k = by_standing q (standing_status past == 0) s refl k

-- the result of each job that was given before the last reply is there
pub replied-there : (kind : CopyKind) (past : List ServerEvent) (n : ℕ) → IsServer kind past → n < jobs_given past - jobs_in_hand past → (r : WorkResult) × (result_at n past ≡ Some r)
replied-there kind [] n p h = absurd (omega arith)
replied-there kind (Asked m ∷ past) n p h = replied-there kind past n p.1 h
replied-there kind (Filled bytes ∷ past) n p h = replied-there kind past n p.1 h
replied-there kind (Gave work ∷ past) n p h = replied-there kind past n p.1 (omega (arith, h))
replied-there kind (Completed c ∷ past) n p h = by_test (c.number == n) (replied-there kind past n p.1 h) where
  by_test : (t : Bool) → (r : WorkResult) × (result_at n past ≡ Some r) → (r : WorkResult) × (cond t (Some c.result) (result_at n past) ≡ Some r)
  by_test true old = (c.result, refl)
  by_test false old = old
replied-there kind (Replied q ∷ past) n p h = by_case (split (jobs_given past - jobs_in_hand past)) (λ less. replied-there kind past n p.1 less) where
  split : (k : ℕ) → (n < k) ⊎ (k ≤ n)
  split k = grind arith

  by_case : (n < jobs_given past - jobs_in_hand past) ⊎ (jobs_given past - jobs_in_hand past ≤ n)
      → (n < jobs_given past - jobs_in_hand past → (r : WorkResult) × (result_at n past ≡ Some r)) → (r : WorkResult) × (result_at n past ≡ Some r)
  by_case (inl old) ih = ih old
  by_case (inr new) ih =
      let from : ℕ = jobs_given past - jobs_in_hand past in
      let place : from + (n - from) ≡ n = omega (arith, new) in
      let given = get-here (works_given past) n (let z : n < length (works_given past) = omega (arith, h, works-count past) in z) in
      let due : slice_get (jobs_due kind past) (n - from) ≡ Some given.0 =
      given-due kind past (n - from) given.0 p.1 (ap (λ (k : ℕ). slice_get (works_given past) k) place ∙ given.1) in
      ⊎_elim
      (λ (all : (found : List WorkResult) × (results kind past ≡ Some found)).
      let x = result-there from (n - from) (jobs_due kind past) past all.0 given.0 all.1 due in
      subst (λ (k : ℕ). (r : WorkResult) × (result_at k past ≡ Some r)) place x)
      (λ (none : jobs_due kind past ≡ []). absurd (nothing-stands (jobs_due kind past) (n - from) given.0 none due))
      (reply-there kind past q p.0)
replied-there kind (Stored bytes ∷ past) n p h = replied-there kind past n p.1 h

-- where no completion of a job was handed in, it has no result
pub unhanded : (n : ℕ) (past : List ServerEvent) → ((m : ℕ) (d : Completion) → slice_get (completions_taken past) m ≡ Some d → d.number ≡ n → ⊥) → result_at n past ≡ None
unhanded n [] none = refl
unhanded n (Asked m ∷ past) none = unhanded n past none
unhanded n (Filled bytes ∷ past) none = unhanded n past none
unhanded n (Gave work ∷ past) none = unhanded n past none
unhanded n (Completed c ∷ past) none =
    by_test (c.number == n) refl (none (length (completions_taken past)) c (get-middle (completions_taken past) [] c))
    (unhanded n past (λ m d at. none m d (get_in_front (completions_taken past) (c ∷ []) m d at)))
  where
    by_test : (t : Bool) → (c.number == n) ≡ t → (c.number ≡ n → ⊥) → result_at n past ≡ None → cond t (Some c.result) (result_at n past) ≡ None
    by_test true e other ih = absurd (other (let same : c.number ≡ n = grind (arith, nat_tests) in same))
    by_test false e other ih = ih
unhanded n (Replied r ∷ past) none = unhanded n past none
unhanded n (Stored bytes ∷ past) none = unhanded n past none

-- ---- the steps

pub server-gives : ServerGives
server-gives kind workers count p pages cs ss work w h lawful e = record {
  run = h.run;
  by = h.by;
  clients = h.clients;
  servers = subst (λ (n : ℕ). AreWorkers workers workers (works_given p.server ++ work ∷ []) (completions_taken p.server) p.pool
      (slice_set ss (page_of_work work % workers) (with_job (record { number = n; work = work }) w))) (works-count p.server)
      (workers-given workers workers (works_given p.server) (completions_taken p.server) p.pool ss work w (handed-given kind p.server lawful) h.servers e);
}

-- a completion of a job that was given, and that has no result, is one that the server waits for
pub answers-due : (kind : CopyKind) (past : List ServerEvent) (j : Job) (c : Completion) (e : PageEvent) → IsServer kind past → slice_get (works_given past) c.number ≡ Some j.work → IsDone j c e
    → result_at c.number past ≡ None → AnswersJob kind past c
answers-due kind past j c e p at done none =
    let from : ℕ = jobs_given past - jobs_in_hand past in
    let few = few-in-hand past in
    let below : c.number < jobs_given past = (let z = within (works_given past) c.number j.work at in omega (arith, z, works-count past)) in
    let late : from ≤ c.number = by_case (split from) in
    let place : from + (c.number - from) ≡ c.number = omega (arith, late) in
    let due : slice_get (jobs_due kind past) (c.number - from) ≡ Some j.work =
    given-due kind past (c.number - from) j.work p (ap (λ (k : ℕ). slice_get (works_given past) k) place ∙ at) in
    record {
      place = c.number - from;
      number = sym place;
      given = omega (arith, few, below, late);
      uncompleted = none;
      work = j.work;
      work_is = due;
      fits = answers-servers j c e (due-server kind past (c.number - from) j.work due) done;
    }
  where
    split : (k : ℕ) → (c.number < k) ⊎ (k ≤ c.number)
    split k = grind arith

    never : (r : WorkResult) → ◌≡◌ {A = Option WorkResult} None (Some r) → ⊥
    never r k = cc

    by_case : (c.number < jobs_given past - jobs_in_hand past) ⊎ (jobs_given past - jobs_in_hand past ≤ c.number) → jobs_given past - jobs_in_hand past ≤ c.number
    by_case (inl old) = (let x = replied-there kind past c.number p old in absurd (never x.0 (sym none ∙ x.1)))
    by_case (inr new) = new

pub server-takes : ServerTakes
server-takes kind workers count p pages cs ss place w c rest h lawful e is =
    let x : IsNext workers place (works_given p.server) (completions_taken p.server) c =
    worker-next workers workers (works_given p.server) (completions_taken p.server) p.pool ss place w c rest h.servers e is in (
      answers-due kind p.server x.job c x.event lawful x.at x.done (unhanded c.number p.server x.fresh),
      record {
        run = h.run;
        by = h.by;
        clients = h.clients;
        servers = workers-taken workers workers (works_given p.server) (completions_taken p.server) p.pool ss place w c rest h.servers e is;
      },
    )
