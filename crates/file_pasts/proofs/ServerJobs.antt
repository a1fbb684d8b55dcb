-- A server's jobs are those of the requests of which it was asked.
use Rattle.std.proofs.Common.{◌≡◌, ◌⊎◌, inl, inr, ℕ, zero, suc, ◌+◌, ◌-◌, ◌<◌, ◌≤◌, ◌==◌, not, ◌&&◌, Bool, true, false, cond, is_none, Option, Some, None, option_map, Result, Ok, Err, List, [], ◌∷◌, ◌++◌, length, take, drop, map, refl, sym, ap, ◌∙◌, add-one, append_assoc, length-append, arith}
use Rattle.std.specs.Prelude.{slice_get}
use Rattle.std.specs.List.{flat_map}
use mathlib.Core.List.{IsPrefix}
use Rattle.std.proofs.lemmas.Bool.Decides.{nat_tests}
use Rattle.std.proofs.lemmas.Grind.{flat_map-append}
use Rattle.std.proofs.lemmas.List.{append-nil, take-append-drop}
use Rattle.buffer_descriptor.specs.declared.descriptor.Descriptor.{Descriptor}
use Rattle.file_messages.specs.declared.kind.CopyKind.{CopyKind}
use Rattle.file_messages.specs.declared.fault.FileFault.{FileFault}
use Rattle.file_messages.specs.declared.message.Request.{Request}
use Rattle.file_messages.specs.declared.message.Reply.{Reply}
use Rattle.file_messages.specs.declared.job.Job.{Job}
use Rattle.file_messages.specs.declared.job.Work.{Work}
use Rattle.file_messages.specs.declared.job.Work.TheVariants.{Fetch}
use Rattle.file_messages.specs.declared.job.Completion.{Completion}
use Rattle.file_messages.specs.declared.job.WorkResult.{WorkResult}
use Rattle.file_messages.specs.Messages.{success, refusal}
use Rattle.file_messages.specs.Runs.{bytes_read}
use Rattle.file_pasts.specs.PutDue.{numbered}
use Rattle.file_pasts.specs.ServerDue.{ServerEvent, Asked, Filled, Gave, Completed, Replied, Stored, requests, replies, judgement, with_judged, handled, first_status, standing_status, source_in_hand, source_for, wants_source, read_reply, status_of, results, results_from, result_in_front, result_at, places_of, places_in_hand, jobs_of, jobs_if_handled, jobs_due, jobs_given, jobs_in_hand, next_job, answer_with, reply_if_handled, next_reply, IsServer}
use Rattle.file_pasts.specs.ServerLaws.{messages_asked, NothingRefused, FillsFrom, AsksFor, works_given, jobs_needed, ServersFetch}
use Rattle.file_pasts.proofs.Lists.{within, take_one_more, get_of_front, get_in_front, prefix_before}
use Rattle.file_pasts.proofs.ServerReplies.{Serves, serves, due_reply, first_status-front, results-done}

-- ---- what is due

pub standing-none : (kind : CopyKind) (bytes : List ℕ) (run : List Request) (past : List ServerEvent) → Serves kind bytes run past → standing_status past ≡ 0
standing-none kind bytes run past s = ap first_status s.replied ∙ first_status-front (length (replies past)) bytes run

-- what is due for the request that is handled: its jobs, or for a READ nothing before its bytes are there
pub due_of : (kind : CopyKind) (bytes : List ℕ) (run : List Request) (past : List ServerEvent) (q : Request) → Serves kind bytes run past → handled kind past ≡ Some q
    → (jobs_due kind past ≡ jobs_needed bytes q) ⊎ ((jobs_due kind past ≡ []) × (source_in_hand past ≡ None) × ((q.op == 2) ≡ true))
due_of kind bytes run past q s h =
    by_op (q.op == 1) (q.op == 2) refl refl (source_in_hand past) refl where
      due_is : jobs_due kind past ≡ jobs_of q past
      due_is =
          ap (λ (o : Option Request). jobs_if_handled kind o past) h
          ∙ ap (λ (t : ℕ). cond (t == 0) (jobs_of q past) []) (standing-none kind bytes run past s)

      one : (a b : Request) → Some a ≡ Some b → a ≡ b
      one a b e = cc

      by_op : (a b : Bool) → (q.op == 1) ≡ a → (q.op == 2) ≡ b → (o : Option (List ℕ)) → source_in_hand past ≡ o
          → (jobs_due kind past ≡ jobs_needed bytes q) ⊎ ((jobs_due kind past ≡ []) × (source_in_hand past ≡ None) × ((q.op == 2) ≡ true))
      by_op true b p r o e = inl (due_is
          ∙ ap (λ (t : Bool). cond t (map (λ (d : Descriptor). Fetch d) q.descriptors) (cond (q.op == 2) (places_in_hand q (source_in_hand past)) [])) p
          ∙ sym (ap (λ (t : Bool). cond t (map (λ (d : Descriptor). Fetch d) q.descriptors) (cond (q.op == 2) (places_of q.descriptors (bytes_read bytes q)) [])) p))
      by_op false false p r o e = inl (due_is
          ∙ ap (λ (t : Bool). cond t (map (λ (d : Descriptor). Fetch d) q.descriptors) (cond (q.op == 2) (places_in_hand q (source_in_hand past)) [])) p
          ∙ ap (λ (t : Bool). cond t (places_in_hand q (source_in_hand past)) []) r
          ∙ sym (ap (λ (t : Bool). cond t (map (λ (d : Descriptor). Fetch d) q.descriptors) (cond (q.op == 2) (places_of q.descriptors (bytes_read bytes q)) [])) p
          ∙ ap (λ (t : Bool). cond t (places_of q.descriptors (bytes_read bytes q)) []) r))
      by_op false true p r None e = inr (
        due_is
            ∙ ap (λ (t : Bool). cond t (map (λ (d : Descriptor). Fetch d) q.descriptors) (cond (q.op == 2) (places_in_hand q (source_in_hand past)) [])) p
            ∙ ap (λ (t : Bool). cond t (places_in_hand q (source_in_hand past)) []) r
            ∙ ap (places_in_hand q) e,
        e,
        r,
      )
      by_op false true p r (Some x) e =
          let y = s.source x e in
          inl (due_is
          ∙ ap (λ (t : Bool). cond t (map (λ (d : Descriptor). Fetch d) q.descriptors) (cond (q.op == 2) (places_in_hand q (source_in_hand past)) [])) p
          ∙ ap (λ (t : Bool). cond t (places_in_hand q (source_in_hand past)) []) r
          ∙ ap (places_in_hand q) e
          ∙ ap (places_of q.descriptors) (y.2 ∙ ap (bytes_read bytes) (one y.0 q (sym y.1 ∙ h)))
          ∙ sym (ap (λ (t : Bool). cond t (map (λ (d : Descriptor). Fetch d) q.descriptors) (cond (q.op == 2) (places_of q.descriptors (bytes_read bytes q)) [])) p
          ∙ ap (λ (t : Bool). cond t (places_of q.descriptors (bytes_read bytes q)) []) r))

pub nothing_due : (kind : CopyKind) (past : List ServerEvent) → handled kind past ≡ None → jobs_due kind past ≡ []
nothing_due kind past h = ap (λ (o : Option Request). jobs_if_handled kind o past) h

-- before its bytes are there nothing is due for a READ
pub unfilled_due : (kind : CopyKind) (bytes : List ℕ) (run : List Request) (past : List ServerEvent) (most : ℕ) → Serves kind bytes run past → wants_source kind past ≡ Some most
    → jobs_due kind past ≡ []
unfilled_due kind bytes run past most s w = by_handled (handled kind past) refl w where
  no_source : (o : Option (List ℕ)) → is_none o ≡ true → o ≡ None
  no_source None e = refl
  no_source (Some x) e = absurd (let b : ⊥ = cc in b)

  by_tests : (q : Request) (a b c : Bool) → (q.op == 2) ≡ a → is_none (source_in_hand past) ≡ c → cond ((a && b) && c) (Some q.length) None ≡ Some most
      → ((q.op == 2) ≡ true) × (source_in_hand past ≡ None)
  by_tests q true true true p r h = (p, no_source (source_in_hand past) r)
  by_tests q true true false p r h = absurd (let x : ⊥ = cc in x)
  by_tests q true false c p r h = absurd (let x : ⊥ = cc in x)
  by_tests q false b c p r h = absurd (let x : ⊥ = cc in x)

  by_handled : (o : Option Request) → handled kind past ≡ o → source_for o past ≡ Some most → jobs_due kind past ≡ []
  by_handled None p h = nothing_due kind past p
  by_handled (Some q) p h =
      let t = by_tests q (q.op == 2) (standing_status past == 0) (is_none (source_in_hand past)) refl refl h in
      let not_write : (q.op == 1) ≡ false = not_one q.op t.0 in
      ap (λ (o : Option Request). jobs_if_handled kind o past) p
      ∙ ap (λ (k : ℕ). cond (k == 0) (jobs_of q past) []) (standing-none kind bytes run past s)
      ∙ ap (λ (b : Bool). cond b (map (λ (d : Descriptor). Fetch d) q.descriptors) (cond (q.op == 2) (places_in_hand q (source_in_hand past)) [])) not_write
      ∙ ap (λ (b : Bool). cond b (places_in_hand q (source_in_hand past)) []) t.0 ∙ ap (places_in_hand q) t.1
    where
      not_one : (n : ℕ) → (n == 2) ≡ true → (n == 1) ≡ false
      not_one n e = (let x : n ≡ 2 = grind (arith, nat_tests) in grind (arith, nat_tests))

-- ---- numbers

pub record Counts (kind : CopyKind) (past : List ServerEvent) : Type 0 where
  pub numbers : (n : ℕ) (r : WorkResult) → result_at n past ≡ Some r → n < jobs_given past
  pub in_hand : jobs_in_hand past ≤ length (jobs_due kind past)
  pub given : jobs_in_hand past ≤ jobs_given past

pub gave_place : (kind : CopyKind) (work : Work) (past : List ServerEvent) → next_job kind past ≡ Some (record { number = jobs_given past; work = work })
    → slice_get (jobs_due kind past) (jobs_in_hand past) ≡ Some work
gave_place kind work past e = by_slot (slice_get (jobs_due kind past) (jobs_in_hand past)) e where
  by_slot : (o : Option Work) → numbered (jobs_given past) o ≡ Some (record { number = jobs_given past; work = work }) → o ≡ Some work
  by_slot None h = absurd (let b : ⊥ = cc in b)
  by_slot (Some x) h = ap (option_map (λ (j : Job). j.work)) h

pub handled-asked : (kind : CopyKind) (m : List ℕ) (past : List ServerEvent) (q : Request) → handled kind past ≡ Some q → handled kind (Asked m ∷ past) ≡ Some q
handled-asked kind m past q h = by_judged (judgement kind (requests kind past) (replies past) m) where
  by_judged : (x : Result Request FileFault) → slice_get (with_judged x (requests kind past)).accepted (length (replies past)) ≡ Some q
  by_judged (Ok r) = get_in_front (requests kind past).accepted (r ∷ []) (length (replies past)) q h
  by_judged (Err f) = h

-- these events change nothing that is due
still_asked : (kind : CopyKind) (m : List ℕ) (o : Option Request) (past : List ServerEvent) → jobs_if_handled kind o (Asked m ∷ past) ≡ jobs_if_handled kind o past
still_asked kind m None past = refl
still_asked kind m (Some q) past = refl

still_gave : (kind : CopyKind) (work : Work) (o : Option Request) (past : List ServerEvent) → jobs_if_handled kind o (Gave work ∷ past) ≡ jobs_if_handled kind o past
still_gave kind work None past = refl
still_gave kind work (Some q) past = refl

still_completed : (kind : CopyKind) (c : Completion) (o : Option Request) (past : List ServerEvent) → jobs_if_handled kind o (Completed c ∷ past) ≡ jobs_if_handled kind o past
still_completed kind c None past = refl
still_completed kind c (Some q) past = refl

still_stored : (kind : CopyKind) (b : List ℕ) (o : Option Request) (past : List ServerEvent) → jobs_if_handled kind o (Stored b ∷ past) ≡ jobs_if_handled kind o past
still_stored kind b None past = refl
still_stored kind b (Some q) past = refl

pub due-gave : (kind : CopyKind) (work : Work) (past : List ServerEvent) → jobs_due kind (Gave work ∷ past) ≡ jobs_due kind past
due-gave kind work past = still_gave kind work (handled kind past) past

pub due-completed : (kind : CopyKind) (c : Completion) (past : List ServerEvent) → jobs_due kind (Completed c ∷ past) ≡ jobs_due kind past
due-completed kind c past = still_completed kind c (handled kind past) past

pub due-stored : (kind : CopyKind) (b : List ℕ) (past : List ServerEvent) → jobs_due kind (Stored b ∷ past) ≡ jobs_due kind past
due-stored kind b past = still_stored kind b (handled kind past) past

pub due-asked : (kind : CopyKind) (m : List ℕ) (past : List ServerEvent) (q : Request) → handled kind past ≡ Some q → jobs_due kind (Asked m ∷ past) ≡ jobs_due kind past
due-asked kind m past q h =
    still_asked kind m (handled kind (Asked m ∷ past)) past
    ∙ ap (λ (o : Option Request). jobs_if_handled kind o past) (handled-asked kind m past q h) ∙ sym (ap (λ (o : Option Request). jobs_if_handled kind o past) h)

pub counts : (kind : CopyKind) (bytes : List ℕ) (run : List Request) (past : List ServerEvent) → IsServer kind past → AsksFor run past → NothingRefused past → FillsFrom kind bytes past → Counts kind past
counts kind bytes run [] p a n f = record { numbers = λ k r e. absurd (let b : ⊥ = cc in b); in_hand = omega arith; given = omega arith }
counts kind bytes run (Asked m ∷ past) p a n f =
    let c = counts kind bytes run past p.1 (record { asked = prefix_before (messages_asked past) m _ a.asked; read = a.read }) n f in
    record { numbers = c.numbers; in_hand = by_handled (handled kind past) refl c.in_hand; given = c.given } where
      by_handled : (o : Option Request) → handled kind past ≡ o → jobs_in_hand past ≤ length (jobs_due kind past) → jobs_in_hand past ≤ length (jobs_due kind (Asked m ∷ past))
      by_handled None h few = omega (arith, few, ap length (nothing_due kind past h))
      by_handled (Some q) h few = omega (arith, few, ap length (due-asked kind m past q h))
counts kind bytes run (Filled b ∷ past) p a n f =
    let before : AsksFor run past = record { asked = a.asked; read = a.read } in
    let c = counts kind bytes run past p.1 before n f.1 in
    let few = c.in_hand in
    record {
      numbers = c.numbers;
      in_hand = omega (arith, few, ap length (unfilled_due kind bytes run past p.0.0 (serves kind bytes run past p.1 before n f.1) p.0.1));
      given = c.given;
    }
counts kind bytes run (Gave work ∷ past) p a n f =
    let c = counts kind bytes run past p.1 (record { asked = a.asked; read = a.read }) n f in
    record {
      numbers = λ k r e. (let x : k < jobs_given past = c.numbers k r e in omega arith);
      in_hand = (let x : jobs_in_hand past < length (jobs_due kind past) = within (jobs_due kind past) (jobs_in_hand past) work (gave_place kind work past p.0) in omega (arith, x, ap length (due-gave kind work past)));
      given = (let x = c.given in omega (arith, x));
    }
counts kind bytes run (Completed d ∷ past) p a n f =
    let c = counts kind bytes run past p.1 (record { asked = a.asked; read = a.read }) n.1 f in
    let some = p.0.given in let at = p.0.number in let few = c.given in
    record {
      numbers = λ k r e. by_test (d.number == k) refl k r e (c.numbers k r) (omega (arith, some, at, few));
      in_hand = (let x = c.in_hand in omega (arith, x, ap length (due-completed kind d past)));
      given = c.given;
    } where
      by_test : {k : ℕ} (t : Bool) → (d.number == k) ≡ t → (m : ℕ) (r : WorkResult) → cond t (Some d.result) (result_at k past) ≡ Some r → (result_at k past ≡ Some r → k < jobs_given past) → d.number < jobs_given past → k < jobs_given past
      by_test {k} true h m r e ih less = (let x : d.number ≡ k = grind (arith, nat_tests) in omega (arith, x, less))
      by_test {k} false h m r e ih less = ih e
counts kind bytes run (Replied r ∷ past) p a n f =
    let c = counts kind bytes run past p.1 (record { asked = a.asked; read = a.read }) n f in
    record { numbers = c.numbers; in_hand = omega arith; given = omega arith }
counts kind bytes run (Stored b ∷ past) p a n f =
    let c = counts kind bytes run past p.1 (record { asked = a.asked; read = a.read }) n f in
    record { numbers = c.numbers; in_hand = (let x = c.in_hand in omega (arith, x, ap length (due-stored kind b past))); given = c.given }

-- ---- the jobs that were given

-- where each result is there, all jobs were given
all_there : (n : ℕ) (works : List Work) (past : List ServerEvent) (found : List WorkResult) → results_from n works past ≡ Some found
    → ((k : ℕ) (r : WorkResult) → result_at k past ≡ Some r → k < jobs_given past) → n ≤ jobs_given past → n + length works ≤ jobs_given past
all_there n [] past found e less h = omega arith
all_there n (work ∷ works) past found e less h =
    by_parts (result_at n past) (results_from (n + 1) works past) refl refl e (λ later k. all_there (n + 1) works past later k less) where
      by_parts : (o : Option WorkResult) (l : Option (List WorkResult)) → result_at n past ≡ o → results_from (n + 1) works past ≡ l → result_in_front o l ≡ Some found
          → ((later : List WorkResult) → results_from (n + 1) works past ≡ Some later → n + 1 ≤ jobs_given past → n + 1 + length works ≤ jobs_given past) → n + suc (length works) ≤ jobs_given past
      by_parts None l p q k ih = absurd (let b : ⊥ = cc in b)
      by_parts (Some r) None p q k ih = absurd (let b : ⊥ = cc in b)
      by_parts (Some r) (Some later) p q k ih = (let x : n < jobs_given past = less n r p in omega (arith, ih later q (omega arith)))

-- the results that a reply stands on
pub reply_results : (kind : CopyKind) (past : List ServerEvent) (q : Request) (r : Reply) → standing_status past ≡ 0 → handled kind past ≡ Some q → next_reply kind past ≡ Some r
    → (works : List WorkResult) × (results kind past ≡ Some works) × (answer_with q (source_in_hand past) (Some works) ≡ Some r)
reply_results kind past q r standing h e =
    by_results (results kind past) refl
    (ap (λ (t : ℕ). cond (t == 0) (answer_with q (source_in_hand past) (results kind past)) (Some (refusal q t))) (sym standing)
    ∙ ap (λ (o : Option Request). reply_if_handled kind o past) (sym h) ∙ e)
  where
    by_results : (o : Option (List WorkResult)) → results kind past ≡ o → answer_with q (source_in_hand past) o ≡ Some r
        → (works : List WorkResult) × (results kind past ≡ Some works) × (answer_with q (source_in_hand past) (Some works) ≡ Some r)
    by_results None p k = absurd (let b : ⊥ = cc in b)
    by_results (Some works) p k = (works, p, k)

take_whole : {A : Type 0} (n : ℕ) (xs : List A) → length xs ≤ n → take n xs ≡ xs
take_whole zero [] h = refl
take_whole (suc n) [] h = refl
take_whole zero (x ∷ xs) h = absurd (omega arith)
take_whole (suc n) (x ∷ xs) h = ap (λ t. x ∷ t) (take_whole n xs (omega arith))

-- when a reply is given, all jobs of its request are
pub all_given : (kind : CopyKind) (bytes : List ℕ) (run : List Request) (r : Reply) (past : List ServerEvent) (q : Request) → NothingRefused past → Serves kind bytes run past → Counts kind past → handled kind past ≡ Some q
    → next_reply kind past ≡ Some r → (take (jobs_in_hand past) (jobs_due kind past) ≡ jobs_due kind past) × (jobs_due kind past ≡ jobs_needed bytes q)
all_given kind bytes run r past q n s c h e =
    let standing : standing_status past ≡ 0 = standing-none kind bytes run past s in
    let x = reply_results kind past q r standing h e in
    let few = c.given in
    let all : jobs_given past - jobs_in_hand past + length (jobs_due kind past) ≤ jobs_given past = all_there (jobs_given past - jobs_in_hand past) (jobs_due kind past) past x.0 x.1 c.numbers (omega arith) in
    (take_whole (jobs_in_hand past) (jobs_due kind past) (omega (arith, all, few)), by_due (due_of kind bytes run past q s h) x.0 x.1 x.2)
  where
    not_one : (n : ℕ) → (n == 2) ≡ true → (n == 1) ≡ false
    not_one n e = (let x : n ≡ 2 = grind (arith, nat_tests) in grind (arith, nat_tests))

    nothing : (o : Option (List ℕ)) (t : ℕ) (a b : Bool) → o ≡ None → t ≡ 0 → a ≡ false → b ≡ true
        → cond (not (t == 0)) (Some (refusal q t)) (cond a (Some (success q q.length [])) (cond b (option_map (read_reply q) o) (Some (success q 0 [])))) ≡ Some r → ⊥
    nothing o t a b u v w x k = never (sym k ∙ (rw (u, v, w, x) refl)) where
      never : Some r ≡ None → ⊥
      never h = cc

    by_due : (jobs_due kind past ≡ jobs_needed bytes q) ⊎ ((jobs_due kind past ≡ []) × (source_in_hand past ≡ None) × ((q.op == 2) ≡ true))
        → (works : List WorkResult) → results kind past ≡ Some works → answer_with q (source_in_hand past) (Some works) ≡ Some r → jobs_due kind past ≡ jobs_needed bytes q
    by_due (inl d) works w k = d
    by_due (inr d) works w k = absurd (nothing (source_in_hand past) (status_of works) (q.op == 1) (q.op == 2) d.1 (results-done _ (jobs_due kind past) past works n w) (not_one q.op d.2) d.2 k)

pub record Jobs (kind : CopyKind) (bytes : List ℕ) (run : List Request) (past : List ServerEvent) : Type 0 where
  pub works : works_given past ≡ flat_map (jobs_needed bytes) (take (length (replies past)) run) ++ take (jobs_in_hand past) (jobs_due kind past)

none_taken : (n : ℕ) (works : List Work) → n ≡ 0 → take n works ≡ []
none_taken n works e = ap (λ (k : ℕ). take k works) e

pub jobs : (kind : CopyKind) (bytes : List ℕ) (run : List Request) (past : List ServerEvent) → IsServer kind past → AsksFor run past → NothingRefused past → FillsFrom kind bytes past → Jobs kind bytes run past
jobs kind bytes run [] p a n f = record { works = refl }
jobs kind bytes run (Asked m ∷ past) p a n f =
    let before : AsksFor run past = record { asked = prefix_before (messages_asked past) m _ a.asked; read = a.read } in
    let c = counts kind bytes run past p.1 before n f in
    let j = jobs kind bytes run past p.1 before n f in
    record { works = j.works ∙ ap (λ (t : List Work). flat_map (jobs_needed bytes) (take (length (replies past)) run) ++ t) (by_handled (handled kind past) refl c.in_hand) } where
      by_handled : (o : Option Request) → handled kind past ≡ o → jobs_in_hand past ≤ length (jobs_due kind past) → take (jobs_in_hand past) (jobs_due kind past) ≡ take (jobs_in_hand past) (jobs_due kind (Asked m ∷ past))
      by_handled None h few =
          let zero_is : jobs_in_hand past ≡ 0 = omega (arith, few, ap length (nothing_due kind past h)) in
          none_taken (jobs_in_hand past) (jobs_due kind past) zero_is ∙ sym (none_taken (jobs_in_hand past) (jobs_due kind (Asked m ∷ past)) zero_is)
      by_handled (Some q) h few = ap (take (jobs_in_hand past)) (sym (due-asked kind m past q h))
jobs kind bytes run (Filled b ∷ past) p a n f =
    let before : AsksFor run past = record { asked = a.asked; read = a.read } in
    let c = counts kind bytes run past p.1 before n f.1 in
    let few = c.in_hand in
    let zero_is : jobs_in_hand past ≡ 0 = omega (arith, few, ap length (unfilled_due kind bytes run past p.0.0 (serves kind bytes run past p.1 before n f.1) p.0.1)) in
    let j = jobs kind bytes run past p.1 before n f.1 in
    record {
      works = j.works ∙ ap (λ (t : List Work). flat_map (jobs_needed bytes) (take (length (replies past)) run) ++ t)
          (none_taken (jobs_in_hand past) (jobs_due kind past) zero_is ∙ sym (none_taken (jobs_in_hand past) (jobs_due kind (Filled b ∷ past)) zero_is));
    }
jobs kind bytes run (Gave work ∷ past) p a n f =
    let j = jobs kind bytes run past p.1 (record { asked = a.asked; read = a.read }) n f in
    let front : List Work = flat_map (jobs_needed bytes) (take (length (replies past)) run) in
    record {
      works = ap (λ (t : List Work). t ++ work ∷ []) j.works
          ∙ append_assoc front (take (jobs_in_hand past) (jobs_due kind past)) (work ∷ [])
          ∙ ap (λ (t : List Work). front ++ t) (sym (take_one_more (jobs_in_hand past) (jobs_due kind past) work (gave_place kind work past p.0))
          ∙ ap (λ (k : ℕ). take k (jobs_due kind past)) (sym (add-one (jobs_in_hand past)))
          ∙ ap (take (jobs_in_hand past + 1)) (sym (due-gave kind work past)));
    }
jobs kind bytes run (Completed c ∷ past) p a n f =
    let j = jobs kind bytes run past p.1 (record { asked = a.asked; read = a.read }) n.1 f in
    record { works = j.works ∙ ap (λ (t : List Work). flat_map (jobs_needed bytes) (take (length (replies past)) run) ++ take (jobs_in_hand past) t) (sym (due-completed kind c past)) }
jobs kind bytes run (Replied r ∷ past) p a n f =
    let before : AsksFor run past = record { asked = a.asked; read = a.read } in
    let s = serves kind bytes run past p.1 before n f in
    let c = counts kind bytes run past p.1 before n f in
    let j = jobs kind bytes run past p.1 before n f in
    let d = due_reply kind bytes run past r s n p.0 in
    let g = all_given kind bytes run r past d.0 n s c d.1 p.0 in
    let k : ℕ = length (replies past) in
    let more : length (replies past ++ r ∷ []) ≡ suc k = length-append (replies past) (r ∷ []) ∙ add-one k in
    let at : slice_get run k ≡ Some d.0 = get_of_front (length (requests kind past).accepted) run k d.0 (ap (λ (t : List Request). slice_get t k) (sym s.accepted) ∙ d.1) in
    let next : flat_map (jobs_needed bytes) (take (length (replies past ++ r ∷ [])) run) ≡ flat_map (jobs_needed bytes) (take k run) ++ jobs_needed bytes d.0 =
    ap (λ (i : ℕ). flat_map (jobs_needed bytes) (take i run)) more
    ∙ ap (flat_map (jobs_needed bytes)) (take_one_more k run d.0 at)
    ∙ flat_map-append (jobs_needed bytes) (take k run) (d.0 ∷ [])
    ∙ ap (λ (t : List Work). flat_map (jobs_needed bytes) (take k run) ++ t) (append-nil (jobs_needed bytes d.0)) in
    record {
      works = j.works ∙ ap (λ (t : List Work). flat_map (jobs_needed bytes) (take k run) ++ t) (g.0 ∙ g.1) ∙ sym next
          ∙ sym (append-nil (flat_map (jobs_needed bytes) (take (length (replies past ++ r ∷ [])) run)));
    }
jobs kind bytes run (Stored b ∷ past) p a n f =
    let j = jobs kind bytes run past p.1 (record { asked = a.asked; read = a.read }) n f in
    record { works = j.works ∙ ap (λ (t : List Work). flat_map (jobs_needed bytes) (take (length (replies past)) run) ++ take (jobs_in_hand past) t) (sym (due-stored kind b past)) }

-- what stands before a place, at it, and after it
pub split_at : {A B : Type 0} (f : A → List B) (n : ℕ) (xs : List A) (x : A) → slice_get xs n ≡ Some x
    → flat_map f xs ≡ flat_map f (take n xs) ++ (f x ++ flat_map f (drop (suc n) xs))
split_at f n [] x e = absurd (let b : ⊥ = cc in b)
split_at f zero (y ∷ ys) x e = ap (λ t. f t ++ flat_map f ys) (same y x e) where
  same : {A : Type 0} (a b : A) → Some a ≡ Some b → a ≡ b
  same a b h = cc
split_at f (suc n) (y ∷ ys) x e = ap (λ t. f y ++ t) (split_at f n ys x e) ∙ sym (append_assoc (f y) (flat_map f (take n ys)) (f x ++ flat_map f (drop (suc n) ys)))

pub servers_fetch : ServersFetch
servers_fetch kind bytes run past p a n f =
    let s = serves kind bytes run past p a n f in
    let j = jobs kind bytes run past p a n f in
    let k : ℕ = length (replies past) in
    let front : List Work = flat_map (jobs_needed bytes) (take k run) in
    record {
      given = by_handled (handled kind past) refl s j;
      replied = (take (jobs_in_hand past) (jobs_due kind past), sym j.works);
    }
  where
    whole : {A B : Type 0} (g : A → List B) (n : ℕ) (xs : List A) → flat_map g xs ≡ flat_map g (take n xs) ++ flat_map g (drop n xs)
    whole g n xs = ap (flat_map g) (sym (take-append-drop n xs)) ∙ flat_map-append g (take n xs) (drop n xs)

    nothing_taken : (n : ℕ) (works : List Work) → works ≡ [] → take n works ≡ []
    nothing_taken zero works e = refl
    nothing_taken (suc n) [] e = refl
    nothing_taken (suc n) (x ∷ xs) e = absurd (let b : ⊥ = cc in b)

    by_nothing : take (jobs_in_hand past) (jobs_due kind past) ≡ [] → Jobs kind bytes run past → IsPrefix (works_given past) (flat_map (jobs_needed bytes) run)
    by_nothing none j = (
      flat_map (jobs_needed bytes) (drop (length (replies past)) run),
      ap (λ (t : List Work). t ++ flat_map (jobs_needed bytes) (drop (length (replies past)) run)) (j.works ∙ ap (λ (t : List Work). flat_map (jobs_needed bytes) (take (length (replies past)) run) ++ t) none ∙ append-nil (flat_map (jobs_needed bytes) (take (length (replies past)) run)))
          ∙ sym (whole (jobs_needed bytes) (length (replies past)) run),
    )

    by_due : (q : Request) → slice_get run (length (replies past)) ≡ Some q → (jobs_due kind past ≡ jobs_needed bytes q) → Jobs kind bytes run past → IsPrefix (works_given past) (flat_map (jobs_needed bytes) run)
    by_due q at due j =
        let k : ℕ = length (replies past) in
        let i : ℕ = jobs_in_hand past in
        let front : List Work = flat_map (jobs_needed bytes) (take k run) in
        let later : List Work = flat_map (jobs_needed bytes) (drop (suc k) run) in (
          drop i (jobs_needed bytes q) ++ later,
          ap (λ (t : List Work). t ++ (drop i (jobs_needed bytes q) ++ later)) (j.works ∙ ap (λ (t : List Work). front ++ take i t) due)
              ∙ append_assoc front (take i (jobs_needed bytes q)) (drop i (jobs_needed bytes q) ++ later)
              ∙ ap (λ (t : List Work). front ++ t) (sym (append_assoc (take i (jobs_needed bytes q)) (drop i (jobs_needed bytes q)) later) ∙ ap (λ (t : List Work). t ++ later) (take-append-drop i (jobs_needed bytes q)))
              ∙ sym (split_at (jobs_needed bytes) k run q at),
        )

    by_handled : (o : Option Request) → handled kind past ≡ o → Serves kind bytes run past → Jobs kind bytes run past → IsPrefix (works_given past) (flat_map (jobs_needed bytes) run)
    by_handled None h s j = by_nothing (nothing_taken (jobs_in_hand past) (jobs_due kind past) (nothing_due kind past h)) j
    by_handled (Some q) h s j = by_cases (due_of kind bytes run past q s h) where
      at : slice_get run (length (replies past)) ≡ Some q
      at = get_of_front (length (requests kind past).accepted) run (length (replies past)) q (ap (λ (t : List Request). slice_get t (length (replies past))) (sym s.accepted) ∙ h)

      by_cases : (jobs_due kind past ≡ jobs_needed bytes q) ⊎ ((jobs_due kind past ≡ []) × (source_in_hand past ≡ None) × ((q.op == 2) ≡ true)) → IsPrefix (works_given past) (flat_map (jobs_needed bytes) run)
      by_cases (inl d) = by_due q at d j
      by_cases (inr d) = by_nothing (nothing_taken (jobs_in_hand past) (jobs_due kind past) d.0) j
