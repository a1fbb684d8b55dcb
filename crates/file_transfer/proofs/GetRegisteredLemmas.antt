-- A get over registered pages, after each event.
use Rattle.std.proofs.Common.{◌≡◌, ◌⊎◌, inl, inr, ℕ, zero, suc, ◌+◌, ◌-◌, ◌*◌, ◌<◌, ◌≤◌, ◌==◌, nat_lt, nat_le, not, ◌&&◌, ◌||◌, Bool, true, false, cond, Option, Some, None, List, [], ◌∷◌, ◌++◌, length, take, drop, map, refl, sym, ap, ◌∙◌, subst, length-append, arith}
use Rattle.std.specs.Prelude.{slice_get}
use Rattle.std.specs.List.{flat_map}
use Rattle.std.proofs.lemmas.Bool.Decides.{nat_tests}
use Rattle.std.proofs.lemmas.List.{append-nil, drop-append-le}
use Rattle.buffer_descriptor.specs.declared.descriptor.Descriptor.{Descriptor}
use Rattle.file_messages.specs.declared.kind.Channel.TheVariants as channels
use Rattle.file_messages.specs.declared.fault.ReplyFault.{ReplyFault}
use Rattle.file_messages.specs.declared.message.Request.{Request}
use Rattle.file_messages.specs.declared.job.Job.{Job}
use Rattle.file_messages.specs.declared.job.Work.{Work}
use Rattle.file_messages.specs.declared.job.Completion.{Completion}
use Rattle.file_pasts.specs.ClientPast.{ClientEvent, Sent, Replied, Gave, Completed, requests_sent, reply_fault, answers, are_answered, descriptors_on, AnswersJob}
use Rattle.file_pasts.specs.PutDue.{if_taken, unloads_of, unloads_of_first}
use Rattle.file_pasts.specs.GetDue.{sent, counts_taken, last_count, goes_on, has_ended, jobs_completed, page_loads, begins_round, jobs_due, is_between_rounds, some_bytes, unloaded_by, pages_back, groups_came, groups_received, IsGet}
use Rattle.file_transfer.specs.declared.get_requests.GetRequests.{GetRequests}
use Rattle.file_transfer.specs.declared.get_groups.GetGroups.{GetGroups}
use Rattle.file_transfer.specs.declared.get_registered.GetRounds.{GetRounds}
use Rattle.file_transfer.specs.ClientJobs.{JobsStand, after_giving}
use Rattle.file_transfer.specs.ClientStands.{first_named}
use Rattle.file_transfer.specs.GetStands.{GetStands, awaits, may_ask}
use Rattle.file_transfer.specs.GetPagesStand.{RoundsStand, loaded_in, back_in, same_bytes, unused_pages, loads_at, pages_from, first_unload}
use Rattle.file_transfer.specs.GetRegisteredStands.{RegisteredGetStands, are_back, loads_after}
use Rattle.file_transfer.proofs.GetRounds.{Stage, Round, at-most, length-due, given-within, length-loads, length-unloads, rounds_of}
use Rattle.file_transfer.proofs.GetPagesLemmas.{no-loads, none-back, flat-back, under_way}
use Rattle.file_transfer.proofs.GetRequestsLemmas.{may_parts}

-- ---- the first round

pub rounds-open : (n : GetRounds) → JobsStand (page_loads 16 0) [] n.jobs → n.jobs.kept ≡ 0 → n.slots.items ≡ unused_pages 16 → n.completed ≡ 0 → RoundsStand [] n
rounds-open n jobs kept slots completed = record {
  jobs = jobs;
  kept = ap (λ (k : ℕ). k + length (page_loads 16 0)) kept;
  loaded = ap (map loaded_in) slots;
  back = λ h. absurd (never h);
  next_loads = λ h. absurd (never h);
  completed = completed;
} where
  never : awaits channels.V1 [] ≡ true → ⊥
  never h = cc

-- ---- a job is given

pub rounds-gave : (past : List ClientEvent) (m n : GetRounds) (o : Option Job) → RoundsStand past m → JobsStand (jobs_due past) (after_giving o past) n.jobs → n.jobs.kept ≡ m.jobs.kept
    → n.slots.items ≡ m.slots.items → n.next_loads.items ≡ m.next_loads.items → n.completed ≡ m.completed → RoundsStand (after_giving o past) n
rounds-gave past m n None s jobs kept slots loads completed = record {
  jobs = jobs;
  kept = ap (λ (k : ℕ). k + length (jobs_due past)) kept ∙ s.kept;
  loaded = ap (map loaded_in) slots ∙ s.loaded;
  back = λ h. ap (map back_in) slots ∙ s.back h;
  next_loads = λ h. loads ∙ s.next_loads h;
  completed = completed ∙ s.completed;
}
rounds-gave past m n (Some job) s jobs kept slots loads completed = record {
  jobs = jobs;
  kept = ap (λ (k : ℕ). k + length (jobs_due past)) kept ∙ s.kept;
  loaded = ap (map loaded_in) slots ∙ s.loaded ∙ same_loads 16 0;
  back = λ h. ap (map back_in) slots ∙ s.back h ∙ same_pages 16 (first_unload past);
  next_loads = λ h. loads ∙ s.next_loads h;
  completed = completed ∙ s.completed;
} where
  same_loads : (k i : ℕ) → loads_at k i (sent past) past ≡ loads_at k i (sent past) (Gave job.work ∷ past)
  same_loads zero i = refl
  same_loads (suc k) i = ap (λ t. slice_get (descriptors_on i past) (sent past) ∷ t) (same_loads k (i + 1))

  same_pages : (k i : ℕ) → pages_from k i past ≡ pages_from k i (Gave job.work ∷ past)
  same_pages zero i = refl
  same_pages (suc k) i = ap (λ t. unloaded_by i past ∷ t) (same_pages k (i + 1))

pub few-given : (past : List ClientEvent) (m : GetRounds) → IsGet channels.V1 past → RoundsStand past m → m.jobs.given ≤ 32 * sent past + 16
unfolding Stage
few-given past m p s = by_stage (rounds_of past p) (rounds_of past p).stage where
  by_stage : (r : Round past) → Stage past r.base r.rounds r.last → m.jobs.given ≤ 32 * sent past + 16
  by_stage r (inl t) = omega (arith, s.jobs.given, given-within past r, length-due past r, t.at, ap length t.works, length-loads 16 0)
  by_stage r (inr (inl t)) = omega (arith, s.jobs.given, given-within past r, length-due past r, t.at, ap length t.works)
  by_stage r (inr (inr (inl t))) = omega (arith, s.jobs.given, given-within past r, length-due past r, t.at, ap length t.works, length-unloads t.named, t.pages)
  by_stage r (inr (inr (inr t))) = omega (arith, s.jobs.given, given-within past r, length-due past r, t.at, ap length t.works)

pub few-completed : (past : List ClientEvent) (c : Completion) (m : GetRounds) → IsGet channels.V1 past → RoundsStand past m → AnswersJob past c → m.completed < 32 * sent past + 16
unfolding Stage
few-completed past c m p s a = by_stage (rounds_of past p) (rounds_of past p).stage where
  by_stage : (r : Round past) → Stage past r.base r.rounds r.last → m.completed < 32 * sent past + 16
  by_stage r (inl t) = omega (arith, s.completed, (under_way past r c.number a.work a.is_open).less, length-due past r, t.at, ap length t.works, length-loads 16 0)
  by_stage r (inr (inl t)) = omega (arith, s.completed, (under_way past r c.number a.work a.is_open).less, length-due past r, t.at, ap length t.works)
  by_stage r (inr (inr (inl t))) =
      omega (arith, s.completed, (under_way past r c.number a.work a.is_open).less, length-due past r, t.at, ap length t.works, length-unloads t.named, t.pages)
  by_stage r (inr (inr (inr t))) = omega (arith, s.completed, (under_way past r c.number a.work a.is_open).less, length-due past r, t.at, ap length t.works)

-- ---- a reply is handed in

first-unloads : (rs : List Request) → unloads_of_first rs ≡ unloads_of (first_named rs)
first-unloads [] = refl
first-unloads (r ∷ rs) = refl

-- room is kept for an Unload of each page that was named
pub kept-first : (past : List ClientEvent) (m : GetRounds) → IsGet channels.V1 past → RoundsStand past m → length (first_named (answers past).unanswered) ≤ m.jobs.kept
unfolding Stage
kept-first past m p s = by_stage (rounds_of past p) (rounds_of past p).stage where
  by_stage : (r : Round past) → Stage past r.base r.rounds r.last → length (first_named (answers past).unanswered) ≤ m.jobs.kept
  by_stage r (inl t) = omega (arith, ap (λ (rs : List Request). length (first_named rs)) t.answered)
  by_stage r (inr (inl t)) =
      omega (arith, s.kept, length-due past r, ap length t.works, r.done, ap (λ (rs : List Request). length (first_named rs)) t.waits, t.pages)
  by_stage r (inr (inr (inl t))) = omega (arith, ap (λ (rs : List Request). length (first_named rs)) t.answered)
  by_stage r (inr (inr (inr t))) = by_waits t.waits where
    by_waits : ((answers past).unanswered ≡ []) ⊎ ((x : Request) × ((answers past).unanswered ≡ x ∷ []) × (x.descriptors ≡ [])) → length (first_named (answers past).unanswered) ≤ m.jobs.kept
    by_waits (inl x) = omega (arith, ap (λ (rs : List Request). length (first_named rs)) x)
    by_waits (inr x) = omega (arith, ap (λ (rs : List Request). length (first_named rs)) x.1, ap length x.2)

-- nothing changes but the jobs
moved : (past : List ClientEvent) (message : List ℕ) (m n : GetRounds) → RoundsStand past m → JobsStand (jobs_due (Replied message ∷ past)) (Replied message ∷ past) n.jobs
    → n.jobs.kept + length (jobs_due (Replied message ∷ past)) ≡ 16 + jobs_completed past → n.slots.items ≡ m.slots.items → n.next_loads.items ≡ m.next_loads.items → n.completed ≡ m.completed
    → RoundsStand (Replied message ∷ past) n
moved past message m n s jobs kept slots loads completed = record {
  jobs = jobs;
  kept = kept;
  loaded = ap (map loaded_in) slots ∙ s.loaded ∙ same_loads 16 0;
  back = λ h. ap (map back_in) slots ∙ s.back h ∙ same_pages 16 (first_unload past);
  next_loads = λ h. loads ∙ s.next_loads h;
  completed = completed ∙ s.completed;
} where
  same_loads : (k i : ℕ) → loads_at k i (sent past) past ≡ loads_at k i (sent past) (Replied message ∷ past)
  same_loads zero i = refl
  same_loads (suc k) i = ap (λ t. slice_get (descriptors_on i past) (sent past) ∷ t) (same_loads k (i + 1))

  same_pages : (k i : ℕ) → pages_from k i past ≡ pages_from k i (Replied message ∷ past)
  same_pages zero i = refl
  same_pages (suc k) i = ap (λ t. unloaded_by i past ∷ t) (same_pages k (i + 1))

pub rounds-replied : (past : List ClientEvent) (message : List ℕ) (m n : GetRounds) → RoundsStand past m → reply_fault (answers past) message ≡ None
    → JobsStand (jobs_due past ++ unloads_of (first_named (answers past).unanswered)) past n.jobs → n.jobs.kept + length (first_named (answers past).unanswered) ≡ m.jobs.kept
    → n.slots.items ≡ m.slots.items → n.next_loads.items ≡ m.next_loads.items → n.completed ≡ m.completed → RoundsStand (Replied message ∷ past) n
rounds-replied past message m n s fine jobs kept slots loads completed =
    let named : List Descriptor = first_named (answers past).unanswered in
    let due : jobs_due past ++ unloads_of named ≡ jobs_due (Replied message ∷ past) =
    ap (λ (ws : List Work). jobs_due past ++ ws) (sym (first-unloads (answers past).unanswered))
    ∙ ap (λ (o : Option ReplyFault). jobs_due past ++ if_taken o (unloads_of_first (answers past).unanswered)) (sym fine) in
    let j = subst (λ (ws : List Work). JobsStand ws past n.jobs) due jobs in
    moved past message m n s (record { due = j.due; in_turn = j.in_turn; given = j.given; outstanding = j.outstanding })
    (omega (arith, ap length due, length-append (jobs_due past) (unloads_of named), length-unloads named, kept, s.kept)) slots loads completed

pub rounds-refused : (past : List ClientEvent) (message : List ℕ) (fault : ReplyFault) (m : GetRounds) → RoundsStand past m → reply_fault (answers past) message ≡ Some fault → RoundsStand (Replied message ∷ past) m
rounds-refused past message fault m s e =
    let due : jobs_due past ≡ jobs_due (Replied message ∷ past) =
    sym (append-nil (jobs_due past)) ∙ ap (λ (o : Option ReplyFault). jobs_due past ++ if_taken o (unloads_of_first (answers past).unanswered)) (sym e) in
    let j = subst (λ (ws : List Work). JobsStand ws past m.jobs) due s.jobs in
    moved past message m m s (record { due = j.due; in_turn = j.in_turn; given = j.given; outstanding = j.outstanding }) (omega (arith, ap length due, s.kept)) refl refl refl

-- ---- a request is given

both : {b : Bool} → b ≡ true → b ≡ false → ⊥
both x y = cc

one_more : (xs : List Request) (x : Request) → xs ++ x ∷ [] ≡ [] → ⊥
one_more [] x e = cc
one_more (y ∷ ys) x e = cc

jobs-sent : (past : List ClientEvent) (q : Request) (m n : GetRounds) → RoundsStand past m → n.jobs ≡ m.jobs → JobsStand (jobs_due past) (Sent q ∷ past) n.jobs
jobs-sent past q m n s e =
    subst (λ j. JobsStand (jobs_due past) (Sent q ∷ past) j) (sym e) (let j = s.jobs in record { due = j.due; in_turn = j.in_turn; given = j.given; outstanding = j.outstanding })

-- a READ: its round's pages are as if unused
pub rounds-read : (past : List ClientEvent) (q : Request) (m n : GetRounds) → RoundsStand past m → IsGet channels.V1 (Sent q ∷ past) → has_ended (requests_sent past ++ q ∷ []) ≡ false
    → n.jobs ≡ m.jobs → n.slots.items ≡ unused_pages 16 → n.next_loads.items ≡ page_loads 16 0 → n.completed ≡ m.completed → RoundsStand (Sent q ∷ past) n
unfolding Stage
rounds-read past q m n s p unended jobs slots loads completed = by_stage (rounds_of (Sent q ∷ past) p) (rounds_of (Sent q ∷ past) p).stage where
  by_stage : (r : Round (Sent q ∷ past)) → Stage (Sent q ∷ past) r.base r.rounds r.last → RoundsStand (Sent q ∷ past) n
  by_stage r (inl t) = absurd (one_more (answers past).unanswered q t.answered)
  by_stage r (inr (inr (inl t))) = absurd (one_more (answers past).unanswered q t.answered)
  by_stage r (inr (inr (inr t))) = absurd (both t.ended unended)
  by_stage r (inr (inl t)) = record {
    jobs = jobs-sent past q m n s jobs;
    kept = ap (λ j. j.kept + length (jobs_due past)) jobs ∙ s.kept;
    loaded = ap (map loaded_in) slots
        ∙ no-loads 16 0 (sent (Sent q ∷ past)) (Sent q ∷ past) (λ page lo hi. omega (arith, at-most (Sent q ∷ past) r page (omega (arith, hi)), t.round));
    back = λ h. ap (map back_in) slots
        ∙ none-back 16 (first_unload (Sent q ∷ past)) (Sent q ∷ past) p (omega (arith, given-within (Sent q ∷ past) r, length-due (Sent q ∷ past) r, ap length t.works, t.at));
    next_loads = λ h. loads;
    completed = completed ∙ s.completed;
  }

pub rounds-end : (past : List ClientEvent) (q : Request) (m : GetRounds) → RoundsStand past m → IsGet channels.V1 (Sent q ∷ past) → has_ended (requests_sent past ++ q ∷ []) ≡ true
    → RoundsStand (Sent q ∷ past) m
unfolding Stage
rounds-end past q m s p ended = by_stage (rounds_of (Sent q ∷ past) p) (rounds_of (Sent q ∷ past) p).stage where
  unawaited : awaits channels.V1 (Sent q ∷ past) ≡ true → ⊥
  unawaited h = both h (ap (λ (t : Bool). not t && nat_lt (jobs_completed past) (32 * sent (Sent q ∷ past))) ended)

  by_stage : (r : Round (Sent q ∷ past)) → Stage (Sent q ∷ past) r.base r.rounds r.last → RoundsStand (Sent q ∷ past) m
  by_stage r (inl t) = absurd (both ended t.unended)
  by_stage r (inr (inl t)) = absurd (both ended t.unended)
  by_stage r (inr (inr (inl t))) = absurd (both ended t.unended)
  by_stage r (inr (inr (inr t))) =
      let few : (page : ℕ) → page < 16 → length (descriptors_on page past) ≤ sent past =
      (λ page h. omega (arith, at-most (Sent q ∷ past) r page h, t.round, length-append (requests_sent past) (q ∷ []))) in
      record {
        jobs = jobs-sent past q m m s refl;
        kept = s.kept;
        loaded = s.loaded ∙ sym (no-loads 16 0 (sent past) past (λ page lo hi. few page (omega (arith, hi))))
            ∙ no-loads 16 0 (sent (Sent q ∷ past)) (Sent q ∷ past) (λ page lo hi. omega (arith, few page (omega (arith, hi)), length-append (requests_sent past) (q ∷ [])));
        back = λ h. absurd (unawaited h);
        next_loads = λ h. absurd (unawaited h);
        completed = s.completed;
      }

-- whether the last round is over
pub between-is : (past : List ClientEvent) (completed sent_so_far : ℕ) → completed ≡ jobs_completed past → sent_so_far ≡ sent past → may_ask past ≡ true
    → is_between_rounds channels.V1 past ≡ are_back completed sent_so_far
between-is past completed sent_so_far c n h =
    ap (λ (t : Bool). t && (sent past == 0 || nat_le (32 * sent past) (jobs_completed past))) (may_parts past h).1
    ∙ ap (λ (k : ℕ). k == 0 || nat_le (32 * k) (jobs_completed past)) (sym n) ∙ ap (λ (k : ℕ). sent_so_far == 0 || nat_le (32 * sent_so_far) k) (sym c)

-- nothing is awaited between rounds
pub unawaited_back : (past : List ClientEvent) → is_between_rounds channels.V1 past ≡ true → awaits channels.V1 past ≡ false
unawaited_back past h = by_tests (are_answered past) (sent past == 0) (nat_le (32 * sent past) (jobs_completed past)) refl refl h where
  none : nat_lt (jobs_completed past) (32 * sent past) ≡ false → awaits channels.V1 past ≡ false
  none e = ap (λ (t : Bool). not (has_ended (requests_sent past)) && t) e ∙ and_false (not (has_ended (requests_sent past))) where
    and_false : (t : Bool) → (t && false) ≡ false
    and_false true = refl
    and_false false = refl

  by_tests : (a b c : Bool) → (sent past == 0) ≡ b → nat_le (32 * sent past) (jobs_completed past) ≡ c → (a && (b || c)) ≡ true → awaits channels.V1 past ≡ false
  by_tests false b c p q k = absurd (let x : ⊥ = cc in x)
  by_tests true true c p q k = none (let zero : sent past ≡ 0 = grind (arith, nat_tests) in let few : 32 * sent past ≤ jobs_completed past = omega (arith, zero) in grind (arith, nat_tests))
  by_tests true false true p q k = none (let few : 32 * sent past ≤ jobs_completed past = grind (arith, nat_tests) in grind (arith, nat_tests))
  by_tests true false false p q k = absurd (let x : ⊥ = cc in x)

-- ---- a job is completed

-- the job of a completion is no longer outstanding, and what came of it is noted
pub record RoundCloses (past : List ClientEvent) (c : Completion) (q : GetRequests) (g : GetGroups) (m n : GetRounds) : Type 0 where
  pub stands : RegisteredGetStands past q g m
  pub answers_it : AnswersJob past c
  pub jobs : JobsStand (jobs_due past) (Completed c ∷ past) n.jobs
  pub kept : n.jobs.kept ≡ m.jobs.kept + 1
  pub loaded : map loaded_in n.slots.items ≡ loads_at 16 0 (sent past) (Completed c ∷ past)
  pub back : awaits channels.V1 past ≡ true → map back_in n.slots.items ≡ pages_from 16 (first_unload past) (Completed c ∷ past)
  pub next_loads : n.next_loads.items ≡ m.next_loads.items
  pub completed : n.completed ≡ m.completed + 1

requests-completed : (past : List ClientEvent) (c : Completion) (q : GetRequests) → GetStands channels.V1 past q → AnswersJob past c → GetStands channels.V1 (Completed c ∷ past) q
requests-completed past c q s a = record {
  lawful = (a, s.lawful);
  asked = let k = s.asked in record { unanswered = k.unanswered; sent = k.sent; fault = k.fault };
  offset = s.offset;
  last = s.last;
  end_sent = s.end_sent;
}

awaits-before : (past : List ClientEvent) (c : Completion) → awaits channels.V1 (Completed c ∷ past) ≡ true → awaits channels.V1 past ≡ true
awaits-before past c h = by_tests (has_ended (requests_sent past)) (nat_lt (jobs_completed past + 1) (32 * sent past)) refl h where
  by_tests : (a b : Bool) → nat_lt (jobs_completed past + 1) (32 * sent past) ≡ b → (not a && b) ≡ true → (not a && nat_lt (jobs_completed past) (32 * sent past)) ≡ true
  by_tests true b e k = absurd (let x : ⊥ = cc in x)
  by_tests false false e k = absurd (let x : ⊥ = cc in x)
  by_tests false true e k = let less : jobs_completed past + 1 < 32 * sent past = grind (arith, nat_tests) in grind (arith, nat_tests)

equal_no : (a b : ℕ) → (a ≡ b → ⊥) → (a == b) ≡ false
equal_no a b h = by_test (a == b) refl where
  by_test : (t : Bool) → (a == b) ≡ t → (a == b) ≡ false
  by_test false e = e
  by_test true e = absurd (h (grind (arith, nat_tests)))

equal_yes : (a b : ℕ) → a ≡ b → (a == b) ≡ true
equal_yes a b h = grind (arith, nat_tests)

-- the round goes on
pub round-goes : (past : List ClientEvent) (c : Completion) (q : GetRequests) (g : GetGroups) (m n : GetRounds) → RoundCloses past c q g m n → (n.completed ≡ 32 * q.asked.sent → ⊥)
    → RegisteredGetStands (Completed c ∷ past) q g n
round-goes past c q g m n k apart =
    let s = k.stands in
    let not_last : (jobs_completed past + 1 == 32 * sent past) ≡ false =
    equal_no (jobs_completed past + 1) (32 * sent past) (λ e. apart (omega (arith, e, k.completed, s.rounds.completed, s.requests.asked.sent))) in
    let begins : begins_round past ≡ false = ap (λ (t : Bool). t && goes_on past) not_last in
    let due : jobs_due (Completed c ∷ past) ≡ jobs_due past = ap (λ (t : Bool). jobs_due past ++ cond t (page_loads 16 0) []) begins ∙ append-nil (jobs_due past) in
    let came : groups_came channels.V1 (Completed c ∷ past) ≡ groups_came channels.V1 past =
    ap (λ (t : Bool). groups_came channels.V1 past ++ cond t (some_bytes (take (last_count (counts_taken past)) (pages_back 16 (jobs_completed past + 1 - 16) (Completed c ∷ past)))) []) not_last
    ∙ append-nil (groups_came channels.V1 past) in
    record {
      requests = requests-completed past c q s.requests k.answers_it;
      groups = record {
        came = s.groups.came ∙ ap (drop (groups_received past)) (sym came);
        in_turn = subst (λ (gs : List (List ℕ)). groups_received past ≤ length gs) (sym came) s.groups.in_turn;
        room = λ h. s.groups.room (awaits-before past c h);
      };
      rounds = record {
        jobs = subst (λ (ws : List Work). JobsStand ws (Completed c ∷ past) n.jobs) (sym due) k.jobs;
        kept = omega (arith, ap length due, k.kept, s.rounds.kept);
        loaded = k.loaded;
        back = λ h. k.back (awaits-before past c h);
        next_loads = λ h. k.next_loads ∙ s.rounds.next_loads (awaits-before past c h);
        completed = omega (arith, k.completed, s.rounds.completed);
      };
    }

-- the last page of a round is back
pub record IsLastOfRound (past : List ClientEvent) (m : GetRounds) : Type 0 where
  pub awaited : awaits channels.V1 past ≡ true
  pub kept : m.jobs.kept + 1 ≡ 16

pub last-of-round : (past : List ClientEvent) (c : Completion) (m : GetRounds) → IsGet channels.V1 past → RoundsStand past m → AnswersJob past c → m.completed + 1 ≡ 32 * sent past → IsLastOfRound past m
unfolding Stage
last-of-round past c m p s a last = by_stage (rounds_of past p) (rounds_of past p).stage where
  by_stage : (r : Round past) → Stage past r.base r.rounds r.last → IsLastOfRound past m
  by_stage r (inl t) = absurd (omega (arith, last, s.completed, r.done, t.at))
  by_stage r (inr (inl t)) = absurd (omega (arith, last, s.completed, (under_way past r c.number a.work a.is_open).less, length-due past r, ap length t.works, t.at))
  by_stage r (inr (inr (inr t))) = absurd (omega (arith, last, s.completed, (under_way past r c.number a.work a.is_open).less, length-due past r, ap length t.works, t.at))
  by_stage r (inr (inr (inl t))) =
      let less : nat_lt (jobs_completed past) (32 * sent past) ≡ true = (let f : jobs_completed past < 32 * sent past = omega (arith, last, s.completed) in grind (arith, nat_tests)) in
      record {
        awaited = ap (λ (x : Bool). not x && nat_lt (jobs_completed past) (32 * sent past)) t.unended ∙ less;
        kept = omega (arith, s.kept, length-due past r, ap length t.works, length-unloads t.named, t.pages, t.at, last, s.completed);
      }

pub round-ends : (past : List ClientEvent) (c : Completion) (q : GetRequests) (g h : GetGroups) (m n o : GetRounds) → RoundCloses past c q g m n → n.completed ≡ 32 * q.asked.sent
    → h.came.items ≡ g.came.items ++ some_bytes (take q.last (flat_map same_bytes (map back_in n.slots.items)))
    → JobsStand (jobs_due past ++ loads_after q.last n.next_loads.items) (Completed c ∷ past) o.jobs → o.jobs.kept + length (loads_after q.last n.next_loads.items) ≡ n.jobs.kept
    → o.slots.items ≡ n.slots.items → o.completed ≡ n.completed → RegisteredGetStands (Completed c ∷ past) q h o
round-ends past c q g h m n o k last came jobs kept slots completed =
    let s = k.stands in
    let is_last : jobs_completed past + 1 ≡ 32 * sent past = omega (arith, last, k.completed, s.rounds.completed, s.requests.asked.sent) in
    let l = last-of-round past c m s.requests.lawful s.rounds k.answers_it (omega (arith, is_last, s.rounds.completed)) in
    let test : (jobs_completed past + 1 == 32 * sent past) ≡ true = equal_yes (jobs_completed past + 1) (32 * sent past) is_last in
    let begins : begins_round past ≡ (last_count (counts_taken past) == 65536) = ap (λ (t : Bool). t && goes_on past) test in
    let loads : loads_after q.last n.next_loads.items ≡ cond (begins_round past) (page_loads 16 0) [] =
    ap (loads_after q.last) (k.next_loads ∙ s.rounds.next_loads l.awaited) ∙ ap (λ (x : ℕ). loads_after x (page_loads 16 0)) s.requests.last ∙ ap (λ (t : Bool). cond t (page_loads 16 0) []) (sym begins) in
    let due : jobs_due past ++ loads_after q.last n.next_loads.items ≡ jobs_due (Completed c ∷ past) = ap (λ (ws : List Work). jobs_due past ++ ws) loads in
    let first : jobs_completed past + 1 - 16 ≡ first_unload past = ap (λ (x : ℕ). x - 16) is_last in
    let bytes : take q.last (flat_map same_bytes (map back_in n.slots.items)) ≡ take (last_count (counts_taken past)) (pages_back 16 (jobs_completed past + 1 - 16) (Completed c ∷ past)) =
    ap (λ (ps : List (List ℕ)). take q.last (flat_map same_bytes ps)) (k.back l.awaited)
    ∙ ap (take q.last) (flat-back 16 (first_unload past) (Completed c ∷ past) ∙ ap (λ (x : ℕ). pages_back 16 x (Completed c ∷ past)) (sym first))
    ∙ ap (λ (x : ℕ). take x (pages_back 16 (jobs_completed past + 1 - 16) (Completed c ∷ past))) s.requests.last in
    let all : groups_came channels.V1 past ++ some_bytes (take q.last (flat_map same_bytes (map back_in n.slots.items))) ≡ groups_came channels.V1 (Completed c ∷ past) =
    ap (λ (b : List ℕ). groups_came channels.V1 past ++ some_bytes b) bytes
    ∙ ap (λ (t : Bool). groups_came channels.V1 past ++ cond t (some_bytes (take (last_count (counts_taken past)) (pages_back 16 (jobs_completed past + 1 - 16) (Completed c ∷ past)))) []) (sym test) in
    let over : nat_lt (jobs_completed past + 1) (32 * sent past) ≡ false = (let f : 32 * sent past ≤ jobs_completed past + 1 = omega (arith, is_last) in grind (arith, nat_tests)) in
    let unawaited : awaits channels.V1 (Completed c ∷ past) ≡ false = ap (λ (t : Bool). not (has_ended (requests_sent past)) && t) over ∙ and_false (not (has_ended (requests_sent past))) in
    record {
      requests = requests-completed past c q s.requests k.answers_it;
      groups = record {
        came = came ∙ ap (λ (gs : List (List ℕ)). gs ++ some_bytes (take q.last (flat_map same_bytes (map back_in n.slots.items)))) s.groups.came
            ∙ sym (drop-append-le (groups_received past) (groups_came channels.V1 past) (some_bytes (take q.last (flat_map same_bytes (map back_in n.slots.items)))) s.groups.in_turn)
            ∙ ap (drop (groups_received past)) all;
        in_turn = omega (arith, s.groups.in_turn, ap length all, length-append (groups_came channels.V1 past) (some_bytes (take q.last (flat_map same_bytes (map back_in n.slots.items)))));
        room = λ x. absurd (both x unawaited);
      };
      rounds = record {
        jobs = subst (λ (ws : List Work). JobsStand ws (Completed c ∷ past) o.jobs) due jobs;
        kept = omega (arith, ap length due, length-append (jobs_due past) (loads_after q.last n.next_loads.items), kept, k.kept, s.rounds.kept);
        loaded = ap (map loaded_in) slots ∙ k.loaded;
        back = λ x. absurd (both x unawaited);
        next_loads = λ x. absurd (both x unawaited);
        completed = omega (arith, completed, k.completed, s.rounds.completed);
      };
    }
  where
    and_false : (t : Bool) → (t && false) ≡ false
    and_false true = refl
    and_false false = refl
