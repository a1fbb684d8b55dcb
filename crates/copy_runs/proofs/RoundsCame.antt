-- Over registered pages each round of a READ that gets some bytes brings a group.
use Rattle.std.proofs.Common.{◌≡◌, ◌⊎◌, inl, inr, ℕ, zero, suc, ◌+◌, ◌-◌, ◌*◌, ◌/◌, ◌<◌, ◌≤◌, ◌==◌, nat_le, not, ◌&&◌, ◌||◌, Bool, true, false, cond, min, Option, Some, None, List, [], ◌∷◌, ◌++◌, length, take, drop, refl, sym, ap, ◌∙◌, arith, length-append}
use Rattle.std.specs.Prelude.{slice_get, replicate}
use Rattle.std.specs.List.{flat_map}
use Rattle.std.proofs.lemmas.Bool.Decides.{nat_tests}
use Rattle.std.proofs.lemmas.List.{append-nil, length-take, length-drop, length-replicate}
use Rattle.smbd_base.specs.Tokens.{PageToken}
use Rattle.file_messages.specs.declared.kind.Channel.TheVariants as channels
use Rattle.file_messages.specs.declared.fault.ReplyFault.{ReplyFault}
use Rattle.file_messages.specs.declared.message.Request.{Request}
use Rattle.file_messages.specs.declared.job.Work.{Work}
use Rattle.file_messages.specs.declared.job.Completion.{Completion}
use Rattle.file_messages.specs.Runs.{read_of, reads_count, read_descriptors, descriptor_of_load, end_request, get_requests}
use Rattle.file_messages.specs.Written.{IsCopyable}
use Rattle.file_pasts.specs.ClientPast.{ClientEvent, Group, End, Sent, Replied, Gave, Completed, Received, requests_sent, jobs_given, open_jobs, lasting_or, fault_of_reply, reply_fault, answers, has_failed, are_answered, token_of_descriptor}
use Rattle.file_pasts.specs.PutDue.{if_taken, unloads_of, unloads_of_first}
use Rattle.file_pasts.specs.PutTokens.{HasPoolTokens}
use Rattle.file_pasts.specs.GetDue.{sent, counts_taken, sum_of, last_count, goes_on, jobs_completed, page_loads, begins_round, jobs_due, some_bytes, pages_back, groups_came, has_ended, read_due, next_request, IsGet}
use Rattle.file_pasts.specs.GetLaws.{replies_in, IsAnswered}
use Rattle.file_pasts.specs.GetPagesBack.{brought_by, UnloadsBring}
use Rattle.file_pasts.specs.GetReceives.{page_placed}
use Rattle.file_pasts.proofs.Lists.{get_of_front, front_whole, left_at, prefix_before}
use Rattle.file_pasts.proofs.GetLaw.{RunCase, run_case, Fares, fares}
use Rattle.file_pasts.proofs.GetPages.{given_front}
use Rattle.file_pasts.proofs.GetPagesBack.{length-without, jobs_counted, pages_back_of}
use Rattle.copy_runs.proofs.EndLists.{front-all}
use Rattle.copy_runs.proofs.InlineCame.{none-before, taken-now, some-one}

-- ---- jobs

length-loads : (count i : ℕ) → length (page_loads count i) ≡ count
length-loads zero i = refl
length-loads (suc count) i = (let z = length-loads count (i + 1) in omega (arith, z))

-- the Unloads of so many pages that a READ names
length-unloads : (count i k : ℕ) → length (unloads_of (read_descriptors count i k)) ≡ count
length-unloads zero i k = refl
length-unloads (suc count) i k = (let z = length-unloads count (i + 1) k in omega (arith, z))

drop-front : (xs ys : List Work) (n : ℕ) → n ≡ length xs → drop n (xs ++ ys) ≡ ys
drop-front [] ys n e = ap (λ (k : ℕ). drop k ys) e
drop-front (x ∷ xs) ys zero e = absurd (omega (arith, e))
drop-front (x ∷ xs) ys (suc n) e = drop-front xs ys n (omega (arith, e))

-- Unloads bring some bytes
page-long : (bytes : List ℕ) (t : PageToken) → length (page_placed bytes t) ≡ 4096
page-long bytes t =
    let part = take 4096 (drop (65536 * (t.generation - 1) + 4096 * t.page) bytes) in
    let zeros : length {A = ℕ} (replicate 4096 0) ≡ 4096 = length-replicate {A = ℕ} 4096 0 in
    let all = length-append part (replicate 4096 0) in
    let took = length-take 4096 (part ++ replicate 4096 0) in
    omega (arith, zeros, all, took)

some-brought : (bytes : List ℕ) (count i k : ℕ) → 1 ≤ length (flat_map (brought_by (page_placed bytes)) (unloads_of (read_descriptors (suc count) i k)))
some-brought bytes count i k =
    let t = token_of_descriptor (descriptor_of_load i (k - 1) 4096) in
    let page = page-long bytes t in
    let all = length-append (page_placed bytes t) (flat_map (brought_by (page_placed bytes)) (unloads_of (read_descriptors count (i + 1) k))) in
    omega (arith, page, all)

-- ---- a request is due between rounds

record Between (past : List ClientEvent) : Type 0 where
  answered : length (answers past).unanswered ≡ 0
  over : 32 * sent past ≤ jobs_completed past

between : (past : List ClientEvent) (q : Request) → next_request channels.V1 past ≡ Some q → Between past
between past q e = by_tests (has_failed past || has_ended (requests_sent past)) (are_answered past) (sent past == 0) (nat_le (32 * sent past) (jobs_completed past)) refl refl refl e where
  by_tests : (a b c d : Bool) → are_answered past ≡ b → (sent past == 0) ≡ c → nat_le (32 * sent past) (jobs_completed past) ≡ d
      → cond a None (cond (not (b && (c || d))) None (cond (goes_on past) (read_due channels.V1 past) (Some (end_request (sent past + 1) (sum_of (counts_taken past)))))) ≡ Some q
      → Between past
  by_tests true b c d x y z h = absurd (let k : ⊥ = cc in k)
  by_tests false false c d x y z h = absurd (let k : ⊥ = cc in k)
  by_tests false true false false x y z h = absurd (let k : ⊥ = cc in k)
  by_tests false true true d x y z h = record { answered = zero-is (length (answers past).unanswered) x; over = none-over (sent past) y } where
    zero-is : (n : ℕ) → (n == 0) ≡ true → n ≡ 0
    zero-is n t = grind (arith, nat_tests)

    none-over : (n : ℕ) → (n == 0) ≡ true → 32 * n ≤ jobs_completed past
    none-over n t = (let none : n ≡ 0 = grind (arith, nat_tests) in omega (arith, none))
  by_tests false true false true x y z h = record { answered = zero-is (length (answers past).unanswered) x; over = at-least (32 * sent past) (jobs_completed past) z } where
    zero-is : (n : ℕ) → (n == 0) ≡ true → n ≡ 0
    zero-is n t = grind (arith, nat_tests)

    at-least : (n m : ℕ) → nat_le n m ≡ true → n ≤ m
    at-least n m t = grind (arith, nat_tests)

-- ---- by induction on the past

-- the last jobs that came due are the 16 Unloads of a round
record UnloadsLast (past : List ClientEvent) : Type 0 where
  front : List Work
  named_by : ℕ
  due : jobs_due past ≡ front ++ unloads_of (read_descriptors 16 0 named_by)
  few : length front + 16 ≤ 32 * length (replies_in past)

-- the rounds: those before the last request are over, and each that is over brought its group
record InRounds (bytes : List ℕ) (past : List ClientEvent) : Type 0 where
  next : sent past ≤ length (replies_in past) + 1
  over : 32 * sent past ≤ jobs_completed past + 32
  due : length (replies_in past) ≤ reads_count bytes → length (jobs_due past) ≤ 32 * length (replies_in past) + 16
  last : length (replies_in past) ≤ reads_count bytes → jobs_completed past < 32 * length (replies_in past) → UnloadsLast past
  came : (k : ℕ) → 32 * k ≤ jobs_completed past → k ≤ (length bytes + 65535) / 65536 → k ≤ length (groups_came channels.V1 past)

last-few : (past : List ClientEvent) → UnloadsLast past → length (jobs_due past) ≤ 32 * length (replies_in past)
last-few past l =
    let all : length (jobs_due past) ≡ length l.front + length (unloads_of (read_descriptors 16 0 l.named_by)) =
    ap (λ (ws : List Work). length ws) l.due ∙ length-append l.front (unloads_of (read_descriptors 16 0 l.named_by)) in
    let unloads = length-unloads 16 0 l.named_by in
    let few = l.few in
    omega (arith, all, unloads, few)

rounds-sent : (bytes : List ℕ) (q : Request) (past : List ClientEvent) → next_request channels.V1 past ≡ Some q → Fares bytes past → InRounds bytes past → InRounds bytes (Sent q ∷ past)
rounds-sent bytes q past e f i =
    let b = between past q e in
    let answered = b.answered in let over = b.over in let few = f.few in
    let waiting : length (answers past).unanswered ≡ sent past - length (replies_in past) = ap (λ (rs : List Request). length rs) f.waiting ∙ length-drop (length (replies_in past)) (requests_sent past) in
    let more : length (requests_sent past ++ q ∷ []) ≡ sent past + 1 = length-append (requests_sent past) (q ∷ []) in
    record {
      next = omega (arith, answered, few, waiting, more);
      over = omega (arith, over, more);
      due = i.due;
      last = λ h k. (let l = i.last h k in record { front = l.front; named_by = l.named_by; due = l.due; few = l.few });
      came = i.came;
    }

-- the next reply is taken
module _ (bytes m : List ℕ) (past : List ClientEvent) (e : reply_fault (answers past) m ≡ None) (fine : (answers past).fault ≡ None) (f : Fares bytes past) (i : InRounds bytes past) where
  more : length (replies_in past ++ m ∷ []) ≡ length (replies_in past) + 1
  more = length-append (replies_in past) (m ∷ [])

  -- it is to this request
  record Answered : Type 0 where
    request : Request
    run : RunCase channels.V1 bytes (length (replies_in past)) request
    added : if_taken (reply_fault (answers past) m) (unloads_of_first (answers past).unanswered) ≡ unloads_of request.descriptors

  answered : Answered
  answered = by_open (answers past).unanswered refl where
    none-found : (fault found : Option ReplyFault) → lasting_or fault found ≡ None → found ≡ None
    none-found None found h = h
    none-found (Some x) found h = absurd (let b : ⊥ = cc in b)

    by_open : (rs : List Request) → (answers past).unanswered ≡ rs → Answered
    by_open [] u = absurd (never (sym (ap (λ (rs : List Request). fault_of_reply rs m) u) ∙ none-found (answers past).fault (fault_of_reply (answers past).unanswered m) e)) where
      never : fault_of_reply [] m ≡ None → ⊥
      never h = cc
    by_open (r ∷ later) u =
        let l = left_at (length (replies_in past)) (requests_sent past) r later (sym f.waiting ∙ u) in
        record {
          request = r;
          run = run_case channels.V1 bytes (length (replies_in past)) r
              (get_of_front (sent past) (get_requests channels.V1 bytes) (length (replies_in past)) r (ap (λ (rs : List Request). slice_get rs (length (replies_in past))) (sym f.front) ∙ l.0));
          added = ap (λ (o : Option ReplyFault). if_taken o (unloads_of_first (answers past).unanswered)) e ∙ ap unloads_of_first u;
        }

  -- a READ: its pages are to be unloaded
  unloads : length (replies_in past) < reads_count bytes → UnloadsLast (Replied m ∷ past)
  unfolding RunCase
  unloads less = by_run answered.run where
    by_run : ((length (replies_in past) < reads_count bytes) × (answered.request ≡ read_of channels.V1 (length (replies_in past) + 1)))
        ⊎ ((length (replies_in past) ≡ reads_count bytes) × (answered.request ≡ end_request (reads_count bytes + 1) (length bytes)))
        → UnloadsLast (Replied m ∷ past)
    by_run (inl x) = record {
      front = jobs_due past;
      named_by = length (replies_in past) + 1;
      due = ap (λ (ws : List Work). jobs_due past ++ ws) (answered.added ∙ ap (λ (r : Request). unloads_of r.descriptors) x.1);
      few = (let due = i.due (omega (arith, less)) in omega (arith, due, more));
    }
    by_run (inr x) = absurd (let at = x.0 in omega (arith, at, less))

  rounds-replied : InRounds bytes (Replied m ∷ past)
  rounds-replied =
      let next = i.next in let over = i.over in
      record {
        next = omega (arith, next, more);
        over = over;
        due = λ h. (let l = last-few (Replied m ∷ past) (unloads (omega (arith, h, more))) in omega (arith, l));
        last = λ h k. unloads (omega (arith, h, more));
        came = λ k done all. (let z = i.came k done all in let long = length-append (groups_came channels.V1 past) [] in omega (arith, z, long));
      }

-- a job is completed
module _ (bytes : List ℕ) (c : Completion) (past : List ClientEvent) (p : IsGet channels.V1 (Completed c ∷ past)) (u : UnloadsBring (page_placed bytes) (Completed c ∷ past))
    (f : Fares bytes past) (i : InRounds bytes past) where
  abbrev group : List ℕ
  group = take (last_count (counts_taken past)) (pages_back 16 (jobs_completed past + 1 - 16) (Completed c ∷ past))

  given : jobs_completed past + 1 ≤ length (jobs_given past)
  given = (let counted = jobs_counted channels.V1 past p.1 in let left = length-without c.number (open_jobs past) p.0.work p.0.is_open in omega (arith, counted, left))

  given-few : length (jobs_given past) ≤ length (jobs_due past)
  given-few =
      (let front = given_front past p.1 in
      let all : length (jobs_given past ++ front.0) ≡ length (jobs_due past) = ap (λ (ws : List Work). length ws) front.1 in
      let long = length-append (jobs_given past) front.0 in
      omega (arith, all, long))

  -- the next round's Loads come due only where this one is over
  begins-now : begins_round past ≡ true → jobs_completed past + 1 ≡ 32 * sent past
  begins-now e = by_tests (jobs_completed past + 1 == 32 * sent past) (goes_on past) refl e where
    by_tests : (x y : Bool) → (jobs_completed past + 1 == 32 * sent past) ≡ x → (x && y) ≡ true → jobs_completed past + 1 ≡ 32 * sent past
    by_tests true y t h = grind (arith, nat_tests)
    by_tests false y t h = absurd (let b : ⊥ = cc in b)

  due-same : begins_round past ≡ false → jobs_due (Completed c ∷ past) ≡ jobs_due past
  due-same e = ap (λ (b : Bool). jobs_due past ++ cond b (page_loads 16 0) []) e ∙ append-nil (jobs_due past)

  due-more : begins_round past ≡ true → length (jobs_due (Completed c ∷ past)) ≡ length (jobs_due past) + 16
  due-more e =
      ap (λ (b : Bool). length (jobs_due past ++ cond b (page_loads 16 0) [])) e ∙ length-append (jobs_due past) (page_loads 16 0)
      ∙ ap (λ (n : ℕ). length (jobs_due past) + n) (length-loads 16 0)

  due-few : length (replies_in past) ≤ reads_count bytes → length (jobs_due (Completed c ∷ past)) ≤ 32 * length (replies_in past) + 16
  due-few h = by_begins (begins_round past) refl where
    by_begins : (t : Bool) → begins_round past ≡ t → length (jobs_due (Completed c ∷ past)) ≤ 32 * length (replies_in past) + 16
    by_begins true e =
        let now = begins-now e in let due = i.due h in let few = f.few in
        let l = last-few past (i.last h (omega (arith, now, due, few, given, given-few))) in
        omega (arith, l, due-more e)
    by_begins false e = (let due = i.due h in omega (arith, due, ap (λ (ws : List Work). length ws) (due-same e)))

  still-last : length (replies_in past) ≤ reads_count bytes → jobs_completed past + 1 < 32 * length (replies_in past) → UnloadsLast (Completed c ∷ past)
  still-last h less = by_begins (begins_round past) refl (i.last h (omega (arith, less))) where
    by_begins : (t : Bool) → begins_round past ≡ t → UnloadsLast past → UnloadsLast (Completed c ∷ past)
    by_begins true e l = absurd (let now = begins-now e in let few = f.few in omega (arith, now, few, less))
    by_begins false e l = record { front = l.front; named_by = l.named_by; due = due-same e ∙ l.due; few = l.few }

  came-long : length (groups_came channels.V1 (Completed c ∷ past)) ≡ length (groups_came channels.V1 past) + length (cond (jobs_completed past + 1 == 32 * sent past) (some_bytes group) [])
  came-long = length-append (groups_came channels.V1 past) (cond (jobs_completed past + 1 == 32 * sent past) (some_bytes group) [])

  -- this round is over
  module _ (k : ℕ) (now : 32 * k ≡ jobs_completed past + 1) (all : k ≤ (length bytes + 65535) / 65536) where
    within_reads : length (replies_in past) ≤ reads_count bytes
    within_reads = (let over = i.over in let few = f.few in omega (arith, now, all, over, few))

    replies-are : length (replies_in past) ≡ k
    replies-are = (let over = i.over in let few = f.few in let due = i.due within_reads in omega (arith, now, over, few, due, given, given-few))

    sent-is : sent past ≡ k
    sent-is = (let over = i.over in let few = f.few in omega (arith, now, over, few, replies-are))

    l : UnloadsLast past
    l = i.last within_reads (omega (arith, now, replies-are))

    due-long : length (jobs_due past) ≡ length l.front + 16
    due-long =
        ap (λ (ws : List Work). length ws) l.due ∙ length-append l.front (unloads_of (read_descriptors 16 0 l.named_by))
        ∙ ap (λ (n : ℕ). length l.front + n) (length-unloads 16 0 l.named_by)

    given-all : jobs_given past ≡ jobs_due past
    given-all = (let few = last-few past l in front-all (jobs_given past) (jobs_due past) (given_front past p.1) (omega (arith, few, given, now, replies-are)))

    given-long : jobs_completed past + 1 ≡ length (jobs_given past)
    given-long = (let few = last-few past l in omega (arith, few, given, given-few, now, replies-are))

    front-long : jobs_completed past + 1 - 16 ≡ length l.front
    front-long = omega (arith, given-long, due-long, ap (λ (ws : List Work). length ws) given-all)

    last-given : take 16 (drop (jobs_completed past + 1 - 16) (jobs_given past)) ≡ unloads_of (read_descriptors 16 0 l.named_by)
    last-given =
        ap (λ (ws : List Work). take 16 (drop (jobs_completed past + 1 - 16) ws)) (given-all ∙ l.due)
        ∙ ap (λ (ws : List Work). take 16 ws) (drop-front l.front (unloads_of (read_descriptors 16 0 l.named_by)) (jobs_completed past + 1 - 16) front-long)
        ∙ front_whole 16 (unloads_of (read_descriptors 16 0 l.named_by)) (let long = length-unloads 16 0 l.named_by in omega (arith, long))

    pages-are : pages_back 16 (jobs_completed past + 1 - 16) (Completed c ∷ past) ≡ flat_map (brought_by (page_placed bytes)) (unloads_of (read_descriptors 16 0 l.named_by))
    pages-are =
        pages_back_of channels.V1 (page_placed bytes) (Completed c ∷ past) 16 (jobs_completed past + 1 - 16) p u given-long (omega (arith, given-long, now, some))
        ∙ ap (λ (ws : List Work). flat_map (brought_by (page_placed bytes)) ws) last-given
      where
        some : 1 ≤ k
        some = omega (arith, now)

    group-some : 1 ≤ length group
    group-some =
        let pages = some-brought bytes 15 0 l.named_by in
        let same : length (pages_back 16 (jobs_completed past + 1 - 16) (Completed c ∷ past)) ≡ length (flat_map (brought_by (page_placed bytes)) (unloads_of (read_descriptors 16 0 l.named_by))) = ap (λ (xs : List ℕ). length xs) pages-are in
        let count : last_count (counts_taken past) ≡ min 65536 (length bytes - 65536 * (length (replies_in past) - 1)) =
        f.last (omega (arith, replies-are, now)) within_reads ∙ length-take 65536 (drop (65536 * (length (replies_in past) - 1)) bytes)
        ∙ ap (λ (n : ℕ). min 65536 n) (length-drop (65536 * (length (replies_in past) - 1)) bytes) in
        let took : length group ≡ min (last_count (counts_taken past)) (length (pages_back 16 (jobs_completed past + 1 - 16) (Completed c ∷ past))) =
        length-take (last_count (counts_taken past)) (pages_back 16 (jobs_completed past + 1 - 16) (Completed c ∷ past)) in
        omega (arith, pages, same, count, took, replies-are, now, all)

    came-now : length (groups_came channels.V1 (Completed c ∷ past)) ≡ length (groups_came channels.V1 past) + 1
    came-now =
        let equal : (jobs_completed past + 1 == 32 * sent past) ≡ true = yes (jobs_completed past + 1) (32 * sent past) (omega (arith, now, sent-is)) in
        came-long
        ∙ ap (λ (t : Bool). length (groups_came channels.V1 past) + length (cond t (some_bytes group) [])) equal
        ∙ ap (λ (n : ℕ). length (groups_came channels.V1 past) + n) (some-one group group-some)
      where
        yes : (x y : ℕ) → x ≡ y → (x == y) ≡ true
        yes x y h = grind (arith, nat_tests)

  came-all : (k : ℕ) → 32 * k ≤ jobs_completed past + 1 → k ≤ (length bytes + 65535) / 65536 → k ≤ length (groups_came channels.V1 (Completed c ∷ past))
  came-all k done all = by_last (nat_le (32 * k) (jobs_completed past)) refl where
    by_last : (t : Bool) → nat_le (32 * k) (jobs_completed past) ≡ t → k ≤ length (groups_came channels.V1 (Completed c ∷ past))
    by_last true t =
        let before : 32 * k ≤ jobs_completed past = grind (arith, nat_tests) in
        let z = i.came k before all in
        omega (arith, z, came-long)
    by_last false t =
        let beyond : jobs_completed past < 32 * k = grind (arith, nat_tests) in
        let now : 32 * k ≡ jobs_completed past + 1 = omega (arith, beyond, done) in
        let z = i.came (k - 1) (omega (arith, now)) (omega (arith, all)) in
        omega (arith, z, came-now k now all)

  rounds-completed : InRounds bytes (Completed c ∷ past)
  rounds-completed = record {
    next = i.next;
    over = (let over = i.over in omega (arith, over));
    due = due-few;
    last = still-last;
    came = came-all;
  }

in-rounds : (bytes : List ℕ) (past : List ClientEvent) → IsCopyable bytes → IsGet channels.V1 past → HasPoolTokens past → IsAnswered channels.V1 bytes past → UnloadsBring (page_placed bytes) past
    → (answers past).fault ≡ None → InRounds bytes past
in-rounds bytes [] few p k r u none = record {
  next = omega arith;
  over = omega arith;
  due = λ h. (let z = length-loads 16 0 in omega (arith, z));
  last = λ h less. absurd (omega (arith, less));
  came = λ n done all. omega (arith, done);
}
in-rounds bytes (Group b ∷ past) few p k r u none = absurd p.0
in-rounds bytes (End ∷ past) few p k r u none = absurd p.0
in-rounds bytes (Sent q ∷ past) few p k r u none = rounds-sent bytes q past p.0 (fares bytes past few p.1 k r none) (in-rounds bytes past few p.1 k r u none)
in-rounds bytes (Replied m ∷ past) few p k r u none =
    let e : reply_fault (answers past) m ≡ None = taken-now (reply_fault (answers past) m) (answers past) none in
    let fine : (answers past).fault ≡ None = none-before (answers past).fault (fault_of_reply (answers past).unanswered m) e in
    let before : IsAnswered channels.V1 bytes past = prefix_before (replies_in past) m _ r in
    rounds-replied bytes m past e fine (fares bytes past few p.1 k before fine) (in-rounds bytes past few p.1 k before u fine)
in-rounds bytes (Gave work ∷ past) few p k r u none =
    let i = in-rounds bytes past few p.1 k r u none in
    record {
      next = i.next;
      over = i.over;
      due = i.due;
      last = λ h less. (let l = i.last h less in record { front = l.front; named_by = l.named_by; due = l.due; few = l.few });
      came = i.came;
    }
in-rounds bytes (Completed c ∷ past) few p k r u none = rounds-completed bytes c past p u (fares bytes past few p.1 k.1 r none) (in-rounds bytes past few p.1 k.1 r u.1 none)
in-rounds bytes (Received b ∷ past) few p k r u none =
    let i = in-rounds bytes past few p.1 k r u none in
    record {
      next = i.next;
      over = i.over;
      due = i.due;
      last = λ h less. (let l = i.last h less in record { front = l.front; named_by = l.named_by; due = l.due; few = l.few });
      came = i.came;
    }

-- where END was sent, all groups came
pub rounds-came : (bytes : List ℕ) (past : List ClientEvent) → IsCopyable bytes → IsGet channels.V1 past → HasPoolTokens past → IsAnswered channels.V1 bytes past
    → UnloadsBring (page_placed bytes) past → (answers past).fault ≡ None → sent past ≡ reads_count bytes + 1
    → (length bytes + 65535) / 65536 ≤ length (groups_came channels.V1 past)
rounds-came bytes past few p k r u none all =
    let i = in-rounds bytes past few p k r u none in
    let over = i.over in
    i.came ((length bytes + 65535) / 65536) (omega (arith, over, all)) (omega arith)
