-- The groups that come of a get over registered pages are those of the bytes, round by round.
use Rattle.std.proofs.Common.{◌≡◌, ◌⊎◌, inl, inr, ℕ, zero, suc, ◌+◌, ◌-◌, ◌*◌, ◌/◌, ◌%◌, ◌<◌, ◌≤◌, ◌==◌, nat_lt, nat_le, not, ◌&&◌, ◌||◌, Bool, true, false, cond, Option, Some, None, List, [], ◌∷◌, ◌++◌, length, take, drop, refl, sym, ap, ◌∙◌, add-one, length-append, arith}
use Rattle.std.specs.Prelude.{slice_get, replicate, is_some}
use Rattle.std.specs.List.{flat_map}
use mathlib.Core.List.{IsPrefix}
use Rattle.std.proofs.lemmas.Bool.Decides.{nat_tests}
use Rattle.std.proofs.lemmas.List.{append-nil, length-drop, drop-drop}
use Rattle.file_messages.specs.declared.kind.Channel.TheVariants as channels
use Rattle.file_messages.specs.declared.fault.ReplyFault.{ReplyFault}
use Rattle.file_messages.specs.declared.message.Request.{Request}
use Rattle.file_messages.specs.declared.job.Work.{Work}
use Rattle.file_messages.specs.declared.job.Completion.{Completion}
use Rattle.file_messages.specs.Runs.{groups_of, get_requests, reads_count, read_descriptors, end_request}
use Rattle.file_messages.specs.Written.{IsCopyable}
use Rattle.file_pasts.specs.ClientPast.{ClientEvent, Group, End, Sent, Replied, Gave, Completed, Received, requests_sent, jobs_given, open_jobs, lasting_or, fault_of_reply, reply_fault, replied, answers, Answers, has_failed, are_answered, AnswersJob}
use Rattle.file_pasts.specs.PutDue.{if_taken, unloads_of, unloads_of_first}
use Rattle.file_pasts.specs.GetDue.{sent, counts_taken, sum_of, last_count, goes_on, jobs_completed, page_loads, jobs_due, some_bytes, pages_back, groups_came, groups_received, has_ended, read_due, next_request, next_group, IsGet}
use Rattle.file_pasts.specs.PutTokens.{HasPoolTokens}
use Rattle.file_pasts.specs.GetLaws.{replies_in, IsAnswered, groups_taken}
use Rattle.file_pasts.specs.GetPagesBack.{brought_by, UnloadsBring}
use Rattle.file_pasts.specs.GetReceives.{page_with, page_placed, RegisteredGetsReceive}
use Rattle.file_pasts.proofs.Lists.{within, take_one_more, get_of_front, get_in_front, front_of, front_whole, left_at, prefix_before}
use Rattle.file_pasts.proofs.GetLaw.{RunCase, run_case, Fares, fares}
use Rattle.file_pasts.proofs.GetPages.{given_front}
use Rattle.file_pasts.proofs.GetGroups.{brought, brought-more, front-of-parts}
use Rattle.file_pasts.proofs.GetPagesBack.{length-without, jobs_counted, pages_back_of}

-- ---- the jobs of whole rounds

abbrev pub rounds : ℕ → List Work
rounds zero = []
rounds (suc k) = (rounds k ++ page_loads 16 0) ++ unloads_of (read_descriptors 16 0 (k + 1))

length-loads : (count i : ℕ) → length (page_loads count i) ≡ count
length-loads zero i = refl
length-loads (suc count) i = ap suc (length-loads count (i + 1))

length-unloads : (count i k : ℕ) → length (unloads_of (read_descriptors count i k)) ≡ count
length-unloads zero i k = refl
length-unloads (suc count) i k = ap suc (length-unloads count (i + 1) k)

length-rounds : (k : ℕ) → length (rounds k) ≡ 32 * k
length-rounds zero = omega arith
length-rounds (suc k) =
    omega (arith, length-rounds k, length-loads 16 0, length-unloads 16 0 (k + 1), length-append (rounds k) (page_loads 16 0), length-append (rounds k ++ page_loads 16 0) (unloads_of (read_descriptors 16 0 (k + 1))))

drop_front : (xs ys : List Work) (n : ℕ) → n ≡ length xs → drop n (xs ++ ys) ≡ ys
drop_front [] ys n e = ap (λ (k : ℕ). drop k ys) e
drop_front (x ∷ xs) ys zero e = absurd (omega (arith, e))
drop_front (x ∷ xs) ys (suc n) e = drop_front xs ys n (omega (arith, e))

last_unloads : (k n : ℕ) → n ≡ 32 * k + 16 → take 16 (drop n (rounds (suc k))) ≡ unloads_of (read_descriptors 16 0 (k + 1))
last_unloads k n e =
    ap (take 16) (drop_front (rounds k ++ page_loads 16 0) (unloads_of (read_descriptors 16 0 (k + 1))) n (omega (arith, e, length-rounds k, length-loads 16 0, length-append (rounds k) (page_loads 16 0))))
    ∙ front_whole 16 (unloads_of (read_descriptors 16 0 (k + 1))) (omega (arith, length-unloads 16 0 (k + 1)))

-- ---- what the pages of a round hold

held : List ℕ → ℕ → ℕ → ℕ → List ℕ
held bytes k zero i = []
held bytes k (suc count) i = page_with (take 4096 (drop (65536 * k + 4096 * i) bytes)) ++ held bytes k count (i + 1)

unloads_hold : (bytes : List ℕ) (k count i : ℕ) → i + count ≤ 16 → flat_map (brought_by (page_placed bytes)) (unloads_of (read_descriptors count i (k + 1))) ≡ held bytes k count i
unfolding held
unloads_hold bytes k zero i h = refl
unloads_hold bytes k (suc count) i h =
    let page : ((k + 1 - 1 + 1) * 256 + i) % 256 ≡ i = omega (arith, h) in
    let generation : ((k + 1 - 1 + 1) * 256 + i) / 256 - 1 ≡ k = omega (arith, h) in
    ap (λ (g : ℕ). page_with (take 4096 (drop (65536 * g + 4096 * (((k + 1 - 1 + 1) * 256 + i) % 256)) bytes)) ++ flat_map (brought_by (page_placed bytes)) (unloads_of (read_descriptors count (i + 1) (k + 1)))) generation
    ∙ ap (λ (g : ℕ). page_with (take 4096 (drop (65536 * k + 4096 * g) bytes)) ++ flat_map (brought_by (page_placed bytes)) (unloads_of (read_descriptors count (i + 1) (k + 1)))) page
    ∙ ap (λ (xs : List ℕ). page_with (take 4096 (drop (65536 * k + 4096 * i) bytes)) ++ xs) (unloads_hold bytes k count (i + 1) (omega (arith, h)))

take_over : (n m : ℕ) (xs ys : List ℕ) → length xs ≡ n → take (n + m) (xs ++ ys) ≡ xs ++ take m ys
take_over zero m [] ys e = ap (λ (k : ℕ). take k ys) (let z : 0 + m ≡ m = omega arith in z)
take_over zero m (x ∷ xs) ys e = absurd (omega (arith, e))
take_over (suc n) m [] ys e = absurd (omega (arith, e))
take_over (suc n) m (x ∷ xs) ys e = ap (λ (k : ℕ). take k (x ∷ (xs ++ ys))) (let z : suc n + m ≡ suc (n + m) = omega arith in z) ∙ ap (λ (t : List ℕ). x ∷ t) (take_over n m xs ys (omega (arith, e)))

took_front : (n : ℕ) (xs ys : List ℕ) → n ≤ length xs → take n (xs ++ ys) ≡ take n xs
took_front zero xs ys h = refl
took_front (suc n) [] ys h = absurd (omega (arith, h))
took_front (suc n) (x ∷ xs) ys h = ap (λ (t : List ℕ). x ∷ t) (took_front n xs ys (omega (arith, h)))

length_took : (n : ℕ) (xs : List ℕ) → n ≤ length xs → length (take n xs) ≡ n
length_took zero xs h = refl
length_took (suc n) [] h = absurd (omega (arith, h))
length_took (suc n) (x ∷ xs) h = ap suc (length_took n xs (omega (arith, h)))

took_in_two : (n m : ℕ) (xs : List ℕ) → take (n + m) xs ≡ take n xs ++ take m (drop n xs)
took_in_two zero m xs = ap (λ (k : ℕ). take k xs) (let z : 0 + m ≡ m = omega arith in z)
took_in_two (suc n) m [] = ap (λ (k : ℕ). take k []) (let z : suc n + m ≡ suc (n + m) = omega arith in z) ∙ nothing m where
  nothing : (m : ℕ) → ◌≡◌ {A = List ℕ} [] (take m [])
  nothing zero = refl
  nothing (suc m) = refl
took_in_two (suc n) m (x ∷ xs) = ap (λ (k : ℕ). take k (x ∷ xs)) (let z : suc n + m ≡ suc (n + m) = omega arith in z) ∙ ap (λ (t : List ℕ). x ∷ t) (took_in_two n m xs)

front_held : (bytes : List ℕ) (k count i : ℕ) → take (length (take (4096 * count) (drop (65536 * k + 4096 * i) bytes))) (held bytes k count i) ≡ take (4096 * count) (drop (65536 * k + 4096 * i) bytes)
unfolding held
front_held bytes k zero i =
    none (length (take (4096 * 0) (drop (65536 * k + 4096 * i) bytes)))
    ∙ ap (λ (n : ℕ). take n (drop (65536 * k + 4096 * i) bytes)) (let z : 0 ≡ 4096 * 0 = omega arith in z)
  where
    none : (n : ℕ) → ◌≡◌ {A = List ℕ} (take n []) []
    none zero = refl
    none (suc n) = refl
front_held bytes k (suc count) i = by_size (nat_le 4096 (length (drop (65536 * k + 4096 * i) bytes))) refl (front_held bytes k count (i + 1)) where
  here : List ℕ
  here = drop (65536 * k + 4096 * i) bytes

  split : take (4096 * suc count) here ≡ take 4096 here ++ take (4096 * count) (drop 4096 here)
  split = ap (λ (n : ℕ). take n here) (let z : 4096 * suc count ≡ 4096 + 4096 * count = omega arith in z) ∙ took_in_two 4096 (4096 * count) here

  next : drop 4096 here ≡ drop (65536 * k + 4096 * (i + 1)) bytes
  next = drop-drop 4096 (65536 * k + 4096 * i) bytes ∙ ap (λ (x : ℕ). drop x bytes) (let z : 65536 * k + 4096 * i + 4096 ≡ 65536 * k + 4096 * (i + 1) = omega arith in z)

  by_size : (t : Bool) → nat_le 4096 (length here) ≡ t
      → take (length (take (4096 * count) (drop (65536 * k + 4096 * (i + 1)) bytes))) (held bytes k count (i + 1)) ≡ take (4096 * count) (drop (65536 * k + 4096 * (i + 1)) bytes)
      → take (length (take (4096 * suc count) here)) (page_with (take 4096 here) ++ held bytes k count (i + 1)) ≡ take (4096 * suc count) here
  by_size true t ih =
      let long : 4096 ≤ length here = grind (arith, nat_tests) in
      let size : length (take 4096 here) ≡ 4096 = length_took 4096 here long in
      let page : page_with (take 4096 here) ≡ take 4096 here = took_front 4096 (take 4096 here) (replicate 4096 0) (omega (arith, size)) ∙ front_whole 4096 (take 4096 here) (omega (arith, size)) in
      let parts : take (4096 * suc count) here ≡ take 4096 here ++ take (4096 * count) (drop (65536 * k + 4096 * (i + 1)) bytes) = split ∙ ap (λ (xs : List ℕ). take 4096 here ++ take (4096 * count) xs) next in
      let sizes : length (take (4096 * suc count) here) ≡ 4096 + length (take (4096 * count) (drop (65536 * k + 4096 * (i + 1)) bytes)) =
      ap length parts ∙ length-append (take 4096 here) (take (4096 * count) (drop (65536 * k + 4096 * (i + 1)) bytes)) ∙ ap (λ (n : ℕ). n + length (take (4096 * count) (drop (65536 * k + 4096 * (i + 1)) bytes))) size in
      ap (λ (n : ℕ). take n (page_with (take 4096 here) ++ held bytes k count (i + 1))) sizes
      ∙ ap (λ (xs : List ℕ). take (4096 + length (take (4096 * count) (drop (65536 * k + 4096 * (i + 1)) bytes))) (xs ++ held bytes k count (i + 1))) page
      ∙ take_over 4096 (length (take (4096 * count) (drop (65536 * k + 4096 * (i + 1)) bytes))) (take 4096 here) (held bytes k count (i + 1)) size
      ∙ ap (λ (xs : List ℕ). take 4096 here ++ xs) ih ∙ sym parts
  by_size false t ih =
      let short : length here < 4096 = grind (arith, nat_tests) in
      let whole : take (4096 * suc count) here ≡ here = front_whole (4096 * suc count) here (omega (arith, short)) in
      let part : take 4096 here ≡ here = front_whole 4096 here (omega (arith, short)) in
      let page : page_with (take 4096 here) ≡ page_with here = ap page_with part in
      ap (λ (xs : List ℕ). take (length xs) (page_with (take 4096 here) ++ held bytes k count (i + 1))) whole
      ∙ ap (λ (xs : List ℕ). take (length here) (xs ++ held bytes k count (i + 1))) page
      ∙ took_front (length here) (page_with here) (held bytes k count (i + 1)) (long_enough here short)
      ∙ front_of_page here short ∙ sym whole
    where
      replicated : (n : ℕ) → length {A = ℕ} (replicate n 0) ≡ n
      replicated zero = refl
      replicated (suc n) = ap suc (replicated n)

      long_enough : (xs : List ℕ) → length xs < 4096 → length xs ≤ length (page_with xs)
      long_enough xs h = omega (arith, h, length_took 4096 (xs ++ replicate 4096 0) (omega (arith, length-append xs (replicate 4096 0), replicated 4096)))

      took_twice : (n m : ℕ) (xs : List ℕ) → n ≤ m → take n (take m xs) ≡ take n xs
      took_twice zero m xs h = refl
      took_twice (suc n) zero xs h = absurd (omega (arith, h))
      took_twice (suc n) (suc m) [] h = refl
      took_twice (suc n) (suc m) (x ∷ xs) h = ap (λ (t : List ℕ). x ∷ t) (took_twice n m xs (omega (arith, h)))

      front_of_page : (xs : List ℕ) → length xs < 4096 → take (length xs) (page_with xs) ≡ xs
      front_of_page xs h = took_twice (length xs) 4096 (xs ++ replicate 4096 0) (omega (arith, h)) ∙ took_front (length xs) xs (replicate 4096 0) (omega arith) ∙ front_whole (length xs) xs (omega arith)

-- ---- by induction on the past

-- while no reply was refused: a round has begun, or the jobs of so many rounds came due and no other
pub record Begun (bytes : List ℕ) (past : List ClientEvent) : Type 0 where
  due : jobs_due past ≡ rounds (length (replies_in past)) ++ page_loads 16 0
  more : length (replies_in past) < reads_count bytes
  done : 32 * length (replies_in past) ≤ jobs_completed past
  next : sent past ≤ length (replies_in past) + 1
  came : groups_came channels.V1 past ≡ brought bytes 0 (length (replies_in past))

pub record Whole (bytes : List ℕ) (past : List ClientEvent) : Type 0 where
  whole : ℕ
  due : jobs_due past ≡ rounds whole
  some : 1 ≤ whole
  least : whole ≤ length (replies_in past)
  most : whole ≤ reads_count bytes
  short : whole < length (replies_in past) → reads_count bytes ≤ whole
  last : 32 * whole ≤ jobs_completed past → reads_count bytes ≤ length (replies_in past)
  asked : whole < sent past → 32 * whole ≤ jobs_completed past
  next : sent past ≤ length (replies_in past) + 1
  count : ℕ
  came : groups_came channels.V1 past ≡ brought bytes 0 count
  before : jobs_completed past < 32 * whole → count + 1 ≡ whole
  after : 32 * whole ≤ jobs_completed past → count ≡ whole

-- that a request is due says that all are answered, and that the round before is over
between : (past : List ClientEvent) (q : Request) → next_request channels.V1 past ≡ Some q → (length (answers past).unanswered ≡ 0) × (1 ≤ sent past → 32 * sent past ≤ jobs_completed past)
between past q e = by_tests (has_failed past || has_ended (requests_sent past)) (are_answered past) (sent past == 0) (nat_le (32 * sent past) (jobs_completed past)) refl refl refl e where
  by_tests : (a b c d : Bool) → are_answered past ≡ b → (sent past == 0) ≡ c → nat_le (32 * sent past) (jobs_completed past) ≡ d
      → cond a None (cond (not (b && (c || d))) None (cond (goes_on past) (read_due channels.V1 past) (Some (end_request (sent past + 1) (sum_of (counts_taken past)))))) ≡ Some q
      → (length (answers past).unanswered ≡ 0) × (1 ≤ sent past → 32 * sent past ≤ jobs_completed past)
  by_tests true b c d x y z h = absurd (let k : ⊥ = cc in k)
  by_tests false false c d x y z h = absurd (let k : ⊥ = cc in k)
  by_tests false true false false x y z h = absurd (let k : ⊥ = cc in k)
  by_tests false true true d x y z h = (zero_is (length (answers past).unanswered) x, λ some. absurd (let k : ⊥ = omega (arith, some, zero_is (sent past) y) in k)) where
    zero_is : (n : ℕ) → (n == 0) ≡ true → n ≡ 0
    zero_is n t = grind (arith, nat_tests)
  by_tests false true false true x y z h = (zero_is (length (answers past).unanswered) x, λ some. at_least (32 * sent past) (jobs_completed past) z) where
    zero_is : (n : ℕ) → (n == 0) ≡ true → n ≡ 0
    zero_is n t = grind (arith, nat_tests)

    at_least : (n m : ℕ) → nat_le n m ≡ true → n ≤ m
    at_least n m t = grind (arith, nat_tests)

rounds-sent : (bytes : List ℕ) (q : Request) (past : List ClientEvent) → next_request channels.V1 past ≡ Some q → Fares bytes past → Begun bytes past ⊎ Whole bytes past
    → Begun bytes (Sent q ∷ past) ⊎ Whole bytes (Sent q ∷ past)
rounds-sent bytes q past e f s = by_case s where
  b : (length (answers past).unanswered ≡ 0) × (1 ≤ sent past → 32 * sent past ≤ jobs_completed past)
  b = between past q e

  all : length (replies_in past) ≡ sent past
  all = (let few = f.few in let none = b.0 in omega (arith, few, none, ap length f.waiting, length-drop (length (replies_in past)) (requests_sent past)))

  more : length (requests_sent past ++ q ∷ []) ≡ sent past + 1
  more = length-append (requests_sent past) (q ∷ [])

  by_case : Begun bytes past ⊎ Whole bytes past → Begun bytes (Sent q ∷ past) ⊎ Whole bytes (Sent q ∷ past)
  by_case (inl g) = inl (record { due = g.due; more = g.more; done = g.done; next = omega (arith, all, more); came = g.came })
  by_case (inr w) = inr (record {
    whole = w.whole;
    due = w.due;
    some = w.some;
    least = w.least;
    most = w.most;
    short = w.short;
    last = w.last;
    asked = λ h. (let some = w.some in let least = w.least in let k = b.1 (omega (arith, some, least, all)) in omega (arith, k, least, all));
    next = omega (arith, all, more);
    count = w.count;
    came = w.came;
    before = w.before;
    after = w.after;
  })

bounded : (past : List ClientEvent) → IsGet channels.V1 past → jobs_completed past ≤ length (jobs_due past)
bounded past p =
    let f = given_front past p in
    omega (arith, jobs_counted channels.V1 past p, ap length f.1, length-append (jobs_given past) f.0)

begun_replied : (bytes m : List ℕ) (past : List ClientEvent) (r : Request) → Begun bytes past → RunCase channels.V1 bytes (length (replies_in past)) r → length (replies_in past) < sent past
    → length (replies_in past ++ m ∷ []) ≡ suc (length (replies_in past)) → jobs_completed past ≤ length (jobs_due past)
    → if_taken (reply_fault (answers past) m) (unloads_of_first (answers past).unanswered) ≡ unloads_of r.descriptors → groups_came channels.V1 past ++ [] ≡ groups_came channels.V1 past
    → Whole bytes (Replied m ∷ past)
unfolding RunCase
begun_replied bytes m past r g (inr x) less more few added same = absurd (let a = x.0 in let b = g.more in let c : ⊥ = omega (arith, a, b) in c)
begun_replied bytes m past r g (inl x) less more few added same =
    let j : ℕ = length (replies_in past) in
    let size : length (jobs_due past) ≡ 32 * j + 16 = ap length g.due ∙ length-append (rounds j) (page_loads 16 0) ∙ (let z : length (rounds j) + length (page_loads 16 0) ≡ 32 * j + 16 = omega (arith, length-rounds j, length-loads 16 0) in z) in
    let next = g.next in let within_reads = x.0 in
    record {
      whole = suc j;
      due = ap (λ (ws : List Work). ws ++ if_taken (reply_fault (answers past) m) (unloads_of_first (answers past).unanswered)) g.due
          ∙ ap (λ (ws : List Work). (rounds j ++ page_loads 16 0) ++ ws) (added ∙ ap (λ (q : Request). unloads_of q.descriptors) x.1);
      some = omega arith;
      least = omega (arith, more);
      most = omega (arith, within_reads);
      short = λ h. absurd (let b : ⊥ = omega (arith, h, more) in b);
      last = λ h. absurd (let b : ⊥ = omega (arith, h, few, size) in b);
      asked = λ h. absurd (let b : ⊥ = omega (arith, h, next) in b);
      next = omega (arith, next, more);
      count = j;
      came = same ∙ g.came;
      before = λ h. (let z : j + 1 ≡ suc j = omega arith in z);
      after = λ h. absurd (let b : ⊥ = omega (arith, h, few, size) in b);
    }

whole_replied : (bytes m : List ℕ) (past : List ClientEvent) (r : Request) → Whole bytes past → RunCase channels.V1 bytes (length (replies_in past)) r → length (replies_in past) < sent past
    → length (replies_in past ++ m ∷ []) ≡ suc (length (replies_in past))
    → if_taken (reply_fault (answers past) m) (unloads_of_first (answers past).unanswered) ≡ unloads_of r.descriptors → groups_came channels.V1 past ++ [] ≡ groups_came channels.V1 past
    → Whole bytes (Replied m ∷ past)
unfolding RunCase
whole_replied bytes m past r w (inl x) less more added same =
    absurd (let least = w.least in let a = x.0 in let b = w.last (w.asked (omega (arith, least, less))) in let c : ⊥ = omega (arith, a, b) in c)
whole_replied bytes m past r w (inr x) less more added same =
    let least = w.least in let next = w.next in let most = w.most in let short = w.short in
    let over : reads_count bytes ≤ length (replies_in past) = w.last (w.asked (omega (arith, least, less))) in
    record {
      whole = w.whole;
      due = ap (λ (ws : List Work). jobs_due past ++ ws) (added ∙ ap (λ (q : Request). unloads_of q.descriptors) x.1) ∙ append-nil (jobs_due past) ∙ w.due;
      some = w.some;
      least = omega (arith, least, more);
      most = most;
      short = λ h. (let at = x.0 in by_rest (nat_lt w.whole (length (replies_in past))) refl at);
      last = λ h. omega (arith, over, more);
      asked = w.asked;
      next = omega (arith, next, more);
      count = w.count;
      came = same ∙ w.came;
      before = w.before;
      after = w.after;
    }
  where
    by_rest : (t : Bool) → nat_lt w.whole (length (replies_in past)) ≡ t → length (replies_in past) ≡ reads_count bytes → reads_count bytes ≤ w.whole
    by_rest true t at = w.short (let z : w.whole < length (replies_in past) = grind (arith, nat_tests) in z)
    by_rest false t at = (let z : length (replies_in past) ≤ w.whole = grind (arith, nat_tests) in omega (arith, z, at))

rounds-replied : (bytes : List ℕ) (m : List ℕ) (past : List ClientEvent) → IsGet channels.V1 past → reply_fault (answers past) m ≡ None → (answers past).fault ≡ None → Fares bytes past
    → Begun bytes past ⊎ Whole bytes past → Begun bytes (Replied m ∷ past) ⊎ Whole bytes (Replied m ∷ past)
rounds-replied bytes m past p e none f s = by_open (answers past).unanswered refl where
  more : length (replies_in past ++ m ∷ []) ≡ suc (length (replies_in past))
  more = length-append (replies_in past) (m ∷ []) ∙ add-one (length (replies_in past))

  fault_found : (fault found : Option ReplyFault) → lasting_or fault found ≡ None → found ≡ None
  fault_found None found h = h
  fault_found (Some x) found h = absurd (let b : ⊥ = cc in b)

  few_jobs : jobs_completed past ≤ length (jobs_due past)
  few_jobs = bounded past p

  came_same : groups_came channels.V1 past ++ [] ≡ groups_came channels.V1 past
  came_same = append-nil (groups_came channels.V1 past)

  by_open : (rs : List Request) → (answers past).unanswered ≡ rs → Begun bytes (Replied m ∷ past) ⊎ Whole bytes (Replied m ∷ past)
  by_open [] u = absurd (let h : fault_of_reply (answers past).unanswered m ≡ None = fault_found (answers past).fault (fault_of_reply (answers past).unanswered m) e in
      let k : fault_of_reply [] m ≡ None = ap (λ (rs : List Request). fault_of_reply rs m) (sym u) ∙ h in let b : ⊥ = cc in b)
  by_open (r ∷ later) u = by_case s where
    l : (slice_get (requests_sent past) (length (replies_in past)) ≡ Some r) × (drop (suc (length (replies_in past))) (requests_sent past) ≡ later)
    l = left_at (length (replies_in past)) (requests_sent past) r later (sym f.waiting ∙ u)

    less : length (replies_in past) < sent past
    less = within (requests_sent past) (length (replies_in past)) r l.0

    at : RunCase channels.V1 bytes (length (replies_in past)) r
    at = run_case channels.V1 bytes (length (replies_in past)) r (get_of_front (sent past) (get_requests channels.V1 bytes) (length (replies_in past)) r (ap (λ (rs : List Request). slice_get rs (length (replies_in past))) (sym f.front) ∙ l.0))

    added : if_taken (reply_fault (answers past) m) (unloads_of_first (answers past).unanswered) ≡ unloads_of r.descriptors
    added = ap (λ (o : Option ReplyFault). if_taken o (unloads_of_first (answers past).unanswered)) e ∙ ap unloads_of_first u

    by_case : Begun bytes past ⊎ Whole bytes past → Begun bytes (Replied m ∷ past) ⊎ Whole bytes (Replied m ∷ past)
    by_case (inl g) = inr (begun_replied bytes m past r g at less more few_jobs added came_same)
    by_case (inr w) = inr (whole_replied bytes m past r w at less more added came_same)

-- ---- a job of a round is completed

prefix_whole : (xs ys : List Work) → IsPrefix xs ys → length ys ≤ length xs → xs ≡ ys
prefix_whole xs ys p h = sym (append-nil xs) ∙ ap (λ (t : List Work). xs ++ t) (sym (none p.0 (omega (arith, h, ap length p.1, length-append xs p.0)))) ∙ p.1 where
  none : (t : List Work) → length t ≤ 0 → t ≡ []
  none [] k = refl
  none (x ∷ t) k = absurd (omega (arith, k))

unequal : (a b : ℕ) → (a ≡ b → ⊥) → (a == b) ≡ false
unequal a b h = by_test (a == b) refl where
  by_test : (t : Bool) → (a == b) ≡ t → (a == b) ≡ false
  by_test true e = absurd (h (grind (arith, nat_tests)))
  by_test false e = e

-- the jobs that were given and completed, before one more is
record OneMore (past : List ClientEvent) : Type 0 where
  given : jobs_completed past + 1 ≤ length (jobs_given past)
  due : length (jobs_given past) ≤ length (jobs_due past)

one_more : (c : Completion) (past : List ClientEvent) → IsGet channels.V1 past → AnswersJob past c → OneMore past
one_more c past p a =
    let f = given_front past p in
    record {
      given = omega (arith, jobs_counted channels.V1 past p, length-without c.number (open_jobs past) a.work a.is_open);
      due = omega (arith, ap length f.1, length-append (jobs_given past) f.0);
    }

begun_completed : (bytes : List ℕ) (c : Completion) (past : List ClientEvent) → OneMore past → Begun bytes past → Begun bytes (Completed c ∷ past)
begun_completed bytes c past o g =
    let j : ℕ = length (replies_in past) in
    let given = o.given in let due = o.due in let done = g.done in
    let size : length (jobs_due past) ≡ 32 * j + 16 = ap length g.due ∙ length-append (rounds j) (page_loads 16 0) ∙ (let z : length (rounds j) + length (page_loads 16 0) ≡ 32 * j + 16 = omega (arith, length-rounds j, length-loads 16 0) in z) in
    let not_now : (jobs_completed past + 1 == 32 * sent past) ≡ false = unequal (jobs_completed past + 1) (32 * sent past) (λ e. omega (arith, e, given, due, done, size)) in
    record {
      due = ap (λ (t : Bool). jobs_due past ++ cond (t && goes_on past) (page_loads 16 0) []) not_now ∙ append-nil (jobs_due past) ∙ g.due;
      more = g.more;
      done = omega (arith, done);
      next = g.next;
      came = ap (λ (t : Bool). groups_came channels.V1 past ++ cond t (some_bytes (take (last_count (counts_taken past)) (pages_back 16 (jobs_completed past + 1 - 16) (Completed c ∷ past)))) []) not_now
          ∙ append-nil (groups_came channels.V1 past) ∙ g.came;
    }

-- the pages of the round that is over
group_is : (bytes : List ℕ) (c : Completion) (past : List ClientEvent) (k : ℕ) → IsGet channels.V1 (Completed c ∷ past) → UnloadsBring (page_placed bytes) (Completed c ∷ past)
    → jobs_completed past + 1 ≡ 32 * suc k → jobs_due past ≡ rounds (suc k) → OneMore past
    → last_count (counts_taken past) ≡ length (take 65536 (drop (65536 * k) bytes))
    → take (last_count (counts_taken past)) (pages_back 16 (jobs_completed past + 1 - 16) (Completed c ∷ past)) ≡ take 65536 (drop (65536 * k) bytes)
group_is bytes c past k p h all due o count =
    let given = o.given in let within_due = o.due in
    let size : length (jobs_due past) ≡ 32 * suc k = ap length due ∙ length-rounds (suc k) in
    let same : jobs_given past ≡ rounds (suc k) = prefix_whole (jobs_given past) (jobs_due past) (given_front past p.1) (omega (arith, size, given, all)) ∙ due in
    let n : ℕ = jobs_completed past + 1 - 16 in
    let pages : pages_back 16 n (Completed c ∷ past) ≡ flat_map (brought_by (page_placed bytes)) (take 16 (drop n (jobs_given past))) =
    pages_back_of channels.V1 (page_placed bytes) (Completed c ∷ past) 16 n p h (let z : jobs_completed past + 1 ≡ length (jobs_given past) = omega (arith, all, ap length same, length-rounds (suc k)) in z)
    (let z : n + 16 ≤ length (jobs_given past) = omega (arith, all, ap length same, length-rounds (suc k)) in z) in
    let last : take 16 (drop n (jobs_given past)) ≡ unloads_of (read_descriptors 16 0 (k + 1)) = ap (λ (ws : List Work). take 16 (drop n ws)) same ∙ last_unloads k n (omega (arith, all)) in
    let holds : pages_back 16 n (Completed c ∷ past) ≡ held bytes k 16 0 = pages ∙ ap (flat_map (brought_by (page_placed bytes))) last ∙ unloads_hold bytes k 16 0 (let z : 0 + 16 ≤ 16 = omega arith in z) in
    let at : 65536 * k + 4096 * 0 ≡ 65536 * k = omega arith in
    ap (take (last_count (counts_taken past))) holds
    ∙ ap (λ (m : ℕ). take m (held bytes k 16 0)) (count ∙ ap (λ (x : ℕ). length (take 65536 (drop x bytes))) (sym at))
    ∙ front_held bytes k 16 0 ∙ ap (λ (x : ℕ). take 65536 (drop x bytes)) at

whole_completed : (bytes : List ℕ) (c : Completion) (past : List ClientEvent) → IsGet channels.V1 (Completed c ∷ past) → UnloadsBring (page_placed bytes) (Completed c ∷ past)
    → Fares bytes past → OneMore past → Whole bytes past → Begun bytes (Completed c ∷ past) ⊎ Whole bytes (Completed c ∷ past)
whole_completed bytes c past p h f o w = by_now (jobs_completed past + 1 == 32 * sent past) refl where
  group : List ℕ
  group = take (last_count (counts_taken past)) (pages_back 16 (jobs_completed past + 1 - 16) (Completed c ∷ past))

  bound : jobs_completed past + 1 ≤ 32 * w.whole
  bound = (let given = o.given in let due = o.due in omega (arith, given, due, ap length w.due, length-rounds w.whole))

  by_now : (t : Bool) → (jobs_completed past + 1 == 32 * sent past) ≡ t → Begun bytes (Completed c ∷ past) ⊎ Whole bytes (Completed c ∷ past)
  by_now false t = inr (record {
    whole = w.whole;
    due = ap (λ (b : Bool). jobs_due past ++ cond (b && goes_on past) (page_loads 16 0) []) t ∙ append-nil (jobs_due past) ∙ w.due;
    some = w.some;
    least = w.least;
    most = w.most;
    short = w.short;
    last = λ k. w.last (still k);
    asked = λ k. (let a = w.asked k in omega (arith, a));
    next = w.next;
    count = w.count;
    came = ap (λ (b : Bool). groups_came channels.V1 past ++ cond b (some_bytes group) []) t ∙ append-nil (groups_came channels.V1 past) ∙ w.came;
    before = λ k. w.before (omega (arith, k));
    after = λ k. w.after (still k);
  }) where
    not_equal : jobs_completed past + 1 ≡ 32 * sent past → ⊥
    not_equal e = (let x : (jobs_completed past + 1 == 32 * sent past) ≡ true = grind (arith, nat_tests) in both x t) where
      both : {b : Bool} → b ≡ true → b ≡ false → ⊥
      both x y = cc

    still : 32 * w.whole ≤ jobs_completed past + 1 → 32 * w.whole ≤ jobs_completed past
    still k = by_more (nat_lt w.whole (sent past)) refl where
      by_more : (b : Bool) → nat_lt w.whole (sent past) ≡ b → 32 * w.whole ≤ jobs_completed past
      by_more true e = w.asked (let z : w.whole < sent past = grind (arith, nat_tests) in z)
      by_more false e =
          let more : sent past ≤ w.whole = grind (arith, nat_tests) in
          let least = w.least in let few = f.few in
          absurd (not_equal (omega (arith, more, least, few, k, bound)))
  by_now true t = by_count w.count refl where
    equal_now : jobs_completed past + 1 ≡ 32 * sent past
    equal_now = grind (arith, nat_tests)

    whole_is : w.whole ≡ sent past
    whole_is = (let least = w.least in let few = f.few in omega (arith, bound, equal_now, least, few))

    replies_are : length (replies_in past) ≡ w.whole
    replies_are = (let least = w.least in let few = f.few in omega (arith, whole_is, least, few))

    count_is : w.count + 1 ≡ w.whole
    count_is = w.before (omega (arith, bound))

    by_count : (k : ℕ) → w.count ≡ k → Begun bytes (Completed c ∷ past) ⊎ Whole bytes (Completed c ∷ past)
    by_count k e = by_goes (nat_lt (length (replies_in past)) (reads_count bytes)) refl where
      now : w.whole ≡ suc k
      now = omega (arith, count_is, e)

      at : length (replies_in past) - 1 ≡ k
      at = omega (arith, replies_are, now)

      counted_so : last_count (counts_taken past) ≡ length (take 65536 (drop (65536 * k) bytes))
      counted_so = f.last (omega (arith, replies_are, now)) (let most = w.most in omega (arith, most, replies_are)) ∙ ap (λ (x : ℕ). length (take 65536 (drop (65536 * x) bytes))) at

      came_now : groups_came channels.V1 past ++ cond (jobs_completed past + 1 == 32 * sent past) (some_bytes group) [] ≡ brought bytes 0 (suc k)
      came_now =
          ap (λ (b : Bool). groups_came channels.V1 past ++ cond b (some_bytes group) []) t
          ∙ ap (λ (gs : List (List ℕ)). gs ++ some_bytes group) (w.came ∙ ap (brought bytes 0) e)
          ∙ ap (λ (g : List ℕ). brought bytes 0 k ++ some_bytes g) (group_is bytes c past k p h (omega (arith, equal_now, whole_is, now)) (w.due ∙ ap rounds now) o counted_so)
          ∙ ap (λ (x : ℕ). brought bytes 0 k ++ some_bytes (take 65536 (drop (65536 * x) bytes))) (let z : k ≡ 0 + k = omega arith in z) ∙ brought-more bytes 0 k

      by_goes : (b : Bool) → nat_lt (length (replies_in past)) (reads_count bytes) ≡ b → Begun bytes (Completed c ∷ past) ⊎ Whole bytes (Completed c ∷ past)
      by_goes true q =
          let less : length (replies_in past) < reads_count bytes = grind (arith, nat_tests) in
          let next = w.next in
          inl (record {
            due = ap (λ (b : Bool). jobs_due past ++ cond (b && goes_on past) (page_loads 16 0) []) t ∙ ap (λ (b : Bool). jobs_due past ++ cond b (page_loads 16 0) []) (f.goes less)
                ∙ ap (λ (ws : List Work). ws ++ page_loads 16 0) (w.due ∙ ap rounds (sym replies_are));
            more = less;
            done = omega (arith, equal_now, whole_is, replies_are);
            next = next;
            came = came_now ∙ ap (brought bytes 0) (let z : suc k ≡ length (replies_in past) = omega (arith, replies_are, now) in z);
          })
      by_goes false q =
          let over : reads_count bytes ≤ length (replies_in past) = grind (arith, nat_tests) in
          let most = w.most in
          let exactly : length (replies_in past) ≡ reads_count bytes = omega (arith, over, most, replies_are) in
          inr (record {
            whole = w.whole;
            due = ap (λ (b : Bool). jobs_due past ++ cond (b && goes_on past) (page_loads 16 0) []) t ∙ ap (λ (b : Bool). jobs_due past ++ cond b (page_loads 16 0) []) (f.stops exactly)
                ∙ append-nil (jobs_due past) ∙ w.due;
            some = w.some;
            least = w.least;
            most = w.most;
            short = w.short;
            last = λ x. over;
            asked = λ x. (let z : 32 * w.whole ≤ jobs_completed past + 1 = omega (arith, equal_now, whole_is) in z);
            next = w.next;
            count = suc k;
            came = came_now;
            before = λ x. absurd (let b : ⊥ = omega (arith, x, equal_now, whole_is) in b);
            after = λ x. (let z : suc k ≡ w.whole = omega (arith, now) in z);
          })

-- ---- the whole past

none_before : (fault found : Option ReplyFault) → lasting_or fault found ≡ None → fault ≡ None
none_before None found e = refl
none_before (Some f) found e = absurd (let b : ⊥ = cc in b)

taken_now : (o : Option ReplyFault) (a : Answers) → (replied o a).fault ≡ None → o ≡ None
taken_now None a h = refl
taken_now (Some f) a h = absurd (let b : ⊥ = cc in b)

stands : (bytes : List ℕ) (past : List ClientEvent) → IsCopyable bytes → IsGet channels.V1 past → HasPoolTokens past → IsAnswered channels.V1 bytes past → UnloadsBring (page_placed bytes) past
    → (answers past).fault ≡ None → Begun bytes past ⊎ Whole bytes past
unfolding brought
stands bytes [] few p k r u none = inl (record { due = refl; more = (let z : 0 < reads_count bytes = omega arith in z); done = (let z : 32 * 0 ≤ 0 = omega arith in z); next = (let z : 0 ≤ 0 + 1 = omega arith in z); came = refl })
stands bytes (Group b ∷ past) few p k r u none = absurd p.0
stands bytes (End ∷ past) few p k r u none = absurd p.0
stands bytes (Sent q ∷ past) few p k r u none = rounds-sent bytes q past p.0 (fares bytes past few p.1 k r none) (stands bytes past few p.1 k r u none)
stands bytes (Replied m ∷ past) few p k r u none =
    let e : reply_fault (answers past) m ≡ None = taken_now (reply_fault (answers past) m) (answers past) none in
    let before : (answers past).fault ≡ None = none_before (answers past).fault (fault_of_reply (answers past).unanswered m) e in
    let r_before = prefix_before (replies_in past) m _ r in
    rounds-replied bytes m past p.1 e before (fares bytes past few p.1 k r_before before) (stands bytes past few p.1 k r_before u before)
stands bytes (Gave work ∷ past) few p k r u none = same (stands bytes past few p.1 k r u none) where
  same : Begun bytes past ⊎ Whole bytes past → Begun bytes (Gave work ∷ past) ⊎ Whole bytes (Gave work ∷ past)
  same (inl g) = inl (record { due = g.due; more = g.more; done = g.done; next = g.next; came = g.came })
  same (inr w) = inr (record { whole = w.whole; due = w.due; some = w.some; least = w.least; most = w.most; short = w.short; last = w.last; asked = w.asked; next = w.next; count = w.count; came = w.came; before = w.before; after = w.after })
stands bytes (Completed c ∷ past) few p k r u none = by_case (stands bytes past few p.1 k.1 r u.1 none) (fares bytes past few p.1 k.1 r none) where
  by_case : Begun bytes past ⊎ Whole bytes past → Fares bytes past → Begun bytes (Completed c ∷ past) ⊎ Whole bytes (Completed c ∷ past)
  by_case (inl g) f = inl (begun_completed bytes c past (one_more c past p.1 p.0) g)
  by_case (inr w) f = whole_completed bytes c past p u f (one_more c past p.1 p.0) w
stands bytes (Received b ∷ past) few p k r u none = same (stands bytes past few p.1 k r u none) where
  same : Begun bytes past ⊎ Whole bytes past → Begun bytes (Received b ∷ past) ⊎ Whole bytes (Received b ∷ past)
  same (inl g) = inl (record { due = g.due; more = g.more; done = g.done; next = g.next; came = g.came })
  same (inr w) = inr (record { whole = w.whole; due = w.due; some = w.some; least = w.least; most = w.most; short = w.short; last = w.last; asked = w.asked; next = w.next; count = w.count; came = w.came; before = w.before; after = w.after })

-- so many READs brought what came
Came : List ℕ → List ClientEvent → Type 0
Came bytes past = (count : ℕ) × (groups_came channels.V1 past ≡ brought bytes 0 count)

came_of : (bytes : List ℕ) (past : List ClientEvent) → Begun bytes past ⊎ Whole bytes past → Came bytes past
unfolding Came
came_of bytes past (inl g) = (length (replies_in past), g.came)
came_of bytes past (inr w) = (w.count, w.came)

record GivenGroup (past : List ClientEvent) (b : List ℕ) : Type 0 where
  fine : (answers past).fault ≡ None
  group : slice_get (groups_came channels.V1 past) (groups_received past) ≡ Some b

given_group : (past : List ClientEvent) (b : List ℕ) → next_group channels.V1 past ≡ Some b → GivenGroup past b
given_group past b e = by_fault (answers past).fault refl e where
  by_fault : (o : Option ReplyFault) → (answers past).fault ≡ o → cond (is_some o) None (slice_get (groups_came channels.V1 past) (groups_received past)) ≡ Some b → GivenGroup past b
  by_fault (Some f) h k = absurd (let x : ⊥ = cc in x)
  by_fault None h k = record { fine = h; group = k }

record Taken (bytes : List ℕ) (past : List ClientEvent) : Type 0 where
  taken : groups_taken past ≡ take (length (groups_taken past)) (groups_of bytes)
  received : groups_received past ≡ length (groups_taken past)

takes : (bytes : List ℕ) (past : List ClientEvent) → IsCopyable bytes → IsGet channels.V1 past → HasPoolTokens past → IsAnswered channels.V1 bytes past → UnloadsBring (page_placed bytes) past
    → Taken bytes past
unfolding Came
takes bytes [] few p k r u = record { taken = refl; received = refl }
takes bytes (Group b ∷ past) few p k r u = absurd p.0
takes bytes (End ∷ past) few p k r u = absurd p.0
takes bytes (Sent q ∷ past) few p k r u = let t = takes bytes past few p.1 k r u in record { taken = t.taken; received = t.received }
takes bytes (Replied m ∷ past) few p k r u = let t = takes bytes past few p.1 k (prefix_before (replies_in past) m _ r) u in record { taken = t.taken; received = t.received }
takes bytes (Gave work ∷ past) few p k r u = let t = takes bytes past few p.1 k r u in record { taken = t.taken; received = t.received }
takes bytes (Completed c ∷ past) few p k r u = let t = takes bytes past few p.1 k.1 r u.1 in record { taken = t.taken; received = t.received }
takes bytes (Received b ∷ past) few p k r u =
    let t = takes bytes past few p.1 k r u in
    let g = given_group past b p.0 in
    let c = came_of bytes past (stands bytes past few p.1 k r u g.fine) in
    let front = front-of-parts bytes 0 c.0 ((length bytes + 65535) / 65536) (omega arith) in
    let n : ℕ = length (groups_taken past) in
    let more : length (groups_taken past ++ b ∷ []) ≡ suc n = length-append (groups_taken past) (b ∷ []) ∙ add-one n in
    let at : slice_get (groups_of bytes) n ≡ Some b =
    ap (slice_get (groups_of bytes)) (sym t.received) ∙ ap (λ (gs : List (List ℕ)). slice_get gs (groups_received past)) (sym front.1)
    ∙ get_in_front (brought bytes 0 c.0) front.0 (groups_received past) b (ap (λ (gs : List (List ℕ)). slice_get gs (groups_received past)) (sym c.1) ∙ g.group) in
    record {
      taken = ap (λ (gs : List (List ℕ)). gs ++ b ∷ []) t.taken ∙ sym (take_one_more n (groups_of bytes) b at) ∙ ap (λ (i : ℕ). take i (groups_of bytes)) (sym more);
      received = (let x = t.received in omega (arith, x, more));
    }

pub registered_gets_receive : RegisteredGetsReceive
registered_gets_receive bytes past few p k r u = front_of (length (groups_taken past)) (groups_taken past) (groups_of bytes) (takes bytes past few p k r u).taken
