-- A get gives no more groups than it heard replies.
use Rattle.std.proofs.Common.{◌≡◌, ℕ, zero, suc, ◌+◌, ◌-◌, ◌*◌, ◌≤◌, ◌==◌, ◌&&◌, Bool, true, false, cond, Option, Some, None, List, [], ◌∷◌, ◌++◌, length, take, refl, sym, ap, subst, arith, length-append}
use Rattle.std.specs.Prelude.{slice_get, if◌then◌else◌}
use mathlib.Core.List.{IsPrefix}
use Rattle.std.proofs.lemmas.Bool.Decides.{nat_tests}
use Rattle.std.proofs.lemmas.List.{length-map}
use Rattle.file_messages.specs.declared.kind.Channel.{Channel}
use Rattle.file_messages.specs.declared.kind.Channel.TheVariants as channels
use Rattle.file_messages.specs.declared.fault.ReplyFault.{ReplyFault}
use Rattle.file_messages.specs.declared.message.Request.{Request}
use Rattle.file_messages.specs.declared.job.Work.{Work}
use Rattle.file_messages.specs.declared.job.Work.TheVariants.{Unload}
use Rattle.file_messages.specs.declared.job.Job.{Job}
use Rattle.file_messages.specs.declared.job.Completion.{Completion}
use Rattle.file_messages.specs.Runs.{read_descriptors, reads_from, reads_count, end_request, get_requests}
use Rattle.file_pasts.specs.ClientPast.{ClientEvent, Group, End, Sent, Replied, Gave, Completed, Received, requests_sent, jobs_given, open_jobs, job_at, reply_fault, answers, has_failed, token_of_descriptor, AnswersJob}
use Rattle.file_pasts.specs.PutDue.{if_taken, unloads_of_first}
use Rattle.file_pasts.specs.PutPages.{requests_replied}
use Rattle.file_pasts.specs.GetDue.{sent, counts_taken, last_count, goes_on, jobs_completed, page_loads, jobs_due, pages_back, some_bytes, bytes_carried, groups_came, groups_received, next_group, IsGet}
use Rattle.file_pasts.specs.GetLaws.{replies_in, groups_taken}
use Rattle.file_pasts.proofs.Lists.{within}
use Rattle.file_pasts.proofs.PutPageLaws.{requests_answered}
use Rattle.file_pasts.proofs.GetPages.{given_front}
use Rattle.file_pasts.proofs.GetGroups.{no_jobs}
use Rattle.file_pasts.proofs.GetPagesBack.{length-without, jobs_counted}
use Rattle.copy_laws.proofs.Eaches.{Each, each-append, each-front, each-back}

-- ---- what was given came

longer : {X : Type 0} (n : ℕ) (xs ys : List X) → n ≤ length xs → n ≤ length (xs ++ ys)
longer n xs ys h = omega (arith, h, length-append xs ys)

received-taken : (past : List ClientEvent) → groups_received past ≡ length (groups_taken past)
received-taken [] = refl
received-taken (Group bytes ∷ past) = received-taken past
received-taken (End ∷ past) = received-taken past
received-taken (Sent r ∷ past) = received-taken past
received-taken (Replied m ∷ past) = received-taken past
received-taken (Gave work ∷ past) = received-taken past
received-taken (Completed c ∷ past) = received-taken past
received-taken (Received bytes ∷ past) =
    let more : length (groups_taken past ++ bytes ∷ []) ≡ length (groups_taken past) + 1 = length-append (groups_taken past) (bytes ∷ []) in
    omega (arith, more, received-taken past)

group-there : (channel : Channel) (past : List ClientEvent) (bytes : List ℕ) → next_group channel past ≡ Some bytes → slice_get (groups_came channel past) (groups_received past) ≡ Some bytes
group-there channel past bytes e = by_failed (has_failed past) e where
  by_failed : (t : Bool) → cond t None (slice_get (groups_came channel past) (groups_received past)) ≡ Some bytes → slice_get (groups_came channel past) (groups_received past) ≡ Some bytes
  by_failed true h = absurd (let b : ⊥ = cc in b)
  by_failed false h = h

taken-few : (channel : Channel) (past : List ClientEvent) → IsGet channel past → length (groups_taken past) ≤ length (groups_came channel past)
taken-few channel [] g = omega arith
taken-few channel (Group bytes ∷ past) g = absurd g.0
taken-few channel (End ∷ past) g = absurd g.0
taken-few channel (Sent r ∷ past) g = taken-few channel past g.1
taken-few channel (Replied m ∷ past) g = longer (length (groups_taken past)) (groups_came channel past) _ (taken-few channel past g.1)
taken-few channel (Gave work ∷ past) g = taken-few channel past g.1
taken-few channel (Completed c ∷ past) g = longer (length (groups_taken past)) (groups_came channel past) _ (taken-few channel past g.1)
taken-few channel (Received bytes ∷ past) g =
    let more : length (groups_taken past ++ bytes ∷ []) ≡ length (groups_taken past) + 1 = length-append (groups_taken past) (bytes ∷ []) in
    omega (arith, more, received-taken past, within (groups_came channel past) (groups_received past) bytes (group-there channel past bytes g.0))

bytes-once : (bytes : List ℕ) → length (some_bytes bytes) ≤ 1
bytes-once [] = omega arith
bytes-once (b ∷ bytes) = (let z : length ((b ∷ bytes) ∷ []) ≤ 1 = omega arith in z)

-- ---- without registered pages each reply brings its group

came-inline : (past : List ClientEvent) → IsGet channels.None past → length (groups_came channels.None past) ≤ length (replies_in past)
came-inline [] g = omega arith
came-inline (Group bytes ∷ past) g = absurd g.0
came-inline (End ∷ past) g = absurd g.0
came-inline (Sent r ∷ past) g = came-inline past g.1
came-inline (Replied m ∷ past) g = by_fault (reply_fault (answers past) m) (came-inline past g.1) where
  brings : (o : Option ReplyFault) → length {A = List ℕ} (elim o [ None ↦ some_bytes (bytes_carried m) | Some fault ↦ [] ]) ≤ 1
  brings None = bytes-once (bytes_carried m)
  brings (Some fault) = omega arith

  by_fault : (o : Option ReplyFault) → length (groups_came channels.None past) ≤ length (replies_in past)
      → length (groups_came channels.None past ++ (elim o [ None ↦ some_bytes (bytes_carried m) | Some fault ↦ [] ])) ≤ length (replies_in past ++ m ∷ [])
  by_fault o few =
      let more : length (replies_in past ++ m ∷ []) ≡ length (replies_in past) + 1 = length-append (replies_in past) (m ∷ []) in
      omega (arith, more, few, brings o, length-append (groups_came channels.None past) (elim o [ None ↦ some_bytes (bytes_carried m) | Some fault ↦ [] ]))
came-inline (Gave work ∷ past) g = came-inline past g.1
came-inline (Completed c ∷ past) g = absurd (none (open_jobs past) (no_jobs past g.1) g.0.work g.0.is_open) where
  none : (jobs : List Job) → jobs ≡ [] → (work : Work) → job_at c.number jobs ≡ Some work → ⊥
  none [] e work h = cc
  none (job ∷ jobs) e work h = cc
came-inline (Received bytes ∷ past) g = came-inline past g.1

-- ---- over registered pages each round brings its group

-- how often the last page of a round was unloaded
abbrev rounds_over : List ClientEvent → ℕ
rounds_over [] = 0
rounds_over (Group bytes ∷ past) = rounds_over past
rounds_over (End ∷ past) = rounds_over past
rounds_over (Sent r ∷ past) = rounds_over past
rounds_over (Replied m ∷ past) = rounds_over past
rounds_over (Gave work ∷ past) = rounds_over past
rounds_over (Completed c ∷ past) = if jobs_completed past + 1 == 32 * sent past then rounds_over past + 1 else rounds_over past
rounds_over (Received bytes ∷ past) = rounds_over past

came-registered : (past : List ClientEvent) → length (groups_came channels.V1 past) ≤ rounds_over past
came-registered [] = omega arith
came-registered (Group bytes ∷ past) = came-registered past
came-registered (End ∷ past) = came-registered past
came-registered (Sent r ∷ past) = came-registered past
came-registered (Replied m ∷ past) = nothing-more (groups_came channels.V1 past) (rounds_over past) (came-registered past) where
  nothing-more : (gs : List (List ℕ)) (n : ℕ) → length gs ≤ n → length (gs ++ []) ≤ n
  nothing-more gs n h = (let same : length {A = List ℕ} (gs ++ []) ≡ length gs + 0 = length-append gs [] in omega (arith, same, h))
came-registered (Gave work ∷ past) = came-registered past
came-registered (Completed c ∷ past) = by_test (jobs_completed past + 1 == 32 * sent past) (came-registered past) where
  group : List ℕ
  group = take (last_count (counts_taken past)) (pages_back 16 (jobs_completed past + 1 - 16) (Completed c ∷ past))

  by_test : (t : Bool) → length (groups_came channels.V1 past) ≤ rounds_over past
      → length (groups_came channels.V1 past ++ cond t (some_bytes group) []) ≤ cond t (rounds_over past + 1) (rounds_over past)
  by_test true few = omega (arith, few, length-append (groups_came channels.V1 past) (some_bytes group), bytes-once group)
  by_test false few = (let same : length (groups_came channels.V1 past ++ []) ≡ length (groups_came channels.V1 past) + 0 = length-append (groups_came channels.V1 past) [] in omega (arith, few, same))
came-registered (Received bytes ∷ past) = came-registered past

-- a round has 32 jobs
rounds-done : (past : List ClientEvent) → 32 * rounds_over past ≤ jobs_completed past
rounds-done [] = omega arith
rounds-done (Group bytes ∷ past) = rounds-done past
rounds-done (End ∷ past) = rounds-done past
rounds-done (Sent r ∷ past) = rounds-done past
rounds-done (Replied m ∷ past) = rounds-done past
rounds-done (Gave work ∷ past) = rounds-done past
rounds-done (Completed c ∷ past) = by_test (jobs_completed past + 1 == 32 * sent past) refl (rounds-done past) where
  by_test : (t : Bool) → (jobs_completed past + 1 == 32 * sent past) ≡ t → 32 * rounds_over past ≤ jobs_completed past → 32 * cond t (rounds_over past + 1) (rounds_over past) ≤ jobs_completed past + 1
  by_test true e few =
      let now : jobs_completed past + 1 ≡ 32 * sent past = grind (arith, nat_tests) in
      let z : 32 * (rounds_over past + 1) ≤ jobs_completed past + 1 = omega (arith, now, few) in z
  by_test false e few = (let z : 32 * rounds_over past ≤ jobs_completed past + 1 = omega (arith, few) in z)
rounds-done (Received bytes ∷ past) = rounds-done past

-- ---- a round is over only once its READ has its reply: the Unloads come due with it

abbrev NamesFew : Request → Type 0
NamesFew r = length r.descriptors ≤ 16

length-loads : (count i : ℕ) → length (page_loads count i) ≡ count
length-loads zero i = refl
length-loads (suc count) i = ap suc (length-loads count (i + 1))

unloads-few : (o : Option ReplyFault) (rs : List Request) → Each NamesFew rs → length (if_taken o (unloads_of_first rs)) ≤ 16
unloads-few (Some fault) rs h = omega arith
unloads-few None [] h = omega arith
unloads-few None (r ∷ rs) h = (let few = h.0 in omega (arith, few, length-map r.descriptors (λ d. Unload (token_of_descriptor d))))

unanswered-few : (past : List ClientEvent) → Each NamesFew (requests_sent past) → Each NamesFew (answers past).unanswered
unanswered-few past h = each-back NamesFew (requests_replied past) (answers past).unanswered (subst (λ (rs : List Request). Each NamesFew rs) (requests_answered past) h)

due-few : (past : List ClientEvent) → Each NamesFew (requests_sent past) → length (jobs_due past) ≤ 16 + 16 * length (replies_in past) + 16 * rounds_over past
due-few [] h = omega (arith, length-loads 16 0)
due-few (Group bytes ∷ past) h = due-few past h
due-few (End ∷ past) h = due-few past h
due-few (Sent r ∷ past) h = due-few past (each-front NamesFew (requests_sent past) (r ∷ []) h)
due-few (Replied m ∷ past) h =
    let more : length (replies_in past ++ m ∷ []) ≡ length (replies_in past) + 1 = length-append (replies_in past) (m ∷ []) in
    let new = if_taken (reply_fault (answers past) m) (unloads_of_first (answers past).unanswered) in
    let few : length new ≤ 16 = unloads-few (reply_fault (answers past) m) (answers past).unanswered (unanswered-few past h) in
    omega (arith, more, few, length-append (jobs_due past) new, due-few past h)
due-few (Gave work ∷ past) h = due-few past h
due-few (Completed c ∷ past) h = by_test (jobs_completed past + 1 == 32 * sent past) (goes_on past) (due-few past h) where
  by_test : (t goes : Bool) → length (jobs_due past) ≤ 16 + 16 * length (replies_in past) + 16 * rounds_over past
      → length (jobs_due past ++ cond (t && goes) (page_loads 16 0) []) ≤ 16 + 16 * length (replies_in past) + 16 * cond t (rounds_over past + 1) (rounds_over past)
  by_test true true few = omega (arith, few, length-append (jobs_due past) (page_loads 16 0), length-loads 16 0)
  by_test true false few = (let same : length (jobs_due past ++ []) ≡ length (jobs_due past) + 0 = length-append (jobs_due past) [] in omega (arith, few, same))
  by_test false goes few = (let same : length (jobs_due past ++ []) ≡ length (jobs_due past) + 0 = length-append (jobs_due past) [] in omega (arith, few, same))
due-few (Received bytes ∷ past) h = due-few past h

-- the jobs that are completed, with one more, came due
one-more-due : (c : Completion) (past : List ClientEvent) → IsGet channels.V1 past → AnswersJob past c → jobs_completed past + 1 ≤ length (jobs_due past)
one-more-due c past g a =
    let front = given_front past g in
    let all : length (jobs_given past ++ front.0) ≡ length (jobs_due past) = ap length front.1 in
    omega (arith, all, length-append (jobs_given past) front.0, jobs_counted channels.V1 past g, length-without c.number (open_jobs past) a.work a.is_open)

rounds-few : (past : List ClientEvent) → IsGet channels.V1 past → Each NamesFew (requests_sent past) → rounds_over past ≤ length (replies_in past)
rounds-few [] g h = omega arith
rounds-few (Group bytes ∷ past) g h = absurd g.0
rounds-few (End ∷ past) g h = absurd g.0
rounds-few (Sent r ∷ past) g h = rounds-few past g.1 (each-front NamesFew (requests_sent past) (r ∷ []) h)
rounds-few (Replied m ∷ past) g h =
    let more : length (replies_in past ++ m ∷ []) ≡ length (replies_in past) + 1 = length-append (replies_in past) (m ∷ []) in
    omega (arith, more, rounds-few past g.1 h)
rounds-few (Gave work ∷ past) g h = rounds-few past g.1 h
rounds-few (Completed c ∷ past) g h = by_test (jobs_completed past + 1 == 32 * sent past) refl (rounds-done past) (due-few past h) (rounds-few past g.1 h) where
  by_test : (t : Bool) → (jobs_completed past + 1 == 32 * sent past) ≡ t → 32 * rounds_over past ≤ jobs_completed past
      → length (jobs_due past) ≤ 16 + 16 * length (replies_in past) + 16 * rounds_over past → rounds_over past ≤ length (replies_in past)
      → cond t (rounds_over past + 1) (rounds_over past) ≤ length (replies_in past)
  by_test true e done due few =
      let now : jobs_completed past + 1 ≡ 32 * sent past = grind (arith, nat_tests) in
      let z : rounds_over past + 1 ≤ length (replies_in past) = omega (arith, now, done, due, one-more-due c past g.1 g.0) in z
  by_test false e done due few = few
rounds-few (Received bytes ∷ past) g h = rounds-few past g.1 h

-- ---- of either channel

length-named : (count i k : ℕ) → length (read_descriptors count i k) ≡ count
length-named zero i k = refl
length-named (suc count) i k = ap suc (length-named count (i + 1) k)

reads-name-few : (count k : ℕ) → Each NamesFew (reads_from channels.V1 count k)
reads-name-few zero k = tt
reads-name-few (suc count) k = ((let z : length (read_descriptors 16 0 k) ≤ 16 = omega (arith, length-named 16 0 k) in z), reads-name-few count (k + 1))

gets-name-few : (bytes : List ℕ) (sent : List Request) → IsPrefix sent (get_requests channels.V1 bytes) → Each NamesFew sent
gets-name-few bytes sent p =
    let end = end_request (reads_count bytes + 1) (length bytes) in
    let nothing : NamesFew end = omega arith in
    each-front NamesFew sent p.0
    (subst (λ (rs : List Request). Each NamesFew rs) (sym p.1)
    (each-append NamesFew (reads_from channels.V1 (reads_count bytes) 1) (end ∷ []) (reads-name-few (reads_count bytes) 1) (nothing, tt)))

pub groups-heard : (channel : Channel) (bytes : List ℕ) (past : List ClientEvent) → IsGet channel past → IsPrefix (requests_sent past) (get_requests channel bytes)
    → length (groups_taken past) ≤ length (replies_in past)
groups-heard channels.None bytes past g asked = omega (arith, taken-few channels.None past g, came-inline past g)
groups-heard channels.V1 bytes past g asked =
    omega (arith, taken-few channels.V1 past g, came-registered past, rounds-few past g (gets-name-few bytes (requests_sent past) asked))
