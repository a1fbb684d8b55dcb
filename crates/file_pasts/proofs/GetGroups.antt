-- The groups that the client of a get without registered pages gives are those of the bytes.
use Rattle.std.proofs.Common.{◌≡◌, inl, inr, ℕ, zero, suc, ◌+◌, ◌-◌, ◌*◌, ◌/◌, ◌≤◌, Bool, true, false, cond, Option, Some, None, List, [], ◌∷◌, ◌++◌, length, take, drop, refl, sym, ap, ◌∙◌, add-one, append_assoc, length-append, arith}
use Rattle.std.specs.Prelude.{slice_get}
use mathlib.Core.List.{IsPrefix}
use Rattle.std.proofs.lemmas.List.{append-nil, length-drop, drop-drop}
use Rattle.file_messages.specs.declared.kind.Channel.TheVariants as channels
use Rattle.file_messages.specs.declared.fault.ReplyFault.{ReplyFault}
use Rattle.file_messages.specs.declared.message.Request.{Request}
use Rattle.file_messages.specs.declared.job.Job.{Job}
use Rattle.file_messages.specs.declared.job.Work.{Work}
use Rattle.smbd_base.specs.Fields.{u32_at}
use Rattle.file_messages.specs.Messages.{reply_bytes}
use Rattle.file_messages.specs.Written.{IsCopyable}
use Rattle.file_messages.specs.Runs.{end_request, reads_count, parts_from, groups_of, get_requests, reply_to, replies_to}
use Rattle.file_pasts.specs.ClientPast.{ClientEvent, Group, End, Sent, Replied, Gave, Completed, Received, lasting_or, fault_of_reply, reply_fault, replied, answers, has_failed, jobs_given, open_jobs, job_at, without_job}
use Rattle.file_pasts.specs.GetDue.{some_bytes, bytes_carried, groups_came, groups_received, next_group, IsGet}
use Rattle.file_pasts.specs.GetLaws.{replies_in, IsAnswered, groups_taken, GetsReceive}
use Rattle.file_pasts.proofs.Lists.{take_one_more, get_in_front, front_of, prefix_before, last_mapped, got_of_map}
use Rattle.file_pasts.proofs.GetLaw.{RunCase, run_case, told-length}

-- what the first n READs bring, the k-th the bytes from its place on
unfoldable pub brought : List ℕ → ℕ → ℕ → List (List ℕ)
brought bytes k zero = []
brought bytes k (suc n) = some_bytes (take 65536 (drop (65536 * k) bytes)) ++ brought bytes (k + 1) n

pub brought-more : (bytes : List ℕ) (k n : ℕ) → brought bytes k n ++ some_bytes (take 65536 (drop (65536 * (k + n)) bytes)) ≡ brought bytes k (suc n)
unfolding brought
brought-more bytes k zero = ap (λ (x : ℕ). some_bytes (take 65536 (drop (65536 * x) bytes))) (let z : k + 0 ≡ k = omega arith in z) ∙ sym (append-nil (some_bytes (take 65536 (drop (65536 * k) bytes))))
brought-more bytes k (suc n) =
    append_assoc (some_bytes (take 65536 (drop (65536 * k) bytes))) (brought bytes (k + 1) n) (some_bytes (take 65536 (drop (65536 * (k + suc n)) bytes)))
    ∙ ap (λ (t : List (List ℕ)). some_bytes (take 65536 (drop (65536 * k) bytes)) ++ t)
    (ap (λ (x : ℕ). brought bytes (k + 1) n ++ some_bytes (take 65536 (drop (65536 * x) bytes))) (let z : k + suc n ≡ k + 1 + n = omega arith in z) ∙ brought-more bytes (k + 1) n)

taken_nothing : (n : ℕ) (xs : List ℕ) → length xs ≡ 0 → take n xs ≡ []
taken_nothing zero xs h = refl
taken_nothing (suc n) [] h = refl
taken_nothing (suc n) (x ∷ xs) h = absurd (omega arith)

taken_some : (n : ℕ) (xs : List ℕ) → 1 ≤ length xs → some_bytes (take (suc n) xs) ≡ take (suc n) xs ∷ []
taken_some n [] h = absurd (omega arith)
taken_some n (x ∷ xs) h = refl

-- they are the parts of the bytes from that place on
pub front-of-parts : (bytes : List ℕ) (k n m : ℕ) → m ≡ (length bytes - 65536 * k + 65535) / 65536 → IsPrefix (brought bytes k n) (parts_from m 65536 (drop (65536 * k) bytes))
unfolding brought
front-of-parts bytes k zero m e = (parts_from m 65536 (drop (65536 * k) bytes), refl)
front-of-parts bytes k (suc n) zero e =
    let none : length (drop (65536 * k) bytes) ≡ 0 = omega (arith, length-drop (65536 * k) bytes) in
    let empty : some_bytes (take 65536 (drop (65536 * k) bytes)) ≡ [] = ap some_bytes (taken_nothing 65536 (drop (65536 * k) bytes) none) in
    let later = front-of-parts bytes (k + 1) n zero (omega arith) in
    (later.0, ap (λ (t : List (List ℕ)). (t ++ brought bytes (k + 1) n) ++ later.0) empty ∙ later.1)
front-of-parts bytes k (suc n) (suc m) e =
    let some : 1 ≤ length (drop (65536 * k) bytes) = omega (arith, length-drop (65536 * k) bytes) in
    let one : some_bytes (take 65536 (drop (65536 * k) bytes)) ≡ take 65536 (drop (65536 * k) bytes) ∷ [] = taken_some 65535 (drop (65536 * k) bytes) some in
    let next : drop 65536 (drop (65536 * k) bytes) ≡ drop (65536 * (k + 1)) bytes = drop-drop 65536 (65536 * k) bytes ∙ ap (λ (x : ℕ). drop x bytes) (let z : 65536 * k + 65536 ≡ 65536 * (k + 1) = omega arith in z) in
    let later = front-of-parts bytes (k + 1) n m (omega arith) in (
      later.0,
      ap (λ (t : List (List ℕ)). (t ++ brought bytes (k + 1) n) ++ later.0) one
          ∙ ap (λ (t : List (List ℕ)). take 65536 (drop (65536 * k) bytes) ∷ t) (later.1 ∙ ap (parts_from m 65536) (sym next)),
    )

taken_all : (n : ℕ) (xs : List ℕ) → n ≡ length xs → take n xs ≡ xs
taken_all zero [] h = refl
taken_all zero (x ∷ xs) h = absurd (omega arith)
taken_all (suc n) [] h = refl
taken_all (suc n) (x ∷ xs) h = ap (λ (t : List ℕ). x ∷ t) (taken_all n xs (omega arith))

-- what a reply to a request of the run carries
carried : (bytes : List ℕ) (j : ℕ) (q : Request) → IsCopyable bytes → RunCase channels.None bytes j q
    → some_bytes (bytes_carried (reply_bytes (reply_to bytes q))) ≡ some_bytes (take 65536 (drop (65536 * j) bytes))
unfolding RunCase
carried bytes j q few (inl x) =
    let read : List ℕ = take 65536 (drop (65536 * j) bytes) in
    let inline : drop 12 (reply_bytes (reply_to bytes q)) ≡ read =
    ap (λ (r : Request). drop 12 (reply_bytes (reply_to bytes r))) x.1
    ∙ ap (λ (k : ℕ). take 65536 (drop (65536 * k) bytes)) (let z : j + 1 - 1 ≡ j = omega arith in z) in
    ap (λ (n : ℕ). some_bytes (take n (drop 12 (reply_bytes (reply_to bytes q))))) (told-length channels.None bytes j q few x.0 (inl x))
    ∙ ap (λ (t : List ℕ). some_bytes (take (length read) t)) inline ∙ ap some_bytes (taken_all (length read) read refl)
carried bytes j q few (inr x) =
    let last : Request = end_request (reads_count bytes + 1) (length bytes) in
    ap (λ (r : Request). some_bytes (bytes_carried (reply_bytes (reply_to bytes r)))) x.1
    ∙ ap some_bytes (taken_nothing (u32_at 8 (reply_bytes (reply_to bytes last))) [] refl)
    ∙ sym (ap some_bytes (taken_nothing 65536 (drop (65536 * j) bytes) (omega (arith, length-drop (65536 * j) bytes, (let y = x.0 in y)))))

record Came (bytes : List ℕ) (past : List ClientEvent) : Type 0 where
  count : ℕ
  came : groups_came channels.None past ≡ brought bytes 0 count
  all : (answers past).fault ≡ None → count ≡ length (replies_in past)

came_replied : (bytes : List ℕ) (m : List ℕ) (past : List ClientEvent) (q : Request) → IsCopyable bytes → Came bytes past → slice_get (get_requests channels.None bytes) (length (replies_in past)) ≡ Some q
    → m ≡ reply_bytes (reply_to bytes q) → Came bytes (Replied m ∷ past)
came_replied bytes m past q few c at is = by_fault (reply_fault (answers past) m) refl where
  added : Option ReplyFault → List (List ℕ)
  added o = elim o [ None ↦ some_bytes (bytes_carried m) | Some fault ↦ [] ]

  fault_before : (fault found : Option ReplyFault) → lasting_or fault found ≡ None → fault ≡ None
  fault_before None found e = refl
  fault_before (Some f) found e = absurd (let b : ⊥ = cc in b)

  by_fault : (o : Option ReplyFault) → reply_fault (answers past) m ≡ o → Came bytes (Replied m ∷ past)
  by_fault (Some f) e = record {
    count = c.count;
    came = ap (λ (o : Option ReplyFault). groups_came channels.None past ++ (elim o [ None ↦ some_bytes (bytes_carried m) | Some fault ↦ [] ])) e ∙ append-nil (groups_came channels.None past) ∙ c.came;
    all = λ h. absurd (never (sym (ap (λ (o : Option ReplyFault). (replied o (answers past)).fault) e) ∙ h));
  } where
    never : Some f ≡ None → ⊥
    never k = cc
  by_fault None e =
      let j : ℕ = length (replies_in past) in
      let n_is : c.count ≡ j = c.all (fault_before (answers past).fault (fault_of_reply (answers past).unanswered m) e) in
      record {
        count = suc j;
        came = ap (λ (o : Option ReplyFault). groups_came channels.None past ++ (elim o [ None ↦ some_bytes (bytes_carried m) | Some fault ↦ [] ])) e
            ∙ ap (λ (t : List (List ℕ)). t ++ some_bytes (bytes_carried m)) (c.came ∙ ap (brought bytes 0) n_is)
            ∙ ap (λ (t : List (List ℕ)). brought bytes 0 j ++ t) (ap (λ (x : List ℕ). some_bytes (bytes_carried x)) is ∙ carried bytes j q few (run_case channels.None bytes j q at)
            ∙ ap (λ (x : ℕ). some_bytes (take 65536 (drop (65536 * x) bytes))) (let z : j ≡ 0 + j = omega arith in z))
            ∙ brought-more bytes 0 j;
        all = λ h. sym (length-append (replies_in past) (m ∷ []) ∙ add-one j);
      }

-- without registered pages there are no jobs
pub no_jobs : (past : List ClientEvent) → IsGet channels.None past → open_jobs past ≡ []
no_jobs [] p = refl
no_jobs (Group b ∷ past) p = absurd p.0
no_jobs (End ∷ past) p = absurd p.0
no_jobs (Sent q ∷ past) p = no_jobs past p.1
no_jobs (Replied m ∷ past) p = no_jobs past p.1
no_jobs (Gave work ∷ past) p = absurd (none (has_failed past) p.0) where
  none : (t : Bool) → ◌≡◌ {A = Option Job} (cond t None None) (Some (record { number = length (jobs_given past); work = work })) → ⊥
  none true h = cc
  none false h = cc
no_jobs (Completed d ∷ past) p = ap (without_job d.number) (no_jobs past p.1)
no_jobs (Received b ∷ past) p = no_jobs past p.1

came : (bytes : List ℕ) (past : List ClientEvent) → IsCopyable bytes → IsGet channels.None past → IsAnswered channels.None bytes past → Came bytes past
unfolding brought
came bytes [] few p r = record { count = 0; came = refl; all = λ h. refl }
came bytes (Group b ∷ past) few p r = absurd p.0
came bytes (End ∷ past) few p r = absurd p.0
came bytes (Sent q ∷ past) few p r = let c = came bytes past few p.1 r in record { count = c.count; came = c.came; all = c.all }
came bytes (Replied m ∷ past) few p r =
    let one = last_mapped reply_bytes (replies_in past) m (replies_to bytes (get_requests channels.None bytes)) r in
    let q = got_of_map (reply_to bytes) (get_requests channels.None bytes) (length (replies_in past)) one.0 one.1 in
    came_replied bytes m past q.0 few (came bytes past few p.1 (prefix_before (replies_in past) m _ r)) q.1 (one.2 ∙ ap reply_bytes q.2)
came bytes (Gave work ∷ past) few p r = let c = came bytes past few p.1 r in record { count = c.count; came = c.came; all = c.all }
came bytes (Completed d ∷ past) few p r = absurd (unanswerable (open_jobs past) (no_jobs past p.1) p.0.work p.0.is_open) where
  unanswerable : (jobs : List Job) → jobs ≡ [] → (work : Work) → job_at d.number jobs ≡ Some work → ⊥
  unanswerable [] e work h = cc
  unanswerable (x ∷ xs) e work h = cc
came bytes (Received b ∷ past) few p r = let c = came bytes past few p.1 r in record { count = c.count; came = c.came; all = c.all }

-- ---- what was given

record Taken (past : List ClientEvent) (all : List (List ℕ)) : Type 0 where
  taken : groups_taken past ≡ take (length (groups_taken past)) all
  received : groups_received past ≡ length (groups_taken past)

given_group : (past : List ClientEvent) (b : List ℕ) → next_group channels.None past ≡ Some b → slice_get (groups_came channels.None past) (groups_received past) ≡ Some b
given_group past b e = by_failed (has_failed past) e where
  by_failed : (t : Bool) → cond t None (slice_get (groups_came channels.None past) (groups_received past)) ≡ Some b → slice_get (groups_came channels.None past) (groups_received past) ≡ Some b
  by_failed true h = absurd (let x : ⊥ = cc in x)
  by_failed false h = h

takes : (bytes : List ℕ) (past : List ClientEvent) → IsCopyable bytes → IsGet channels.None past → IsAnswered channels.None bytes past → Taken past (groups_of bytes)
takes bytes [] few p r = record { taken = refl; received = refl }
takes bytes (Group b ∷ past) few p r = absurd p.0
takes bytes (End ∷ past) few p r = absurd p.0
takes bytes (Sent q ∷ past) few p r = let t = takes bytes past few p.1 r in record { taken = t.taken; received = t.received }
takes bytes (Replied m ∷ past) few p r = let t = takes bytes past few p.1 (prefix_before (replies_in past) m _ r) in record { taken = t.taken; received = t.received }
takes bytes (Gave work ∷ past) few p r = let t = takes bytes past few p.1 r in record { taken = t.taken; received = t.received }
takes bytes (Completed d ∷ past) few p r = let t = takes bytes past few p.1 r in record { taken = t.taken; received = t.received }
takes bytes (Received b ∷ past) few p r =
    let t = takes bytes past few p.1 r in
    let c = came bytes past few p.1 r in
    let front = front-of-parts bytes 0 c.count ((length bytes + 65535) / 65536) (omega arith) in
    let k : ℕ = length (groups_taken past) in
    let more : length (groups_taken past ++ b ∷ []) ≡ suc k = length-append (groups_taken past) (b ∷ []) ∙ add-one k in
    let at : slice_get (groups_of bytes) k ≡ Some b =
    ap (slice_get (groups_of bytes)) (sym t.received) ∙ ap (λ (gs : List (List ℕ)). slice_get gs (groups_received past)) (sym front.1)
    ∙ get_in_front (brought bytes 0 c.count) front.0 (groups_received past) b (ap (λ (gs : List (List ℕ)). slice_get gs (groups_received past)) (sym c.came) ∙ given_group past b p.0) in
    record {
      taken = ap (λ (gs : List (List ℕ)). gs ++ b ∷ []) t.taken ∙ sym (take_one_more k (groups_of bytes) b at) ∙ ap (λ (n : ℕ). take n (groups_of bytes)) (sym more);
      received = omega (arith, t.received, more);
    }

pub gets_receive : GetsReceive
gets_receive bytes past few p r = front_of (length (groups_taken past)) (groups_taken past) (groups_of bytes) (takes bytes past few p r).taken
