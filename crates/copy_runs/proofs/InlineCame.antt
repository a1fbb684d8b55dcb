-- Without registered pages each reply to a READ that gets some bytes brings a group.
use Rattle.std.proofs.Common.{◌≡◌, inl, inr, ℕ, ◌+◌, ◌-◌, ◌*◌, ◌/◌, ◌<◌, ◌≤◌, ◌==◌, nat_le, Bool, true, false, cond, min, Option, Some, None, List, [], ◌∷◌, ◌++◌, length, take, drop, refl, ap, ◌∙◌, arith, length-append}
use Rattle.std.proofs.lemmas.Bool.Decides.{nat_tests}
use Rattle.std.proofs.lemmas.List.{length-take, length-drop}
use Rattle.smbd_base.specs.Fields.{u32_at}
use Rattle.file_messages.specs.declared.kind.Channel.TheVariants as channels
use Rattle.file_messages.specs.declared.fault.ReplyFault.{ReplyFault}
use Rattle.file_messages.specs.declared.message.Request.{Request}
use Rattle.file_messages.specs.Messages.{reply_bytes}
use Rattle.file_messages.specs.Runs.{get_requests, reply_to, replies_to}
use Rattle.file_messages.specs.Written.{IsCopyable}
use Rattle.file_pasts.specs.ClientPast.{ClientEvent, Group, End, Sent, Replied, Gave, Completed, Received, Answers, lasting_or, fault_of_reply, reply_fault, replied, answers}
use Rattle.file_pasts.specs.GetDue.{sent, counts_taken, last_count, jobs_completed, pages_back, some_bytes, bytes_carried, groups_came, IsGet}
use Rattle.file_pasts.specs.GetLaws.{replies_in, IsAnswered}
use Rattle.file_pasts.proofs.Lists.{prefix_before, last_mapped, got_of_map}
use Rattle.file_pasts.proofs.GetLaw.{RunCase, run_case, told-length}

-- ---- a fault lasts

pub none-before : (fault found : Option ReplyFault) → lasting_or fault found ≡ None → fault ≡ None
none-before None found e = refl
none-before (Some f) found e = absurd (let b : ⊥ = cc in b)

pub taken-now : (o : Option ReplyFault) (a : Answers) → (replied o a).fault ≡ None → o ≡ None
taken-now None a h = refl
taken-now (Some f) a h = absurd (let b : ⊥ = cc in b)

-- ---- one group

pub some-one : (bytes : List ℕ) → 1 ≤ length bytes → length (some_bytes bytes) ≡ 1
some-one [] h = absurd (omega (arith, h))
some-one (b ∷ bytes) h = refl

-- the group that the reply to the READ after so many carries
one-carried : (bytes : List ℕ) (j : ℕ) (q : Request) → IsCopyable bytes → RunCase channels.None bytes j q → 65536 * j < length bytes
    → length (some_bytes (bytes_carried (reply_bytes (reply_to bytes q)))) ≡ 1
unfolding RunCase
one-carried bytes j q few (inl x) more =
    let read : List ℕ = take 65536 (drop (65536 * j) bytes) in
    let inline : drop 12 (reply_bytes (reply_to bytes q)) ≡ read =
    ap (λ (r : Request). drop 12 (reply_bytes (reply_to bytes r))) x.1
    ∙ ap (λ (k : ℕ). take 65536 (drop (65536 * k) bytes)) (let z : j + 1 - 1 ≡ j = omega arith in z) in
    let told = told-length channels.None bytes j q few x.0 (inl x) in
    let long : length read ≡ min 65536 (length bytes - 65536 * j) = length-take 65536 (drop (65536 * j) bytes) ∙ ap (λ (m : ℕ). min 65536 m) (length-drop (65536 * j) bytes) in
    let carried : length (bytes_carried (reply_bytes (reply_to bytes q))) ≡ min (length read) (length read) =
    length-take (u32_at 8 (reply_bytes (reply_to bytes q))) (drop 12 (reply_bytes (reply_to bytes q)))
    ∙ ap (λ (n : ℕ). min n (length (drop 12 (reply_bytes (reply_to bytes q))))) told ∙ ap (λ (xs : List ℕ). min (length read) (length xs)) inline in
    some-one (bytes_carried (reply_bytes (reply_to bytes q))) (omega (arith, carried, long, more))
one-carried bytes j q few (inr x) more = absurd (let at = x.0 in omega (arith, at, more))

-- ---- all groups

pub inline-came : (bytes : List ℕ) (past : List ClientEvent) → IsCopyable bytes → IsGet channels.None past → IsAnswered channels.None bytes past → (answers past).fault ≡ None
    → (k : ℕ) → k ≤ length (replies_in past) → k ≤ (length bytes + 65535) / 65536 → k ≤ length (groups_came channels.None past)
inline-came bytes [] few p r none k came all = came
inline-came bytes (Group b ∷ past) few p r none k came all = absurd p.0
inline-came bytes (End ∷ past) few p r none k came all = absurd p.0
inline-came bytes (Sent q ∷ past) few p r none k came all = inline-came bytes past few p.1 r none k came all
inline-came bytes (Replied m ∷ past) few p r none k came all = by_last (nat_le k (length (replies_in past))) refl (inline-came bytes past few p.1 r_before fine) where
  e : reply_fault (answers past) m ≡ None
  e = taken-now (reply_fault (answers past) m) (answers past) none

  fine : (answers past).fault ≡ None
  fine = none-before (answers past).fault (fault_of_reply (answers past).unanswered m) e

  r_before : IsAnswered channels.None bytes past
  r_before = prefix_before (replies_in past) m _ r

  more : length (replies_in past ++ m ∷ []) ≡ length (replies_in past) + 1
  more = length-append (replies_in past) (m ∷ [])

  long : length (groups_came channels.None (Replied m ∷ past)) ≡ length (groups_came channels.None past) + length (some_bytes (bytes_carried m))
  long =
      ap (λ (o : Option ReplyFault). length (groups_came channels.None past ++ (elim o [ None ↦ some_bytes (bytes_carried m) | Some fault ↦ [] ]))) e
      ∙ length-append (groups_came channels.None past) (some_bytes (bytes_carried m))

  one : 65536 * length (replies_in past) < length bytes → length (some_bytes (bytes_carried m)) ≡ 1
  one less =
      let last = last_mapped reply_bytes (replies_in past) m (replies_to bytes (get_requests channels.None bytes)) r in
      let q = got_of_map (reply_to bytes) (get_requests channels.None bytes) (length (replies_in past)) last.0 last.1 in
      ap (λ (x : List ℕ). length (some_bytes (bytes_carried x))) (last.2 ∙ ap reply_bytes q.2)
      ∙ one-carried bytes (length (replies_in past)) q.0 few (run_case channels.None bytes (length (replies_in past)) q.0 q.1) less

  by_last : (t : Bool) → nat_le k (length (replies_in past)) ≡ t
      → ((j : ℕ) → j ≤ length (replies_in past) → j ≤ (length bytes + 65535) / 65536 → j ≤ length (groups_came channels.None past))
      → k ≤ length (groups_came channels.None (Replied m ∷ past))
  by_last true t ih =
      let within : k ≤ length (replies_in past) = grind (arith, nat_tests) in
      let z = ih k within all in
      omega (arith, z, long)
  by_last false t ih =
      let beyond : length (replies_in past) < k = grind (arith, nat_tests) in
      let z = ih (length (replies_in past)) (omega arith) (omega (arith, beyond, all)) in
      let here = one (omega (arith, beyond, all)) in
      omega (arith, z, here, long, came, more)
inline-came bytes (Gave work ∷ past) few p r none k came all = inline-came bytes past few p.1 r none k came all
inline-came bytes (Completed c ∷ past) few p r none k came all =
    let z = inline-came bytes past few p.1 r none k came all in
    let more =
    length-append (groups_came channels.None past)
    (cond (jobs_completed past + 1 == 32 * sent past) (some_bytes (take (last_count (counts_taken past)) (pages_back 16 (jobs_completed past + 1 - 16) (Completed c ∷ past)))) []) in
    omega (arith, z, more)
inline-came bytes (Received b ∷ past) few p r none k came all = inline-came bytes past few p.1 r none k came all
