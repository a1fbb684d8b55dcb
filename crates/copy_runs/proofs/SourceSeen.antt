-- A get's READs are handed in less than they ask for just when the end of the bytes is seen.
use Rattle.std.proofs.Common.{◌≡◌, ◌⊎◌, inl, inr, ℕ, ◌+◌, ◌-◌, ◌*◌, ◌<◌, ◌≤◌, ◌==◌, nat_lt, not, ◌&&◌, ◌||◌, Bool, true, false, cond, is_none, min, Option, Some, None, option_map, List, [], ◌∷◌, ◌++◌, length, take, drop, refl, sym, ap, ◌∙◌, arith, length-append}
use Rattle.std.specs.Prelude.{slice_get}
use Rattle.std.proofs.lemmas.Bool.Decides.{nat_tests}
use Rattle.std.proofs.lemmas.List.{length-take, length-drop}
use Rattle.file_messages.specs.declared.kind.Channel.{Channel}
use Rattle.file_messages.specs.declared.kind.Channel.TheVariants as channels
use Rattle.file_messages.specs.declared.kind.CopyKind.TheVariants as kinds
use Rattle.file_messages.specs.declared.message.Request.{Request}
use Rattle.file_messages.specs.declared.message.Reply.{Reply}
use Rattle.file_messages.specs.declared.job.WorkResult.{WorkResult}
use Rattle.file_messages.specs.Messages.{success, refusal}
use Rattle.file_messages.specs.Runs.{read_of, reads_count, end_request, get_requests, bytes_read}
use Rattle.file_pasts.specs.ServerDue.{ServerEvent, Asked, Filled, Gave, Completed, Replied, Stored, replies, requests, handled, source_in_hand, source_for, wants_source, standing_status, jobs_due, status_of, read_reply, answer_with, IsServer}
use Rattle.file_pasts.specs.ServerLaws.{messages_asked, AsksFor, NothingRefused, FillsFrom}
use Rattle.file_pasts.proofs.Lists.{get_of_front, prefix_before}
use Rattle.file_pasts.proofs.GetLaw.{RunCase, run_case}
use Rattle.file_pasts.proofs.ServerReplies.{Serves, serves, due_reply, results-done}
use Rattle.file_pasts.proofs.ServerJobs.{standing-none, reply_results}
use Rattle.copy_runs.specs.CopyPasts.{is_short}

-- ---- a READ of either channel

read-op : (channel : Channel) (k : ℕ) → ((read_of channel k).op == 2) ≡ true
read-op channels.None k = refl
read-op channels.V1 k = refl

read-no-write : (channel : Channel) (k : ℕ) → ((read_of channel k).op == 1) ≡ false
read-no-write channels.None k = refl
read-no-write channels.V1 k = refl

read-length : (channel : Channel) (k : ℕ) → (read_of channel k).length ≡ 65536
read-length channels.None k = refl
read-length channels.V1 k = refl

-- how many bytes the READ after so many gets
read-gets : (channel : Channel) (bytes : List ℕ) (n : ℕ) → length (bytes_read bytes (read_of channel (n + 1))) ≡ min 65536 (length bytes - 65536 * n)
read-gets channel bytes n = by_channel channel ∙ length-take 65536 (drop (65536 * n) bytes) ∙ ap (λ (m : ℕ). min 65536 m) (length-drop (65536 * n) bytes) where
  before : n + 1 - 1 ≡ n
  before = omega arith

  by_channel : (c : Channel) → length (bytes_read bytes (read_of c (n + 1))) ≡ length (take 65536 (drop (65536 * n) bytes))
  by_channel channels.None = ap (λ (k : ℕ). length (take 65536 (drop (65536 * k) bytes))) before
  by_channel channels.V1 = ap (λ (k : ℕ). length (take 65536 (drop (65536 * k) bytes))) before

-- ---- the READ that wants bytes

abbrev pub in_hand : Option (List ℕ) → ℕ
in_hand None = 0
in_hand (Some bytes) = 1

in_hand-few : (o : Option (List ℕ)) → in_hand o ≤ 1
in_hand-few None = omega arith
in_hand-few (Some bytes) = omega arith

pub record ReadWants (channel : Channel) (bytes : List ℕ) (past : List ServerEvent) (most : ℕ) : Type 0 where
  pub less : length (replies past) < reads_count bytes
  pub read : handled kinds.Get past ≡ Some (read_of channel (length (replies past) + 1))
  pub most_is : most ≡ 65536
  pub none : source_in_hand past ≡ None

module _ (channel : Channel) (bytes : List ℕ) where
  abbrev run : List Request
  run = get_requests channel bytes

  -- the request that is handled is the next one of the run
  handled-at : (past : List ServerEvent) (q : Request) → Serves kinds.Get bytes run past → handled kinds.Get past ≡ Some q → slice_get run (length (replies past)) ≡ Some q
  handled-at past q s h =
      get_of_front (length (requests kinds.Get past).accepted) run (length (replies past)) q (ap (λ (rs : List Request). slice_get rs (length (replies past))) (sym s.accepted) ∙ h)

  pub read-wants : (past : List ServerEvent) (most : ℕ) → Serves kinds.Get bytes run past → wants_source kinds.Get past ≡ Some most → ReadWants channel bytes past most
  unfolding RunCase
  read-wants past most s w = by_handled (handled kinds.Get past) refl w where
    by_tests : (q : Request) (a b : Bool) (o : Option (List ℕ)) → (q.op == 2) ≡ a → source_in_hand past ≡ o → cond ((a && b) && is_none o) (Some q.length) None ≡ Some most
        → ((q.op == 2) ≡ true) × (source_in_hand past ≡ None) × (most ≡ q.length)
    by_tests q true true None e f h = (e, f, (let same : most ≡ q.length = cc in same))
    by_tests q true true (Some x) e f h = absurd (let b : ⊥ = cc in b)
    by_tests q true false o e f h = absurd (let b : ⊥ = cc in b)
    by_tests q false b o e f h = absurd (let b : ⊥ = cc in b)

    by_run : (q : Request) → handled kinds.Get past ≡ Some q → ((q.op == 2) ≡ true) × (source_in_hand past ≡ None) × (most ≡ q.length)
        → ((length (replies past) < reads_count bytes) × (q ≡ read_of channel (length (replies past) + 1)))
        ⊎ ((length (replies past) ≡ reads_count bytes) × (q ≡ end_request (reads_count bytes + 1) (length bytes)))
        → ReadWants channel bytes past most
    by_run q h t (inl x) = record {
      less = x.0;
      read = h ∙ ap (λ (r : Request). Some r) x.1;
      most_is = t.2 ∙ ap (λ (r : Request). r.length) x.1 ∙ read-length channel (length (replies past) + 1);
      none = t.1;
    }
    by_run q h t (inr x) = absurd (never (sym (ap (λ (r : Request). r.op == 2) x.1) ∙ t.0)) where
      never : false ≡ true → ⊥
      never k = cc

    by_handled : (o : Option Request) → handled kinds.Get past ≡ o → source_for o past ≡ Some most → ReadWants channel bytes past most
    by_handled None h k = absurd (let b : ⊥ = cc in b)
    by_handled (Some q) h k =
        by_run q h (by_tests q (q.op == 2) (standing_status past == 0) (source_in_hand past) refl refl k)
        (run_case channel bytes (length (replies past)) q (handled-at past q s h))

  -- what was handed in for it
  filled-is : (b : List ℕ) (past : List ServerEvent) (most : ℕ) → ReadWants channel bytes past most → ((r : Request) → handled kinds.Get past ≡ Some r → b ≡ bytes_read bytes r)
      → length b ≡ min 65536 (length bytes - 65536 * length (replies past))
  filled-is b past most w fed =
      ap (λ (xs : List ℕ). length xs) (fed (read_of channel (length (replies past) + 1)) w.read) ∙ read-gets channel bytes (length (replies past))

  -- ---- the end was seen: no READ is left

  pub short-last : (past : List ServerEvent) → IsServer kinds.Get past → AsksFor run past → NothingRefused past → FillsFrom kinds.Get bytes past
      → is_short past ≡ true → reads_count bytes ≤ length (replies past) + in_hand (source_in_hand past)
  short-last [] p a n f e = absurd (let b : ⊥ = cc in b)
  short-last (Asked m ∷ past) p a n f e = short-last past p.1 (record { asked = prefix_before (messages_asked past) m _ a.asked; read = a.read }) n f e
  short-last (Filled b ∷ past) p a n f e = by_test (nat_lt (length b) 65536) refl e (λ (h : is_short past ≡ true). short-last past p.1 before n f.1 h) where
    before : AsksFor run past
    before = record { asked = a.asked; read = a.read }

    w : ReadWants channel bytes past p.0.0
    w = read-wants past p.0.0 (serves kinds.Get bytes run past p.1 before n f.1) p.0.1

    nothing : in_hand (source_in_hand past) ≡ 0
    nothing = ap (λ (o : Option (List ℕ)). in_hand o) w.none

    by_test : (t : Bool) → nat_lt (length b) 65536 ≡ t → (t || is_short past) ≡ true → (is_short past ≡ true → reads_count bytes ≤ length (replies past) + in_hand (source_in_hand past))
        → reads_count bytes ≤ length (replies past) + 1
    by_test true t h ih =
        let short : length b < 65536 = grind (arith, nat_tests) in
        let is = filled-is b past p.0.0 w f.0 in
        omega (arith, short, is)
    by_test false t h ih = (let z = ih h in omega (arith, z, nothing))
  short-last (Gave work ∷ past) p a n f e = short-last past p.1 (record { asked = a.asked; read = a.read }) n f e
  short-last (Completed c ∷ past) p a n f e = short-last past p.1 (record { asked = a.asked; read = a.read }) n.1 f e
  short-last (Replied r ∷ past) p a n f e =
      let more : length (replies past ++ r ∷ []) ≡ length (replies past) + 1 = length-append (replies past) (r ∷ []) in
      let z = short-last past p.1 (record { asked = a.asked; read = a.read }) n f e in
      let few = in_hand-few (source_in_hand past) in
      omega (arith, more, z, few)
  short-last (Stored b ∷ past) p a n f e = short-last past p.1 (record { asked = a.asked; read = a.read }) n f e

  -- ---- the end was not seen: a READ is left

  -- a READ that was replied to had its bytes
  answered-filled : (q : Request) (o : Option (List ℕ)) (works : List WorkResult) (r : Reply) → (q.op == 1) ≡ false → (q.op == 2) ≡ true → status_of works ≡ 0
      → answer_with q o (Some works) ≡ Some r → in_hand o ≡ 1
  answered-filled q o works r no_write read done h = by_tests (status_of works == 0) (q.op == 1) (q.op == 2) o (ap (λ (n : ℕ). n == 0) done) no_write read h where
    by_tests : (t a b : Bool) (o : Option (List ℕ)) → t ≡ true → a ≡ false → b ≡ true
        → cond (not t) (Some (refusal q (status_of works))) (cond a (Some (success q q.length [])) (cond b (option_map (read_reply q) o) (Some (success q 0 [])))) ≡ Some r → in_hand o ≡ 1
    by_tests true false true (Some x) d e f k = refl
    by_tests true false true None d e f k = absurd (let z : ⊥ = cc in z)
    by_tests true false false o d e f k = absurd (let z : ⊥ = cc in z)
    by_tests true true b o d e f k = absurd (let z : ⊥ = cc in z)
    by_tests false a b o d e f k = absurd (let z : ⊥ = cc in z)

  replied-filled : (r : Reply) (past : List ServerEvent) → IsServer kinds.Get (Replied r ∷ past) → AsksFor run past → NothingRefused past → FillsFrom kinds.Get bytes past
      → length (replies past) < reads_count bytes → in_hand (source_in_hand past) ≡ 1
  unfolding RunCase
  replied-filled r past p a n f less =
      let s = serves kinds.Get bytes run past p.1 a n f in
      let d = due_reply kinds.Get bytes run past r s n p.0 in
      let w = reply_results kinds.Get past d.0 r (standing-none kinds.Get bytes run past s) d.1 p.0 in
      by_run d.0 w.0 (results-done _ (jobs_due kinds.Get past) past w.0 n w.1) w.2 (run_case channel bytes (length (replies past)) d.0 (handled-at past d.0 s d.1))
    where
      by_run : (q : Request) (works : List WorkResult) → status_of works ≡ 0 → answer_with q (source_in_hand past) (Some works) ≡ Some r
          → ((length (replies past) < reads_count bytes) × (q ≡ read_of channel (length (replies past) + 1)))
          ⊎ ((length (replies past) ≡ reads_count bytes) × (q ≡ end_request (reads_count bytes + 1) (length bytes)))
          → in_hand (source_in_hand past) ≡ 1
      by_run q works done h (inl x) =
          answered-filled q (source_in_hand past) works r (ap (λ (y : Request). y.op == 1) x.1 ∙ read-no-write channel (length (replies past) + 1))
          (ap (λ (y : Request). y.op == 2) x.1 ∙ read-op channel (length (replies past) + 1)) done h
      by_run q works done h (inr x) = absurd (let at = x.0 in omega (arith, at, less))

  pub unseen-left : (past : List ServerEvent) → IsServer kinds.Get past → AsksFor run past → NothingRefused past → FillsFrom kinds.Get bytes past
      → is_short past ≡ false → length (replies past) + in_hand (source_in_hand past) < reads_count bytes
  unseen-left [] p a n f e = omega arith
  unseen-left (Asked m ∷ past) p a n f e = unseen-left past p.1 (record { asked = prefix_before (messages_asked past) m _ a.asked; read = a.read }) n f e
  unseen-left (Filled b ∷ past) p a n f e = by_test (nat_lt (length b) 65536) refl e where
    before : AsksFor run past
    before = record { asked = a.asked; read = a.read }

    w : ReadWants channel bytes past p.0.0
    w = read-wants past p.0.0 (serves kinds.Get bytes run past p.1 before n f.1) p.0.1

    by_test : (t : Bool) → nat_lt (length b) 65536 ≡ t → (t || is_short past) ≡ false → length (replies past) + 1 < reads_count bytes
    by_test true t h = absurd (let z : ⊥ = cc in z)
    by_test false t h =
        let whole : 65536 ≤ length b = grind (arith, nat_tests) in
        let is = filled-is b past p.0.0 w f.0 in
        omega (arith, whole, is)
  unseen-left (Gave work ∷ past) p a n f e = unseen-left past p.1 (record { asked = a.asked; read = a.read }) n f e
  unseen-left (Completed c ∷ past) p a n f e = unseen-left past p.1 (record { asked = a.asked; read = a.read }) n.1 f e
  unseen-left (Replied r ∷ past) p a n f e =
      let before : AsksFor run past = record { asked = a.asked; read = a.read } in
      let more : length (replies past ++ r ∷ []) ≡ length (replies past) + 1 = length-append (replies past) (r ∷ []) in
      let z = unseen-left past p.1 before n f e in
      let one = replied-filled r past p before n f (omega (arith, z)) in
      omega (arith, more, z, one)
  unseen-left (Stored b ∷ past) p a n f e = unseen-left past p.1 (record { asked = a.asked; read = a.read }) n f e
