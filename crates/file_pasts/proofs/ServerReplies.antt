-- A server's replies are those of the run of which it was asked.
use Rattle.std.proofs.Common.{◌≡◌, ◌⊎◌, inl, inr, ℕ, zero, suc, ◌+◌, ◌≤◌, ◌==◌, not, Bool, true, false, cond, Option, Some, None, option_map, Result, Ok, Err, List, [], ◌∷◌, ◌++◌, length, take, map, refl, sym, ap, ◌∙◌, subst, add-one, length-append, arith}
use Rattle.std.specs.Prelude.{slice_get}
use Rattle.file_messages.specs.declared.kind.CopyKind.{CopyKind}
use Rattle.file_messages.specs.declared.fault.FileFault.{FileFault}
use Rattle.file_messages.specs.declared.fault.FileFault.TheVariants.{Order}
use Rattle.file_messages.specs.declared.message.Request.{Request}
use Rattle.file_messages.specs.declared.message.Reply.{Reply}
use Rattle.file_messages.specs.declared.job.Work.{Work}
use Rattle.file_messages.specs.declared.job.WorkResult.{WorkResult}
use Rattle.file_messages.specs.declared.job.WorkResult.TheVariants.{Loaded, Fetched, Placed, Unloaded, Refused}
use Rattle.file_messages.specs.Messages.{request_of, request_bytes, success, refusal}
use Rattle.file_messages.specs.Runs.{replies_to, reply_to, reply_to_read, bytes_read}
use Rattle.file_messages.specs.Written.{IsReadBack, AllReadBack}
use Rattle.file_pasts.specs.ServerDue.{ServerEvent, Asked, Filled, Gave, Completed, Replied, Stored, Requests, requests, replies, judged, judgement, with_judged, is_out_of_order, handled, first_status, standing_status, source_in_hand, source_for, wants_source, results, results_from, result_in_front, result_at, jobs_due, status_of, status_in, read_reply, answer_with, reply_if_handled, next_reply, IsServer}
use Rattle.file_pasts.specs.ServerLaws.{messages_asked, IsDone, NothingRefused, FillsFrom, AsksFor, ServersReply}
use Rattle.file_pasts.proofs.Lists.{within, take_one_more, get_of_front, get_in_front, get_of_map, front_of, prefix_before, last_mapped}

-- ---- no status

status-reply_to : (bytes : List ℕ) (r : Request) → (reply_to bytes r).status ≡ 0
status-reply_to bytes r = by_op (r.op == 1) (r.op == 2) where
  by_op : (a b : Bool) → (cond a (success r r.length []) (cond b (reply_to_read bytes r) (success r 0 []))).status ≡ 0
  by_op true b = refl
  by_op false true = refl
  by_op false false = refl

pub first_status-front : (n : ℕ) (bytes : List ℕ) (run : List Request) → first_status (take n (map (reply_to bytes) run)) ≡ 0
first_status-front zero bytes run = refl
first_status-front (suc n) bytes [] = refl
first_status-front (suc n) bytes (r ∷ run) =
    ap (λ (s : ℕ). cond (s == 0) (first_status (take n (map (reply_to bytes) run))) s) (status-reply_to bytes r) ∙ first_status-front n bytes run

done_status : (r : WorkResult) → IsDone r → status_in r ≡ 0
done_status (Loaded d) h = refl
done_status (Fetched bytes) h = refl
done_status Placed h = refl
done_status (Unloaded bytes) h = refl
done_status (Refused status) h = absurd h

result-done : (n : ℕ) (past : List ServerEvent) (r : WorkResult) → NothingRefused past → result_at n past ≡ Some r → status_in r ≡ 0
result-done n [] r h e = absurd (let b : ⊥ = cc in b)
result-done n (Asked m ∷ past) r h e = result-done n past r h e
result-done n (Filled b ∷ past) r h e = result-done n past r h e
result-done n (Gave work ∷ past) r h e = result-done n past r h e
result-done n (Completed c ∷ past) r h e = by_test (c.number == n) e (λ (k : result_at n past ≡ Some r). result-done n past r h.1 k) where
  by_test : (t : Bool) → cond t (Some c.result) (result_at n past) ≡ Some r → (result_at n past ≡ Some r → status_in r ≡ 0) → status_in r ≡ 0
  by_test true k ih = let same : c.result ≡ r = cc in ap status_in (sym same) ∙ done_status c.result h.0
  by_test false k ih = ih k
result-done n (Replied q ∷ past) r h e = result-done n past r h e
result-done n (Stored b ∷ past) r h e = result-done n past r h e

pub results-done : (n : ℕ) (works : List Work) (past : List ServerEvent) (found : List WorkResult) → NothingRefused past → results_from n works past ≡ Some found → status_of found ≡ 0
results-done n [] past found h e = ap status_of (none found e) where
  none : (f : List WorkResult) → Some [] ≡ Some f → f ≡ []
  none f k = cc
results-done n (work ∷ works) past found h e =
    by_parts (result_at n past) (results_from (n + 1) works past) refl refl e (λ later k. results-done (n + 1) works past later h k) where
      same : (xs ys : List WorkResult) → Some xs ≡ Some ys → xs ≡ ys
      same xs ys k = cc

      by_parts : (o : Option WorkResult) (l : Option (List WorkResult)) → result_at n past ≡ o → results_from (n + 1) works past ≡ l → result_in_front o l ≡ Some found
          → ((later : List WorkResult) → results_from (n + 1) works past ≡ Some later → status_of later ≡ 0) → status_of found ≡ 0
      by_parts None l p q k ih = absurd (let b : ⊥ = cc in b)
      by_parts (Some r) None p q k ih = absurd (let b : ⊥ = cc in b)
      by_parts (Some r) (Some later) p q k ih =
          ap status_of (sym (same (r ∷ later) found k))
          ∙ ap (λ (s : ℕ). cond (s == 0) (status_of later) s) (result-done n past r h p) ∙ ih later q

-- ---- by induction on the past

pub record Serves (kind : CopyKind) (bytes : List ℕ) (run : List Request) (past : List ServerEvent) : Type 0 where
  pub accepted : (requests kind past).accepted ≡ take (length (requests kind past).accepted) run
  pub in_turn : (requests kind past).fault ≡ None → length (requests kind past).accepted ≡ length (messages_asked past)
  pub at_most : length (requests kind past).accepted ≤ length (messages_asked past)
  pub replied : replies past ≡ take (length (replies past)) (replies_to bytes run)
  pub few : length (replies past) ≤ length (requests kind past).accepted
  pub source : (b : List ℕ) → source_in_hand past ≡ Some b → (q : Request) × (handled kind past ≡ Some q) × (b ≡ bytes_read bytes q)

-- the request that reads back at this place
pub read_at : (run : List Request) (n : ℕ) (r : Request) → AllReadBack run → slice_get run n ≡ Some r → request_of (request_bytes r) ≡ Ok r
read_at [] n r a e = absurd (let b : ⊥ = cc in b)
read_at (q ∷ run) zero r a e = subst IsReadBack (same q r e) a.0 where
  same : (x y : Request) → Some x ≡ Some y → x ≡ y
  same x y h = cc
read_at (q ∷ run) (suc n) r a e = read_at run n r a.1 e

-- what one more message does to the accepted requests: one that reads as r is accepted, or there is a fault
Accepts : CopyKind → Requests → List Reply → List ℕ → Request → Type 0
Accepts kind q given m r =
    (with_judged (judgement kind q given m) q ≡ record { accepted = q.accepted ++ r ∷ []; fault = None }) × (q.fault ≡ None)
    ⊎ ((f : FileFault) × (with_judged (judgement kind q given m) q ≡ record { accepted = q.accepted; fault = Some f }))

accepts : (kind : CopyKind) (accepted : List Request) (fault : Option FileFault) (given : List Reply) (m : List ℕ) (r : Request) → request_of m ≡ Ok r
    → Accepts kind (record { accepted = accepted; fault = fault }) given m r
unfolding Accepts
accepts kind accepted (Some f) given m r e = inr (f, refl)
accepts kind accepted None given m r e =
    by_turn (is_out_of_order kind accepted given r) refl where
      by_turn : (t : Bool) → is_out_of_order kind accepted given r ≡ t
          → (with_judged (judged kind accepted given (request_of m)) (record { accepted = accepted; fault = None }) ≡ record { accepted = accepted ++ r ∷ []; fault = None }) × (◌≡◌ {A = Option FileFault} None None)
          ⊎ ((f : FileFault) × (with_judged (judged kind accepted given (request_of m)) (record { accepted = accepted; fault = None }) ≡ record { accepted = accepted; fault = Some f }))
      by_turn true h = inr (
        Order,
        ap (λ (x : Result Request FileFault). with_judged (judged kind accepted given x) (record { accepted = accepted; fault = None })) e
            ∙ ap (λ (t : Bool). with_judged (cond t (Err Order) (Ok r)) (record { accepted = accepted; fault = None })) h,
      )
      by_turn false h = inl (
        ap (λ (x : Result Request FileFault). with_judged (judged kind accepted given x) (record { accepted = accepted; fault = None })) e
            ∙ ap (λ (t : Bool). with_judged (cond t (Err Order) (Ok r)) (record { accepted = accepted; fault = None })) h,
        refl,
      )

serves-asked : (kind : CopyKind) (bytes : List ℕ) (run : List Request) (m : List ℕ) (past : List ServerEvent) (r : Request) → slice_get run (length (messages_asked past)) ≡ Some r
    → Serves kind bytes run past
    → (with_judged (judgement kind (requests kind past) (replies past) m) (requests kind past) ≡ record { accepted = (requests kind past).accepted ++ r ∷ []; fault = None }) × ((requests kind past).fault ≡ None)
    ⊎ ((f : FileFault) × (with_judged (judgement kind (requests kind past) (replies past) m) (requests kind past) ≡ record { accepted = (requests kind past).accepted; fault = Some f }))
    → Serves kind bytes run (Asked m ∷ past)
serves-asked kind bytes run m past r at s (inl e) =
    let more : length (messages_asked past ++ m ∷ []) ≡ suc (length (messages_asked past)) = length-append (messages_asked past) (m ∷ []) ∙ add-one (length (messages_asked past)) in
    let accepted : List Request = (requests kind past).accepted in
    let now : (requests kind (Asked m ∷ past)).accepted ≡ accepted ++ r ∷ [] = ap (λ (q : Requests). q.accepted) e.0 in
    let size : length accepted ≡ length (messages_asked past) = s.in_turn e.1 in
    let long : length (requests kind (Asked m ∷ past)).accepted ≡ suc (length accepted) = ap length now ∙ length-append accepted (r ∷ []) ∙ add-one (length accepted) in
    record {
      accepted = now ∙ ap (λ (t : List Request). t ++ r ∷ []) s.accepted ∙ sym (take_one_more (length accepted) run r (ap (slice_get run) size ∙ at)) ∙ ap (λ (k : ℕ). take k run) (sym long);
      in_turn = λ h. omega (arith, long, size, more);
      at_most = omega (arith, long, size, more);
      replied = s.replied;
      few = (let f = s.few in omega (arith, long, f));
      source = λ b h. (let x = s.source b h in (x.0, ap (λ (t : List Request). slice_get t (length (replies past))) now ∙ get_in_front accepted (r ∷ []) (length (replies past)) x.0 x.1, x.2));
    }
serves-asked kind bytes run m past r at s (inr e) =
    let more : length (messages_asked past ++ m ∷ []) ≡ suc (length (messages_asked past)) = length-append (messages_asked past) (m ∷ []) ∙ add-one (length (messages_asked past)) in
    let now : (requests kind (Asked m ∷ past)).accepted ≡ (requests kind past).accepted = ap (λ (q : Requests). q.accepted) e.1 in
    let faulty : (requests kind (Asked m ∷ past)).fault ≡ Some e.0 = ap (λ (q : Requests). q.fault) e.1 in
    record {
      accepted = now ∙ s.accepted ∙ ap (λ (t : List Request). take (length t) run) (sym now);
      in_turn = λ h. absurd (both h faulty);
      at_most = (let a = s.at_most in omega (arith, a, ap length now, more));
      replied = s.replied;
      few = (let f = s.few in omega (arith, f, ap length now));
      source = λ b h. (let x = s.source b h in (x.0, ap (λ (t : List Request). slice_get t (length (replies past))) now ∙ x.1, x.2));
    }
  where
    both : {o : Option FileFault} → o ≡ None → o ≡ Some e.0 → ⊥
    both p q = cc

-- the reply that is due is the reply to the request that is handled
pub due_reply : (kind : CopyKind) (bytes : List ℕ) (run : List Request) (past : List ServerEvent) (r : Reply) → Serves kind bytes run past → NothingRefused past → next_reply kind past ≡ Some r
    → (q : Request) × (handled kind past ≡ Some q) × (r ≡ reply_to bytes q)
due_reply kind bytes run past r s n e = by_handled (handled kind past) refl e where
  standing : standing_status past ≡ 0
  standing = ap first_status s.replied ∙ first_status-front (length (replies past)) bytes run

  same : (x y : Reply) → Some x ≡ Some y → y ≡ x
  same x y h = cc

  by_op : (q : Request) (a b : Bool) (o : Option (List ℕ)) → source_in_hand past ≡ o → handled kind past ≡ Some q
      → cond a (Some (success q q.length [])) (cond b (option_map (read_reply q) o) (Some (success q 0 []))) ≡ Some r
      → r ≡ cond a (success q q.length []) (cond b (reply_to_read bytes q) (success q 0 []))
  by_op q true b o p h k = same _ r k
  by_op q false false o p h k = same _ r k
  by_op q false true None p h k = absurd (let x : ⊥ = cc in x)
  by_op q false true (Some x) p h k =
      let y = s.source x p in
      let q_is : y.0 ≡ q = one y.0 q (sym y.1 ∙ h) in
      same _ r k ∙ ap (read_reply q) (y.2 ∙ ap (bytes_read bytes) q_is)
    where
      one : (a b : Request) → Some a ≡ Some b → a ≡ b
      one a b h = cc

  by_works : (q : Request) (w : Option (List WorkResult)) → results kind past ≡ w → handled kind past ≡ Some q → answer_with q (source_in_hand past) w ≡ Some r → r ≡ reply_to bytes q
  by_works q None p h k = absurd (let x : ⊥ = cc in x)
  by_works q (Some works) p h k =
      let done : status_of works ≡ 0 = results-done _ (jobs_due kind past) past works n p in
      by_op q (q.op == 1) (q.op == 2) (source_in_hand past) refl h
      (ap (λ (t : ℕ). cond (not (t == 0)) (Some (refusal q t)) (cond (q.op == 1) (Some (success q q.length [])) (cond (q.op == 2) (option_map (read_reply q) (source_in_hand past)) (Some (success q 0 []))))) (sym done) ∙ k)

  by_handled : (o : Option Request) → handled kind past ≡ o → reply_if_handled kind o past ≡ Some r → (q : Request) × (handled kind past ≡ Some q) × (r ≡ reply_to bytes q)
  by_handled None p h = absurd (let x : ⊥ = cc in x)
  by_handled (Some q) p h = (
    q,
    p,
    by_works q (results kind past) refl p
        (ap (λ (t : ℕ). cond (t == 0) (answer_with q (source_in_hand past) (results kind past)) (Some (refusal q t))) (sym standing) ∙ h),
  )

serves-replied : (kind : CopyKind) (bytes : List ℕ) (run : List Request) (r : Reply) (past : List ServerEvent) → Serves kind bytes run past → NothingRefused past → next_reply kind past ≡ Some r
    → Serves kind bytes run (Replied r ∷ past)
serves-replied kind bytes run r past s n e =
    let d = due_reply kind bytes run past r s n e in
    let k : ℕ = length (replies past) in
    let more : length (replies past ++ r ∷ []) ≡ suc k = length-append (replies past) (r ∷ []) ∙ add-one k in
    let at : slice_get run k ≡ Some d.0 = get_of_front (length (requests kind past).accepted) run k d.0 (ap (λ (t : List Request). slice_get t k) (sym s.accepted) ∙ d.1) in
    record {
      accepted = s.accepted;
      in_turn = s.in_turn;
      at_most = s.at_most;
      replied = ap (λ (t : List Reply). t ++ r ∷ []) s.replied ∙ ap (λ (x : Reply). take k (replies_to bytes run) ++ x ∷ []) d.2
          ∙ sym (take_one_more k (replies_to bytes run) (reply_to bytes d.0) (get_of_map (reply_to bytes) run k d.0 at))
          ∙ ap (λ (i : ℕ). take i (replies_to bytes run)) (sym more);
      few = omega (arith, more, within (requests kind past).accepted k d.0 d.1);
      source = λ b h. absurd (let x : ⊥ = cc in x);
    }

serves-filled : (kind : CopyKind) (bytes : List ℕ) (run : List Request) (b : List ℕ) (past : List ServerEvent) (most : ℕ) → Serves kind bytes run past → wants_source kind past ≡ Some most
    → ((r : Request) → handled kind past ≡ Some r → b ≡ bytes_read bytes r) → Serves kind bytes run (Filled b ∷ past)
serves-filled kind bytes run b past most s w f = record {
  accepted = s.accepted;
  in_turn = s.in_turn;
  at_most = s.at_most;
  replied = s.replied;
  few = s.few;
  source = λ c h. by_handled (handled kind past) refl w c (let x : b ≡ c = cc in x);
} where
  by_handled : (o : Option Request) → handled kind past ≡ o → source_for o past ≡ Some most → (c : List ℕ) → b ≡ c → (q : Request) × (handled kind past ≡ Some q) × (c ≡ bytes_read bytes q)
  by_handled None p h c e = absurd (let x : ⊥ = cc in x)
  by_handled (Some q) p h c e = (q, p, sym e ∙ f q p)

pub serves : (kind : CopyKind) (bytes : List ℕ) (run : List Request) (past : List ServerEvent) → IsServer kind past → AsksFor run past → NothingRefused past → FillsFrom kind bytes past
    → Serves kind bytes run past
unfolding Accepts
serves kind bytes run [] p a n f = record {
  accepted = refl;
  in_turn = λ h. refl;
  at_most = omega arith;
  replied = refl;
  few = omega arith;
  source = λ b h. absurd (let x : ⊥ = cc in x);
}
serves kind bytes run (Asked m ∷ past) p a n f =
    let before : AsksFor run past = record { asked = prefix_before (messages_asked past) m _ a.asked; read = a.read } in
    let one = last_mapped request_bytes (messages_asked past) m run a.asked in
    let reads : request_of m ≡ Ok one.0 = ap request_of one.2 ∙ read_at run (length (messages_asked past)) one.0 a.read one.1 in
    serves-asked kind bytes run m past one.0 one.1 (serves kind bytes run past p.1 before n f)
    (accepts kind (requests kind past).accepted (requests kind past).fault (replies past) m one.0 reads)
serves kind bytes run (Filled b ∷ past) p a n f =
    serves-filled kind bytes run b past p.0.0 (serves kind bytes run past p.1 (record { asked = a.asked; read = a.read }) n f.1) p.0.1 f.0
serves kind bytes run (Gave work ∷ past) p a n f =
    let s = serves kind bytes run past p.1 (record { asked = a.asked; read = a.read }) n f in
    record { accepted = s.accepted; in_turn = s.in_turn; at_most = s.at_most; replied = s.replied; few = s.few; source = s.source }
serves kind bytes run (Completed c ∷ past) p a n f =
    let s = serves kind bytes run past p.1 (record { asked = a.asked; read = a.read }) n.1 f in
    record { accepted = s.accepted; in_turn = s.in_turn; at_most = s.at_most; replied = s.replied; few = s.few; source = s.source }
serves kind bytes run (Replied r ∷ past) p a n f =
    serves-replied kind bytes run r past (serves kind bytes run past p.1 (record { asked = a.asked; read = a.read }) n f) n p.0
serves kind bytes run (Stored b ∷ past) p a n f =
    let s = serves kind bytes run past p.1 (record { asked = a.asked; read = a.read }) n f in
    record { accepted = s.accepted; in_turn = s.in_turn; at_most = s.at_most; replied = s.replied; few = s.few; source = s.source }

pub servers_reply : ServersReply
servers_reply kind bytes run past p a n f =
    let s = serves kind bytes run past p a n f in
    let x = s.few in let y = s.at_most in
    (front_of (length (replies past)) (replies past) (replies_to bytes run) s.replied, omega (arith, x, y))
