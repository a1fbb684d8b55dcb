-- The bytes of a get grow as its server is handed more of them.
use Rattle.std.proofs.Common.{◌≡◌, ◌⊎◌, inl, inr, ℕ, zero, suc, ◌+◌, ◌-◌, ◌*◌, ◌<◌, ◌≤◌, ◌==◌, not, ◌&&◌, Bool, true, false, cond, is_none, Option, Some, None, option_map, List, [], ◌∷◌, ◌++◌, length, take, drop, map, refl, sym, ap, ◌∙◌, subst, arith, append_assoc, length-append}
use Rattle.std.specs.Prelude.{slice_get}
use mathlib.Core.List.{IsPrefix}
use Rattle.std.proofs.lemmas.List.{map-append, length-map, length-drop, take_all, take-append-le, drop-append-le}
use Rattle.std.proofs.Math.Seq.{drop-append_seam}
use Rattle.file_messages.specs.declared.kind.CopyKind.TheVariants as kinds
use Rattle.file_messages.specs.declared.kind.Channel.{Channel}
use Rattle.file_messages.specs.declared.kind.Channel.TheVariants as channels
use Rattle.file_messages.specs.declared.message.Request.{Request}
use Rattle.file_messages.specs.declared.message.Reply.{Reply}
use Rattle.file_messages.specs.declared.job.WorkResult.{WorkResult}
use Rattle.file_messages.specs.Messages.{request_bytes, reply_bytes, success, refusal}
use Rattle.file_messages.specs.Runs.{read_of, reads_from, reads_count, end_request, get_requests, bytes_read, reply_to, replies_to}
use Rattle.file_messages.specs.Written.{IsCopyable}
use Rattle.file_messages.proofs.WrittenCopies.{gets_read}
use Rattle.file_pasts.specs.ClientPast.{requests_sent}
use Rattle.file_pasts.specs.ClientPast as client
use Rattle.file_pasts.specs.GetLaws.{replies_in, IsAnswered}
use Rattle.file_pasts.specs.ServerDue.{ServerEvent, Asked, Filled, Gave, Completed, Replied, Stored, replies, requests, handled, source_in_hand, source_for, wants_source, standing_status, jobs_due, status_of, read_reply, answer_with, IsServer}
use Rattle.file_pasts.specs.ServerLaws.{messages_asked, AsksFor, NothingRefused, FillsFrom}
use Rattle.file_pasts.proofs.Lists.{get_of_front, prefix_before}
use Rattle.file_pasts.proofs.GetLaw.{RunCase, run_case}
use Rattle.file_pasts.proofs.ServerReplies.{Serves, serves, due_reply, results-done}
use Rattle.file_pasts.proofs.ServerJobs.{standing-none, reply_results}
use Rattle.copy_laws.specs.Coupled.{Pasts}
use Rattle.copy_laws.specs.Laws.{AreBetween}
use Rattle.copy_laws.specs.Steps.{client_after}
use Rattle.copy_laws.specs.Growing.{bytes_filled, GetsGrow, GetsHear}
use Rattle.copy_laws.proofs.Tokens.{prefix-trans, prefix-map}
use Rattle.copy_laws.proofs.Heard.{heard-few}

-- how often bytes were handed in
abbrev pub fills : List ServerEvent → ℕ
fills [] = 0
fills (Asked m ∷ past) = fills past
fills (Filled bytes ∷ past) = fills past + 1
fills (Gave work ∷ past) = fills past
fills (Completed c ∷ past) = fills past
fills (Replied r ∷ past) = fills past
fills (Stored bytes ∷ past) = fills past

abbrev pub in_hand : Option (List ℕ) → ℕ
in_hand None = 0
in_hand (Some bytes) = 1

-- ---- the READs of a get

read-length : (channel : Channel) (k : ℕ) → (read_of channel k).length ≡ 65536
read-length channels.None k = refl
read-length channels.V1 k = refl

read-gets : (channel : Channel) (bytes : List ℕ) (k : ℕ) → bytes_read bytes (read_of channel k) ≡ take 65536 (drop (65536 * (k - 1)) bytes)
read-gets channels.None bytes k = refl
read-gets channels.V1 bytes k = refl

-- the reply to a READ by what it gets
read-replied : (channel : Channel) (xs ys : List ℕ) (k : ℕ) → bytes_read xs (read_of channel k) ≡ bytes_read ys (read_of channel k)
    → reply_to xs (read_of channel k) ≡ reply_to ys (read_of channel k)
read-replied channels.None xs ys k same = ap (λ (got : List ℕ). success (read_of channels.None k) (length got) got) same
read-replied channels.V1 xs ys k same = ap (λ (got : List ℕ). success (read_of channels.V1 k) (length got) []) same

-- ---- the READ that wants bytes

pub record WantedRead (channel : Channel) (bytes : List ℕ) (past : List ServerEvent) (most : ℕ) : Type 0 where
  pub less : length (replies past) < reads_count bytes
  pub read : handled kinds.Get past ≡ Some (read_of channel (length (replies past) + 1))
  pub most_is : most ≡ 65536
  pub none : source_in_hand past ≡ None

-- the request that is handled is the next one of the run
handled-at : (channel : Channel) (bytes : List ℕ) (past : List ServerEvent) (q : Request) → Serves kinds.Get bytes (get_requests channel bytes) past → handled kinds.Get past ≡ Some q
    → slice_get (get_requests channel bytes) (length (replies past)) ≡ Some q
handled-at channel bytes past q s h =
    get_of_front (length (requests kinds.Get past).accepted) (get_requests channel bytes) (length (replies past)) q (ap (λ (rs : List Request). slice_get rs (length (replies past))) (sym s.accepted) ∙ h)

pub wanted : (channel : Channel) (bytes : List ℕ) (past : List ServerEvent) (most : ℕ) → Serves kinds.Get bytes (get_requests channel bytes) past → wants_source kinds.Get past ≡ Some most → WantedRead channel bytes past most
unfolding RunCase
wanted channel bytes past most s w = by_handled (handled kinds.Get past) refl w where
  by_tests : (q : Request) (a b : Bool) (o : Option (List ℕ)) → (q.op == 2) ≡ a → source_in_hand past ≡ o → cond ((a && b) && is_none o) (Some q.length) None ≡ Some most
      → ((q.op == 2) ≡ true) × (source_in_hand past ≡ None) × (most ≡ q.length)
  by_tests q true true None e f h = (e, f, (let same : most ≡ q.length = cc in same))
  by_tests q true true (Some x) e f h = absurd (let b : ⊥ = cc in b)
  by_tests q true false o e f h = absurd (let b : ⊥ = cc in b)
  by_tests q false b o e f h = absurd (let b : ⊥ = cc in b)

  by_run : (q : Request) → handled kinds.Get past ≡ Some q → ((q.op == 2) ≡ true) × (source_in_hand past ≡ None) × (most ≡ q.length)
      → ((length (replies past) < reads_count bytes) × (q ≡ read_of channel (length (replies past) + 1)))
      ⊎ ((length (replies past) ≡ reads_count bytes) × (q ≡ end_request (reads_count bytes + 1) (length bytes)))
      → WantedRead channel bytes past most
  by_run q h t (inl x) = record { less = x.0; read = h ∙ ap (λ (r : Request). Some r) x.1; most_is = t.2 ∙ ap (λ (r : Request). r.length) x.1 ∙ read-length channel (length (replies past) + 1); none = t.1 }
  by_run q h t (inr x) = absurd (never (sym (ap (λ (r : Request). r.op == 2) x.1) ∙ t.0)) where
    never : false ≡ true → ⊥
    never k = cc

  by_handled : (o : Option Request) → handled kinds.Get past ≡ o → source_for o past ≡ Some most → WantedRead channel bytes past most
  by_handled None h k = absurd (let b : ⊥ = cc in b)
  by_handled (Some q) h k =
      by_run q h (by_tests q (q.op == 2) (standing_status past == 0) (source_in_hand past) refl refl k)
      (run_case channel bytes (length (replies past)) q (handled-at channel bytes past q s h))

-- a READ that was replied to had its bytes
answered-filled : (channel : Channel) (k : ℕ) (o : Option (List ℕ)) (works : List WorkResult) (r : Reply) → status_of works ≡ 0 → answer_with (read_of channel k) o (Some works) ≡ Some r → in_hand o ≡ 1
answered-filled channel k o works r done h = by_channel channel h where
  by_status : (q : Request) (t : Bool) (o : Option (List ℕ)) → t ≡ true → cond (not t) (Some (refusal q (status_of works))) (option_map (read_reply q) o) ≡ Some r → in_hand o ≡ 1
  by_status q true None e k = absurd (let b : ⊥ = cc in b)
  by_status q true (Some x) e k = refl
  by_status q false o e k = absurd (let b : ⊥ = cc in b)

  by_channel : (c : Channel) → answer_with (read_of c k) o (Some works) ≡ Some r → in_hand o ≡ 1
  by_channel channels.None h = by_status (read_of channels.None k) (status_of works == 0) o (ap (λ (n : ℕ). n == 0) done) h
  by_channel channels.V1 h = by_status (read_of channels.V1 k) (status_of works == 0) o (ap (λ (n : ℕ). n == 0) done) h

-- so bytes were handed in for each READ that was replied to, and perhaps for one more
pub counted : (channel : Channel) (bytes : List ℕ) (past : List ServerEvent) → IsServer kinds.Get past → AsksFor (get_requests channel bytes) past → NothingRefused past → FillsFrom kinds.Get bytes past
    → length (replies past) ≤ reads_count bytes → fills past ≡ length (replies past) + in_hand (source_in_hand past)
unfolding RunCase
counted channel bytes [] p a n f few = refl
counted channel bytes (Asked m ∷ past) p a n f few = counted channel bytes past p.1 (record { asked = prefix_before (messages_asked past) m _ a.asked; read = a.read }) n f few
counted channel bytes (Filled b ∷ past) p a n f few =
    let before : AsksFor (get_requests channel bytes) past = record { asked = a.asked; read = a.read } in
    let w = wanted channel bytes past p.0.0 (serves kinds.Get bytes (get_requests channel bytes) past p.1 before n f.1) p.0.1 in
    let nothing : in_hand (source_in_hand past) ≡ 0 = ap (λ (o : Option (List ℕ)). in_hand o) w.none in
    omega (arith, counted channel bytes past p.1 before n f.1 few, nothing)
counted channel bytes (Gave work ∷ past) p a n f few = counted channel bytes past p.1 (record { asked = a.asked; read = a.read }) n f few
counted channel bytes (Completed c ∷ past) p a n f few = counted channel bytes past p.1 (record { asked = a.asked; read = a.read }) n.1 f few
counted channel bytes (Replied r ∷ past) p a n f few =
    let before : AsksFor (get_requests channel bytes) past = record { asked = a.asked; read = a.read } in
    let s = serves kinds.Get bytes (get_requests channel bytes) past p.1 before n f in
    let more : length (replies past ++ r ∷ []) ≡ length (replies past) + 1 = length-append (replies past) (r ∷ []) in
    let d = due_reply kinds.Get bytes (get_requests channel bytes) past r s n p.0 in
    let w = reply_results kinds.Get past d.0 r (standing-none kinds.Get bytes (get_requests channel bytes) past s) d.1 p.0 in
    let done : status_of w.0 ≡ 0 = results-done _ (jobs_due kinds.Get past) past w.0 n w.1 in
    let one = by_run d.0 w.0 done w.2 (omega (arith, few, more)) (run_case channel bytes (length (replies past)) d.0 (handled-at channel bytes past d.0 s d.1)) in
    omega (arith, counted channel bytes past p.1 before n f (omega (arith, few, more)), one, more)
  where
    by_run : (q : Request) (works : List WorkResult) → status_of works ≡ 0 → answer_with q (source_in_hand past) (Some works) ≡ Some r → length (replies past) < reads_count bytes
        → ((length (replies past) < reads_count bytes) × (q ≡ read_of channel (length (replies past) + 1)))
        ⊎ ((length (replies past) ≡ reads_count bytes) × (q ≡ end_request (reads_count bytes + 1) (length bytes)))
        → in_hand (source_in_hand past) ≡ 1
    by_run q works done h less (inl x) =
        answered-filled channel (length (replies past) + 1) (source_in_hand past) works r done (ap (λ (y : Request). answer_with y (source_in_hand past) (Some works)) (sym x.1) ∙ h)
    by_run q works done h less (inr x) = absurd (let at = x.0 in omega (arith, at, less))
counted channel bytes (Stored b ∷ past) p a n f few = counted channel bytes past p.1 (record { asked = a.asked; read = a.read }) n f few

-- each time at most a group was handed in
pub filled-few : (channel : Channel) (bytes : List ℕ) (past : List ServerEvent) → IsServer kinds.Get past → AsksFor (get_requests channel bytes) past → NothingRefused past → FillsFrom kinds.Get bytes past
    → length (bytes_filled past) ≤ 65536 * fills past
filled-few channel bytes [] p a n f = omega arith
filled-few channel bytes (Asked m ∷ past) p a n f = filled-few channel bytes past p.1 (record { asked = prefix_before (messages_asked past) m _ a.asked; read = a.read }) n f
filled-few channel bytes (Filled b ∷ past) p a n f =
    let before : AsksFor (get_requests channel bytes) past = record { asked = a.asked; read = a.read } in
    let w = wanted channel bytes past p.0.0 (serves kinds.Get bytes (get_requests channel bytes) past p.1 before n f.1) p.0.1 in
    let most = w.most_is in
    let fits = p.0.2 in
    let more = length-append (bytes_filled past) b in
    omega (arith, most, fits, more, filled-few channel bytes past p.1 before n f.1)
filled-few channel bytes (Gave work ∷ past) p a n f = filled-few channel bytes past p.1 (record { asked = a.asked; read = a.read }) n f
filled-few channel bytes (Completed c ∷ past) p a n f = filled-few channel bytes past p.1 (record { asked = a.asked; read = a.read }) n.1 f
filled-few channel bytes (Replied r ∷ past) p a n f = filled-few channel bytes past p.1 (record { asked = a.asked; read = a.read }) n f
filled-few channel bytes (Stored b ∷ past) p a n f = filled-few channel bytes past p.1 (record { asked = a.asked; read = a.read }) n f

-- ---- more bytes change nothing that a READ within the first ones gets

read-before : (bytes more : List ℕ) (at len : ℕ) → at + len ≤ length bytes → take len (drop at (bytes ++ more)) ≡ take len (drop at bytes)
read-before bytes more at len h =
    ap (λ (xs : List ℕ). take len xs) (drop-append-le at bytes more (omega (arith, h)))
    ∙ take-append-le len (drop at bytes) more (let rest = length-drop at bytes in omega (arith, rest, h))

read-same : (channel : Channel) (bytes more : List ℕ) (k : ℕ) → 65536 * (k - 1) + 65536 ≤ length bytes → bytes_read (bytes ++ more) (read_of channel k) ≡ bytes_read bytes (read_of channel k)
read-same channel bytes more k h = read-gets channel (bytes ++ more) k ∙ read-before bytes more (65536 * (k - 1)) 65536 h ∙ sym (read-gets channel bytes k)

fills-more : (channel : Channel) (bytes more : List ℕ) (count : ℕ) (past : List ServerEvent) → IsServer kinds.Get past → AsksFor (get_requests channel bytes) past → NothingRefused past → FillsFrom kinds.Get bytes past
    → fills past ≤ count → 65536 * count ≤ length bytes → FillsFrom kinds.Get (bytes ++ more) past
fills-more channel bytes more count [] p a n f few all = tt
fills-more channel bytes more count (Asked m ∷ past) p a n f few all = fills-more channel bytes more count past p.1 (record { asked = prefix_before (messages_asked past) m _ a.asked; read = a.read }) n f few all
fills-more channel bytes more count (Filled b ∷ past) p a n f few all = (
  (λ r h.
      let same : r ≡ read_of channel (length (replies past) + 1) = one r (read_of channel (length (replies past) + 1)) (sym h ∙ w.read) in
      f.0 r h ∙ ap (λ (q : Request). bytes_read bytes q) same
      ∙ sym (read-same channel bytes more (length (replies past) + 1) inside)
      ∙ sym (ap (λ (q : Request). bytes_read (bytes ++ more) q) same)),
  fills-more channel bytes more count past p.1 before n f.1 (omega (arith, few)) all,
) where
  before : AsksFor (get_requests channel bytes) past
  before = record { asked = a.asked; read = a.read }

  w : WantedRead channel bytes past p.0.0
  w = wanted channel bytes past p.0.0 (serves kinds.Get bytes (get_requests channel bytes) past p.1 before n f.1) p.0.1

  inside : 65536 * (length (replies past) + 1 - 1) + 65536 ≤ length bytes
  inside =
      let less = w.less in
      let total = counted channel bytes past p.1 before n f.1 (omega (arith, less)) in
      omega (arith, few, all, total)

  one : (x y : Request) → Some x ≡ Some y → x ≡ y
  one x y h = cc
fills-more channel bytes more count (Gave work ∷ past) p a n f few all = fills-more channel bytes more count past p.1 (record { asked = a.asked; read = a.read }) n f few all
fills-more channel bytes more count (Completed c ∷ past) p a n f few all = fills-more channel bytes more count past p.1 (record { asked = a.asked; read = a.read }) n.1 f few all
fills-more channel bytes more count (Replied r ∷ past) p a n f few all = fills-more channel bytes more count past p.1 (record { asked = a.asked; read = a.read }) n f few all
fills-more channel bytes more count (Stored b ∷ past) p a n f few all = fills-more channel bytes more count past p.1 (record { asked = a.asked; read = a.read }) n f few all

-- ---- the replies to the first READs

pub reads-split : (channel : Channel) (n m k : ℕ) → reads_from channel (n + m) k ≡ reads_from channel n k ++ reads_from channel m (k + n)
reads-split channel zero m k = ap (λ (i : ℕ). reads_from channel i k) (let z : 0 + m ≡ m = omega arith in z) ∙ ap (λ (i : ℕ). reads_from channel m i) (let z : k ≡ k + 0 = omega arith in z)
reads-split channel (suc n) m k =
    ap (λ (i : ℕ). reads_from channel i k) (let z : suc n + m ≡ suc (n + m) = omega arith in z)
    ∙ ap (λ (rs : List Request). read_of channel k ∷ rs) (reads-split channel n m (k + 1)
    ∙ ap (λ (i : ℕ). reads_from channel n (k + 1) ++ reads_from channel m i) (let z : k + 1 + n ≡ k + suc n = omega arith in z))

pub length-reads : (channel : Channel) (n k : ℕ) → length (reads_from channel n k) ≡ n
length-reads channel zero k = refl
length-reads channel (suc n) k = (let z = length-reads channel n (k + 1) in omega (arith, z))

abbrev first_replies : Channel → List ℕ → ℕ → List (List ℕ)
first_replies channel bytes n = map reply_bytes (map (reply_to bytes) (reads_from channel n 1))

replies-split : (channel : Channel) (bytes : List ℕ) (n : ℕ) → 65536 * n ≤ length bytes
    → (rest : List (List ℕ)) × (map reply_bytes (replies_to bytes (get_requests channel bytes)) ≡ first_replies channel bytes n ++ rest)
replies-split channel bytes n h =
    let m = reads_count bytes - n in
    let end = end_request (reads_count bytes + 1) (length bytes) in
    let later = reads_from channel m (1 + n) ++ end ∷ [] in
    let all : reads_count bytes ≡ n + m = omega (arith, h) in
    let run : get_requests channel bytes ≡ reads_from channel n 1 ++ later =
    ap (λ (rs : List Request). rs ++ end ∷ []) (ap (λ (i : ℕ). reads_from channel i 1) all ∙ reads-split channel n m 1)
    ∙ append_assoc (reads_from channel n 1) (reads_from channel m (1 + n)) (end ∷ []) in (
      map reply_bytes (map (reply_to bytes) later),
      ap (λ (rs : List Request). map reply_bytes (map (reply_to bytes) rs)) run
          ∙ ap (λ (rs : List Reply). map reply_bytes rs) (map-append (reply_to bytes) (reads_from channel n 1) later)
          ∙ map-append reply_bytes (map (reply_to bytes) (reads_from channel n 1)) (map (reply_to bytes) later),
    )

same-replies : (channel : Channel) (bytes more : List ℕ) (n k : ℕ) → 1 ≤ k → 65536 * (k - 1 + n) ≤ length bytes
    → map (reply_to (bytes ++ more)) (reads_from channel n k) ≡ map (reply_to bytes) (reads_from channel n k)
same-replies channel bytes more zero k first h = refl
same-replies channel bytes more (suc n) k first h =
    ap (λ (r : Reply). r ∷ map (reply_to (bytes ++ more)) (reads_from channel n (k + 1)))
    (read-replied channel (bytes ++ more) bytes k (read-same channel bytes more k (omega (arith, h))))
    ∙ ap (λ (rs : List Reply). reply_to bytes (read_of channel k) ∷ rs) (same-replies channel bytes more n (k + 1) (omega arith) (omega (arith, h, first)))

pub prefix-short : {X : Type 0} (xs front a b : List X) → length xs ≤ length front → IsPrefix xs (front ++ a) → IsPrefix xs (front ++ b)
prefix-short [] front a b h p = (front ++ b, refl)
prefix-short (x ∷ xs) [] a b h p = absurd (omega (arith, h))
prefix-short (x ∷ xs) (y ∷ front) a b h p =
    let e : x ∷ (xs ++ p.0) ≡ y ∷ (front ++ a) = p.1 in
    let head : x ≡ y = cc in
    let rest : xs ++ p.0 ≡ front ++ a = cc in
    let later = prefix-short xs front a b (omega (arith, h)) (p.0, rest) in
    (later.0, ap (λ (l : List _). x ∷ l) later.1 ∙ ap (λ (z : _). z ∷ (front ++ b)) head)

answered-more : (channel : Channel) (bytes more : List ℕ) (n : ℕ) (heard : List (List ℕ)) → 65536 * n ≤ length bytes → length heard ≤ n
    → IsPrefix heard (map reply_bytes (replies_to bytes (get_requests channel bytes))) → IsPrefix heard (map reply_bytes (replies_to (bytes ++ more) (get_requests channel (bytes ++ more))))
answered-more channel bytes more n heard whole few p =
    let old = replies-split channel bytes n whole in
    let new = replies-split channel (bytes ++ more) n (let long = length-append bytes more in omega (arith, long, whole)) in
    let front = first_replies channel bytes n in
    let long : length front ≡ n = length-map (map (reply_to bytes) (reads_from channel n 1)) reply_bytes ∙ length-map (reads_from channel n 1) (reply_to bytes) ∙ length-reads channel n 1 in
    let same : first_replies channel (bytes ++ more) n ≡ front = ap (λ (rs : List Reply). map reply_bytes rs) (same-replies channel bytes more n 1 (omega arith) (omega (arith, whole))) in
    subst (λ (ms : List (List ℕ)). IsPrefix heard ms) (sym (new.1 ∙ ap (λ (ms : List (List ℕ)). ms ++ new.0) same))
    (prefix-short heard front old.0 new.0 (omega (arith, few, long)) (subst (λ (ms : List (List ℕ)). IsPrefix heard ms) old.1 p))

-- ---- the laws

-- the server of a get of these bytes was handed its first requests
pub get-asks : (channel : Channel) (bytes : List ℕ) (p : Pasts) → IsCopyable bytes → AreBetween p → IsPrefix (requests_sent p.client) (get_requests channel bytes)
    → AsksFor (get_requests channel bytes) p.server
get-asks channel bytes p copyable between asked = record {
  asked = prefix-trans (messages_asked p.server) (map request_bytes (requests_sent p.client)) (map request_bytes (get_requests channel bytes)) between.to_server
      (prefix-map request_bytes (requests_sent p.client) (get_requests channel bytes) asked);
  read = gets_read channel bytes copyable;
}

pub gets-grow : GetsGrow
gets-grow channel p more served between copyable fed told come follows =
    let bytes = bytes_filled p.server in
    let run = get_requests channel bytes in
    let asks = get-asks channel bytes p copyable between come.asked in
    let w = wanted channel bytes p.server follows.0 (serves kinds.Get bytes run p.server served asks come.refused fed) follows.1 in
    let n = length (replies p.server) in
    let less = w.less in
    let nothing : in_hand (source_in_hand p.server) ≡ 0 = ap (λ (o : Option (List ℕ)). in_hand o) w.none in
    let count = counted channel bytes p.server served asks come.refused fed (omega (arith, less)) in
    let whole : length bytes ≡ 65536 * n = omega (arith, less, nothing, count, filled-few channel bytes p.server served asks come.refused fed) in
    let most = w.most_is in
    let fits : length more ≤ 65536 = (let z = follows.2 in omega (arith, z, most)) in (
      (
        (λ r h. sym (ap (λ (q : Request). bytes_read (bytes ++ more) q) (one r (read_of channel (n + 1)) (sym h ∙ w.read))
            ∙ read-gets channel (bytes ++ more) (n + 1)
            ∙ ap (λ (k : ℕ). take 65536 (drop k (bytes ++ more))) (let z : 65536 * (n + 1 - 1) ≡ length bytes = omega (arith, whole) in z)
            ∙ ap (λ (xs : List ℕ). take 65536 xs) (drop-append_seam bytes more) ∙ take_all 65536 more fits)),
        fills-more channel bytes more n p.server served asks come.refused fed (omega (arith, nothing, count)) (omega (arith, whole)),
      ),
      answered-more channel bytes more n (replies_in p.client) (omega (arith, whole)) (heard-few p between) told,
    )
  where
    one : (x y : Request) → Some x ≡ Some y → x ≡ y
    one x y h = cc

-- a client that heard what its server replied is answered as the get's bytes have it
pub get-answered : (channel : Channel) (bytes : List ℕ) (p : Pasts) → IsPrefix (replies p.server) (replies_to bytes (get_requests channel bytes)) → AreBetween p → IsAnswered channel bytes p.client
get-answered channel bytes p answered between =
    prefix-trans (replies_in p.client) (map reply_bytes (replies p.server)) (map reply_bytes (replies_to bytes (get_requests channel bytes))) between.to_client
    (prefix-map reply_bytes (replies p.server) (replies_to bytes (get_requests channel bytes)) answered)

pub gets-hear : GetsHear
gets-hear channel p bytes message come between = get-answered channel bytes (client_after (client.Replied message) p) come.answered between
