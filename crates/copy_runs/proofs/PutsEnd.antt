-- A put of either channel, where the reply to END was taken.
use Rattle.std.proofs.Common.{◌≡◌, ℕ, zero, suc, ◌+◌, ◌<◌, ◌≤◌, ◌==◌, nat_le, ◌&&◌, Bool, true, false, cond, Option, Some, None, List, [], ◌∷◌, ◌++◌, length, map, refl, sym, ap, ◌∙◌, subst, arith, length-append}
use Rattle.std.specs.Prelude.{slice_get}
use mathlib.Core.List.{IsPrefix}
use Rattle.std.proofs.lemmas.Bool.Decides.{nat_tests}
use Rattle.std.proofs.lemmas.List.{length-map}
use Rattle.smbd_base.specs.Pages.{PageState}
use Rattle.file_messages.specs.declared.kind.Channel.{Channel}
use Rattle.file_messages.specs.declared.kind.Channel.TheVariants as channels
use Rattle.file_messages.specs.declared.kind.CopyKind.TheVariants as kinds
use Rattle.file_messages.specs.declared.message.Request.{Request}
use Rattle.file_messages.specs.declared.message.Reply.{Reply}
use Rattle.file_messages.specs.Messages.{request_bytes, reply_bytes}
use Rattle.file_messages.specs.Runs.{windows, groups_of, write_of, writes_from, end_request, end_if, put_requests, reply_to, replies_to}
use Rattle.file_messages.proofs.WrittenCopies.{puts_read}
use Rattle.file_pasts.specs.ClientPast.{groups_in, is_ended, requests_sent, are_answered}
use Rattle.file_pasts.specs.PutDue.{is_finished}
use Rattle.file_pasts.specs.PutLaws.{put_over, bytes_in}
use Rattle.file_pasts.specs.GetLaws.{replies_in}
use Rattle.file_pasts.specs.ServerDue as server
use Rattle.file_pasts.specs.ServerDue.{ServerEvent, Asked, Filled, Gave, Completed, Replied, Stored, replies, requests, results, jobs_due, status_of, group_of, group_if_handled, group_in_hand, groups_replied, groups_stored, IsServer}
use Rattle.file_pasts.specs.ServerLaws.{messages_asked, groups_given, AsksFor, NothingRefused, FillsFrom}
use Rattle.file_pasts.proofs.Lists.{get_of_front, prefix_before}
use Rattle.file_pasts.proofs.Naming.{in_turn}
use Rattle.file_pasts.proofs.PutLaw.{groups_joined}
use Rattle.file_pasts.proofs.ServerReplies.{serves, due_reply, results-done}
use Rattle.file_pasts.proofs.ServerJobs.{standing-none, reply_results}
use Rattle.page_workers.specs.Workers.{WorkerState}
use Rattle.copy_laws.specs.Coupled.{Pasts}
use Rattle.copy_laws.proofs.Eaches.{each-append}
use Rattle.copy_laws.proofs.Tokens.{prefix-trans, prefix-map}
use Rattle.copy_laws.proofs.Heard.{heard-few}
use Rattle.copy_laws.proofs.PutServers.{IsNoRead, no-reads, no-end-read, put-fills, registered-puts-come}
use Rattle.copy_laws.proofs.InlinePuts.{inline-puts-come}
use Rattle.copy_runs.specs.CopyPasts.{IsCopy}
use Rattle.copy_runs.specs.Laws.{IsWhole}
use Rattle.copy_runs.proofs.EndLists.{front-all, none-at, length-put}
use Rattle.copy_runs.proofs.AllAnswered.{all-heard}

-- ---- the groups that the server's requests brought

-- the first so many requests are WRITEs
abbrev WritesFirst : ℕ → List Request → Type 0
WritesFirst count run = (n : ℕ) (q : Request) → n < count → slice_get run n ≡ Some q → (q.op == 1) ≡ true

write-op : (channel : Channel) (w k offset : ℕ) (g : List ℕ) → ((write_of channel w k offset g).op == 1) ≡ true
write-op channels.None w k offset g = refl
write-op channels.V1 w k offset g = refl

writes-first : (channel : Channel) (w k offset : ℕ) (groups : List (List ℕ)) (tail : List Request) → WritesFirst (length groups) (writes_from channel w k offset groups ++ tail)
writes-first channel w k offset [] tail n q less at = absurd (omega (arith, less))
writes-first channel w k offset (g ∷ groups) tail zero q less at =
    let same : write_of channel w k offset g ≡ q = cc in
    ap (λ (r : Request). r.op == 1) (sym same) ∙ write-op channel w k offset g
writes-first channel w k offset (g ∷ groups) tail (suc n) q less at = writes-first channel w (k + 1) (offset + length g) groups tail n q (omega (arith, less)) at

stored-given : (past : List ServerEvent) → groups_stored past ≡ length (groups_given past)
stored-given [] = refl
stored-given (Asked m ∷ past) = stored-given past
stored-given (Filled b ∷ past) = stored-given past
stored-given (Gave w ∷ past) = stored-given past
stored-given (Completed c ∷ past) = stored-given past
stored-given (Replied r ∷ past) = stored-given past
stored-given (Stored b ∷ past) = (let z = stored-given past in let more : length (groups_given past ++ b ∷ []) ≡ length (groups_given past) + 1 = length-append (groups_given past) (b ∷ []) in omega (arith, z, more))

module _ (bytes : List ℕ) (run : List Request) (count : ℕ) (writes : WritesFirst count run) where
  -- a WRITE that is replied to brings its group
  one-brought : (r : Reply) (past : List ServerEvent) → IsServer kinds.Put (Replied r ∷ past) → AsksFor run past → NothingRefused past → FillsFrom kinds.Put bytes past
      → length (replies past) < count → length (group_in_hand kinds.Put past) ≡ 1
  one-brought r past p a n f less =
      let s = serves kinds.Put bytes run past p.1 a n f in
      let d = due_reply kinds.Put bytes run past r s n p.0 in
      let standing = standing-none kinds.Put bytes run past s in
      let w = reply_results kinds.Put past d.0 r standing d.1 p.0 in
      let done : status_of w.0 ≡ 0 = results-done _ (jobs_due kinds.Put past) past w.0 n w.1 in
      let at : slice_get run (length (replies past)) ≡ Some d.0 =
      get_of_front (length (requests kinds.Put past).accepted) run (length (replies past)) d.0 (ap (λ (rs : List Request). slice_get rs (length (replies past))) (sym s.accepted) ∙ d.1) in
      let group : group_in_hand kinds.Put past ≡ group_of d.0 (Some w.0) =
      ap (λ (o : Option Request). group_if_handled kinds.Put o past) d.1
      ∙ ap (λ (t : ℕ). cond (t == 0) (group_of d.0 (results kinds.Put past)) []) standing ∙ ap (group_of d.0) w.1 in
      ap (λ (gs : List (List ℕ)). length gs) group
      ∙ one (d.0.op == 1) (status_of w.0 == 0) _ (writes (length (replies past)) d.0 less at) (ap (λ (t : ℕ). t == 0) done)
    where
      one : (x y : Bool) (g : List ℕ) → x ≡ true → y ≡ true → length (cond (x && y) (g ∷ []) []) ≡ 1
      one true true g d e = refl
      one true false g d e = absurd (let z : ⊥ = cc in z)
      one false y g d e = absurd (let z : ⊥ = cc in z)

  brought : (past : List ServerEvent) → IsServer kinds.Put past → AsksFor run past → NothingRefused past → FillsFrom kinds.Put bytes past
      → (k : ℕ) → k ≤ count → k ≤ length (replies past) → k ≤ length (groups_replied kinds.Put past)
  brought [] p a n f k few less = less
  brought (Asked m ∷ past) p a n f k few less = brought past p.1 (record { asked = prefix_before (messages_asked past) m _ a.asked; read = a.read }) n f k few less
  brought (Filled b ∷ past) p a n f k few less = brought past p.1 (record { asked = a.asked; read = a.read }) n f.1 k few less
  brought (Gave w ∷ past) p a n f k few less = brought past p.1 (record { asked = a.asked; read = a.read }) n f k few less
  brought (Completed c ∷ past) p a n f k few less = brought past p.1 (record { asked = a.asked; read = a.read }) n.1 f k few less
  brought (Replied r ∷ past) p a n f k few less =
      by_last (nat_le k (length (replies past))) refl (brought past p.1 before n f)
    where
      before : AsksFor run past
      before = record { asked = a.asked; read = a.read }

      long : length (groups_replied kinds.Put past ++ group_in_hand kinds.Put past) ≡ length (groups_replied kinds.Put past) + length (group_in_hand kinds.Put past)
      long = length-append (groups_replied kinds.Put past) (group_in_hand kinds.Put past)

      more : length (replies past ++ r ∷ []) ≡ length (replies past) + 1
      more = length-append (replies past) (r ∷ [])

      by_last : (t : Bool) → nat_le k (length (replies past)) ≡ t → ((j : ℕ) → j ≤ count → j ≤ length (replies past) → j ≤ length (groups_replied kinds.Put past))
          → k ≤ length (groups_replied kinds.Put past ++ group_in_hand kinds.Put past)
      by_last true t ih =
          let within : k ≤ length (replies past) = grind (arith, nat_tests) in
          let z = ih k few within in
          omega (arith, z, long)
      by_last false t ih =
          let beyond : length (replies past) < k = grind (arith, nat_tests) in
          let z = ih (length (replies past)) (omega (arith, beyond, few)) (omega arith) in
          let one = one-brought r past p before n f (omega (arith, beyond, few)) in
          omega (arith, z, one, long, less, more)
  brought (Stored b ∷ past) p a n f k few less = brought past p.1 (record { asked = a.asked; read = a.read }) n f k few less

-- ---- what is known of a put of either channel

record PutComes (channel : Channel) (count : ℕ) (p : Pasts) : Type 0 where
  asked : IsPrefix (requests_sent p.client) (put_requests channel count (is_ended p.client) (bytes_in p.client))
  refused : NothingRefused p.server
  answered : IsPrefix (replies p.server) (replies_to (bytes_in p.client) (put_requests channel count (is_ended p.client) (bytes_in p.client)))
  stored : IsPrefix (groups_given p.server) (groups_of (bytes_in p.client))

put-comes : (channel : Channel) (workers count : ℕ) (p : Pasts) (pages : List PageState) (cs ss : List WorkerState) → IsCopy kinds.Put channel workers count p pages cs ss → PutComes channel count p
put-comes channels.None workers count p pages cs ss c =
    let x = inline-puts-come workers count p pages cs ss c.some c.pool c.coupled c.client c.server c.copyable c.between in
    record { asked = x.asked; refused = x.refused; answered = x.answered; stored = x.stored }
put-comes channels.V1 workers count p pages cs ss c =
    let x = registered-puts-come workers count p pages cs ss c.some c.pool c.coupled c.client c.server c.copyable c.between in
    record { asked = x.asked; refused = x.refused; answered = x.answered; stored = x.stored }

-- ---- it is whole

finished-parts : (sent groups : ℕ) (answered : Bool) → ((sent == groups + 1) && answered) ≡ true → (sent ≡ groups + 1) × (answered ≡ true)
finished-parts sent groups answered e = by_tests (sent == groups + 1) answered refl e where
  by_tests : (x y : Bool) → (sent == groups + 1) ≡ x → (x && y) ≡ true → (sent ≡ groups + 1) × (y ≡ true)
  by_tests true true t h = ((let z : sent ≡ groups + 1 = grind (arith, nat_tests) in z), refl)
  by_tests true false t h = absurd (let z : ⊥ = cc in z)
  by_tests false y t h = absurd (let z : ⊥ = cc in z)

module _ (channel : Channel) (workers count : ℕ) (p : Pasts) (pages : List PageState) (cs ss : List WorkerState) (c : IsCopy kinds.Put channel workers count p pages cs ss)
    (over : is_finished p.client ≡ true) where
  abbrev bytes : List ℕ
  bytes = bytes_in p.client

  abbrev run : List Request
  run = put_requests channel count true bytes

  come : PutComes channel count p
  come = put-comes channel workers count p pages cs ss c

  parts : (length (requests_sent p.client) ≡ length (groups_in p.client) + 1) × (are_answered p.client ≡ true)
  parts = finished-parts (length (requests_sent p.client)) (length (groups_in p.client)) (are_answered p.client) over

  pub put-ended : is_ended p.client ≡ true
  put-ended = by_end (is_ended p.client) refl where
    by_end : (t : Bool) → is_ended p.client ≡ t → is_ended p.client ≡ true
    by_end true e = e
    by_end false e = (let few = (in_turn (put_over channel count) p.client c.client).1 e in let all = parts.0 in absurd (omega (arith, few, all)))

  -- all requests were sent, and all replies came
  groups-long : length (groups_of bytes) ≡ length (groups_in p.client)
  groups-long = ap (λ (gs : List (List ℕ)). length gs) (groups_joined (put_over channel count) p.client c.client)

  run-long : length run ≡ length (requests_sent p.client)
  run-long = (let long = length-put channel count bytes in let all = parts.0 in omega (arith, long, all, groups-long))

  asked : IsPrefix (requests_sent p.client) run
  asked = subst (λ (t : Bool). IsPrefix (requests_sent p.client) (put_requests channel count t bytes)) put-ended come.asked

  answered : IsPrefix (replies p.server) (replies_to bytes run)
  answered = subst (λ (t : Bool). IsPrefix (replies p.server) (replies_to bytes (put_requests channel count t bytes))) put-ended come.answered

  all-came : length run ≤ length (replies_in p.client)
  all-came = (let all = all-heard p.client parts.1 in omega (arith, all, run-long))

  pub put-answered : replies_in p.client ≡ map reply_bytes (replies_to bytes run)
  put-answered =
      front-all (replies_in p.client) (map reply_bytes (replies_to bytes run))
      (prefix-trans (replies_in p.client) (map reply_bytes (replies p.server)) (map reply_bytes (replies_to bytes run)) c.between.to_client (prefix-map reply_bytes (replies p.server) (replies_to bytes run) answered))
      (let long = length-map (replies_to bytes run) reply_bytes in let longer = length-map run (reply_to bytes) in omega (arith, long, longer, all-came))

  -- all groups were given
  asks : AsksFor run p.server
  asks = record {
    asked = prefix-trans (messages_asked p.server) (map request_bytes (requests_sent p.client)) (map request_bytes run) c.between.to_server (prefix-map request_bytes (requests_sent p.client) run asked);
    read = puts_read channel count true bytes c.pool c.copyable;
  }

  fills : FillsFrom kinds.Put bytes p.server
  fills =
      put-fills bytes run p.server
      (each-append IsNoRead (writes_from channel (windows count) 1 0 (groups_of bytes)) (end_if true (end_request (length (groups_of bytes) + 1) (length bytes)))
      (no-reads channel (windows count) 1 0 (groups_of bytes)) (no-end-read (length (groups_of bytes) + 1) (length bytes) true))
      c.server asks come.refused

  pub put-groups : server.next_group kinds.Put p.server ≡ None → groups_given p.server ≡ groups_of bytes
  put-groups none =
      let left = none-at (groups_replied kinds.Put p.server ++ group_in_hand kinds.Put p.server) (groups_stored p.server) none in
      let there = length-append (groups_replied kinds.Put p.server) (group_in_hand kinds.Put p.server) in
      let heard = heard-few p c.between in
      let long = length-put channel count bytes in
      let all =
      brought bytes run (length (groups_of bytes))
      (writes-first channel (windows count) 1 0 (groups_of bytes) (end_if true (end_request (length (groups_of bytes) + 1) (length bytes))))
      p.server c.server asks come.refused fills (length (groups_of bytes)) (omega arith) (omega (arith, all-came, heard, long)) in
      front-all (groups_given p.server) (groups_of bytes) come.stored (omega (arith, left, there, all, stored-given p.server))

pub put-whole : (channel : Channel) (workers count : ℕ) (p : Pasts) (pages : List PageState) (cs ss : List WorkerState) → IsCopy kinds.Put channel workers count p pages cs ss
    → is_finished p.client ≡ true → server.next_group kinds.Put p.server ≡ None → IsWhole kinds.Put channel count p
put-whole channel workers count p pages cs ss c over none = record {
  ended = put-ended channel workers count p pages cs ss c over;
  groups = put-groups channel workers count p pages cs ss c over none;
  answered = put-answered channel workers count p pages cs ss c over;
}
