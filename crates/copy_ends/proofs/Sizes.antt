-- How long the messages of a copy are.
use Rattle.std.proofs.Common.{◌≡◌, inl, inr, ℕ, zero, suc, ◌+◌, ◌*◌, ◌≤◌, ◌==◌, not, ◌||◌, Bool, true, false, cond, Option, Some, None, List, [], ◌∷◌, ◌++◌, length, refl, sym, ap, ◌∙◌, subst, length-append, arith}
use Rattle.std.specs.Prelude.{slice_get, option_map}
use Rattle.std.specs.List.{flat_map}
use Rattle.buffer_descriptor.specs.declared.descriptor.Descriptor.{Descriptor}
use Rattle.buffer_descriptor.specs.Descriptors.{descriptor_bytes}
use Rattle.file_messages.specs.declared.kind.Channel.{Channel}
use Rattle.file_messages.specs.declared.kind.Channel.TheVariants as channels
use Rattle.file_messages.specs.declared.kind.CopyKind.{CopyKind}
use Rattle.file_messages.specs.declared.kind.CopyKind.TheVariants as kinds
use Rattle.file_messages.specs.declared.message.Request.{Request}
use Rattle.file_messages.specs.declared.message.Reply.{Reply}
use Rattle.file_messages.specs.declared.job.WorkResult.{WorkResult}
use Rattle.file_messages.specs.Messages.{WRITE, READ, request_bytes, reply_bytes, success, refusal}
use Rattle.file_messages.specs.Runs.{pages_of, page_of, windows, inline_write, registered_write, end_request}
use Rattle.file_pasts.specs.ClientPast.{ClientEvent, groups_in, requests_sent, total, has_failed}
use Rattle.file_pasts.specs.PutDue.{IsPut, in_front, descriptors_for, bytes_before}
use Rattle.file_pasts.specs.PutDue as puts
use Rattle.file_pasts.specs.GetDue.{sent, counts_taken, sum_of, has_ended, is_between_rounds, goes_on, read_due, read_request, descriptors_loaded}
use Rattle.file_pasts.specs.GetDue as gets
use Rattle.file_pasts.specs.PutLaws.{put_over}
use Rattle.file_pasts.specs.ServerDue.{ServerEvent, replies, requests, handled, source_in_hand, standing_status, results, status_of, answer_with, reply_by_works, reply_if_handled, read_reply, next_reply}
use Rattle.file_pasts.proofs.PutLaw.{SentCase, sent_case}
use Rattle.file_pasts.proofs.Naming.{all_short, few_pages}
use Rattle.file_pasts.proofs.GroupLemmas.{short_at}
use Rattle.file_pasts.specs.ClientPast.{descriptors_on}
use Rattle.file_transfer.proofs.PutBounds.{descriptors-length}
use Rattle.file_transfer.proofs.GetRounds.{read-names}
use Rattle.file_server.specs.declared.server.FileServer.{FileServer}
use Rattle.file_server.specs.ServerStands.{CameBy, IsSource}
use Rattle.file_server.specs.ServerTurn.{IsWithinBounds}
use Rattle.file_server.proofs.ServerPasts.{request_at}
use Rattle.copy_ends.specs.declared.client_machine.ClientMachine.{ClientMachine}
use Rattle.copy_ends.specs.declared.client_machine.ClientMachine.TheVariants.{Put, Get}
use Rattle.copy_ends.specs.Clients.{ClientCameBy}
use Rattle.copy_laws.specs.Kinds.{request_due}
use Rattle.copy_ends.specs.Turns.{IsSendable}

-- ---- requests

descriptors_length : (list : List Descriptor) → length (flat_map descriptor_bytes list) ≡ 16 * length list
descriptors_length [] = refl
descriptors_length (d ∷ list) =
    let one : length (descriptor_bytes d) ≡ 16 = refl in
    let more : length (flat_map descriptor_bytes (d ∷ list)) ≡ length (descriptor_bytes d) + length (flat_map descriptor_bytes list) =
    length-append (descriptor_bytes d) (flat_map descriptor_bytes list) in
    omega (arith, more, one, descriptors_length list)

-- a request names at most 16 pages or carries at most 65,536 bytes
record IsShort (r : Request) : Type 0 where
  few : length r.descriptors ≤ 16
  short : length r.inline ≤ 65536

sendable_request : (r : Request) → IsShort r → IsSendable (request_bytes r)
sendable_request r s =
    let list : List ℕ = flat_map descriptor_bytes r.descriptors in
    let body : length (list ++ r.inline) ≡ 16 * length r.descriptors + length r.inline =
    length-append list r.inline ∙ ap (λ (n : ℕ). n + length r.inline) (descriptors_length r.descriptors) in
    let all : length (request_bytes r) ≡ 24 + length (list ++ r.inline) = omega arith in
    let few = s.few in let short = s.short in
    record { some = omega (arith, all); short = omega (arith, all, body) }

short_as : (q r : Request) → q ≡ r → IsShort q → IsShort r
short_as q r is s = subst IsShort is s

short_end : (k offset : ℕ) → IsShort (end_request k offset)
short_end k offset = record { few = omega arith; short = omega arith }

put_short : (channel : Channel) (pages : ℕ) (past : List ClientEvent) (r : Request) → IsPut (put_over channel pages) past → puts.next_request (put_over channel pages) past ≡ Some r
    → IsShort r
unfolding SentCase
put_short channels.None pages past r p e = by_case (sent_case (put_over channels.None pages) past r e) where
  by_case : SentCase (put_over channels.None pages) past r → IsShort r
  by_case (inl x) =
      let is : inline_write (length (requests_sent past) + 1) (bytes_before (length (requests_sent past) + 1) past) x.0 ≡ r = cc in
      let short = short_at (length (requests_sent past)) (groups_in past) x.0 (all_short (put_over channels.None pages) past p) x.1 in
      short_as (inline_write (length (requests_sent past) + 1) (bytes_before (length (requests_sent past) + 1) past) x.0) r is (record { few = omega arith; short = short })
  by_case (inr x) = short_as (end_request (length (requests_sent past) + 1) (total (groups_in past))) r (sym x.2) (short_end (length (requests_sent past) + 1) (total (groups_in past)))
put_short channels.V1 pages past r p e = by_case (sent_case (put_over channels.V1 pages) past r e) where
  by_write : (group : List ℕ) → length group ≤ 65536 → (o : Option (List Descriptor)) → descriptors_for (page_of (windows pages) (length (requests_sent past) + 1) 0) (pages_of group) past ≡ o
      → option_map (registered_write (length (requests_sent past) + 1) (bytes_before (length (requests_sent past) + 1) past) group) o ≡ Some r → IsShort r
  by_write group short None d h = absurd (let b : ⊥ = cc in b)
  by_write group short (Some ds) d h =
      let is : registered_write (length (requests_sent past) + 1) (bytes_before (length (requests_sent past) + 1) past) group ds ≡ r = cc in
      let count = descriptors-length (page_of (windows pages) (length (requests_sent past) + 1) 0) (pages_of group) past ds d in
      let few = few_pages group short in
      short_as (registered_write (length (requests_sent past) + 1) (bytes_before (length (requests_sent past) + 1) past) group ds) r is (record { few = omega (arith, count, few); short = omega arith })

  by_case : SentCase (put_over channels.V1 pages) past r → IsShort r
  by_case (inl x) =
      by_write x.0 (short_at (length (requests_sent past)) (groups_in past) x.0 (all_short (put_over channels.V1 pages) past p) x.1)
      (descriptors_for (page_of (windows pages) (length (requests_sent past) + 1) 0) (pages_of x.0) past) refl x.2
  by_case (inr x) = short_as (end_request (length (requests_sent past) + 1) (total (groups_in past))) r (sym x.2) (short_end (length (requests_sent past) + 1) (total (groups_in past)))

loaded_count : (n i turn : ℕ) (past : List ClientEvent) (ds : List Descriptor) → descriptors_loaded n i turn past ≡ Some ds → length ds ≡ n
loaded_count zero i turn past ds e = let h : ds ≡ [] = cc in ap length h
loaded_count (suc n) i turn past ds e = by_parts (slice_get (descriptors_on i past) turn) (descriptors_loaded n (i + 1) turn past) refl e (λ later q. loaded_count n (i + 1) turn past later q) where
  by_parts : (o : Option Descriptor) (l : Option (List Descriptor)) → descriptors_loaded n (i + 1) turn past ≡ l → in_front o l ≡ Some ds
      → ((later : List Descriptor) → descriptors_loaded n (i + 1) turn past ≡ Some later → length later ≡ n) → length ds ≡ suc n
  by_parts None l q h ih = absurd (let b : ⊥ = cc in b)
  by_parts (Some d) None q h ih = absurd (let b : ⊥ = cc in b)
  by_parts (Some d) (Some later) q h ih = let same : ds ≡ d ∷ later = cc in omega (arith, ap length same, ih later q)

read_short : (channel : Channel) (past : List ClientEvent) (r : Request) → read_due channel past ≡ Some r → IsShort r
read_short channels.None past r e =
    let is : read_request 0 (sent past + 1) (sum_of (counts_taken past)) [] ≡ r = cc in
    short_as (read_request 0 (sent past + 1) (sum_of (counts_taken past)) []) r is (record { few = omega arith; short = omega arith })
read_short channels.V1 past r e =
    let n = read-names past r e in
    let count = loaded_count 16 0 (sent past) past n.ds n.loaded in
    short_as (read_request 1 (sent past + 1) (sum_of (counts_taken past)) n.ds) r (sym n.read) (record { few = omega (arith, count); short = omega arith })

get_short : (channel : Channel) (past : List ClientEvent) (r : Request) → gets.next_request channel past ≡ Some r → IsShort r
get_short channel past r e = by_tests (has_failed past || has_ended (requests_sent past)) (not (is_between_rounds channel past)) (goes_on past) e where
  by_tests : (over waits more : Bool)
      → cond over None (cond waits None (cond more (read_due channel past) (Some (end_request (sent past + 1) (sum_of (counts_taken past)))))) ≡ Some r → IsShort r
  by_tests true waits more h = absurd (let b : ⊥ = cc in b)
  by_tests false true more h = absurd (let b : ⊥ = cc in b)
  by_tests false false true h = read_short channel past r h
  by_tests false false false h =
      let is : end_request (sent past + 1) (sum_of (counts_taken past)) ≡ r = cc in
      short_as (end_request (sent past + 1) (sum_of (counts_taken past))) r is (short_end (sent past + 1) (sum_of (counts_taken past)))

pub request_sendable : (kind : CopyKind) (channel : Channel) (pages : ℕ) (past : List ClientEvent) (m : ClientMachine) (r : Request) → ClientCameBy kind channel pages past m
    → request_due kind channel pages past ≡ Some r → IsSendable (request_bytes r)
request_sendable kinds.Put channel pages past (Put m) r came e = sendable_request r (put_short channel pages past r came.requests.lawful e)
request_sendable kinds.Put channel pages past (Get m) r came e = absurd came
request_sendable kinds.Get channel pages past (Put m) r came e = absurd came
request_sendable kinds.Get channel pages past (Get m) r came e = sendable_request r (get_short channel past r e)

-- ---- replies

sendable_reply : (r : Reply) → length r.inline ≤ 65536 → IsSendable (reply_bytes r)
sendable_reply r short =
    let all : length (reply_bytes r) ≡ 12 + length r.inline = omega arith in
    record { some = omega (arith, all); short = omega (arith, all) }

short_reply : (q r : Reply) → q ≡ r → length q.inline ≤ 65536 → length r.inline ≤ 65536
short_reply q r is s = subst (λ (x : Reply). length x.inline ≤ 65536) is s

carried_short : (c : Bool) (bytes : List ℕ) → length bytes ≤ 65536 → length (cond c bytes []) ≤ 65536
carried_short true bytes s = s
carried_short false bytes s = omega arith

read_reply_short : (q : Request) (r : Reply) (source : Option (List ℕ)) → q.length ≤ 65536 → IsSource (Some q) source → option_map (read_reply q) source ≡ Some r → length r.inline ≤ 65536
read_reply_short q r None few s e = absurd (let b : ⊥ = cc in b)
read_reply_short q r (Some bytes) few s e =
    let is : read_reply q bytes ≡ r = cc in
    let short = s.1 in
    short_reply (read_reply q bytes) r is (carried_short (q.channel == 0) bytes (omega (arith, short)))

works_short : (q : Request) (r : Reply) (source : Option (List ℕ)) (works : List WorkResult) → q.length ≤ 65536 → IsSource (Some q) source → reply_by_works q source works ≡ Some r
    → length r.inline ≤ 65536
works_short q r source works few s e = by_tests (not (status_of works == 0)) (q.op == WRITE) (q.op == READ) e where
  by_tests : (fails writes reads : Bool)
      → cond fails (Some (refusal q (status_of works))) (cond writes (Some (success q q.length [])) (cond reads (option_map (read_reply q) source) (Some (success q 0 [])))) ≡ Some r
      → length r.inline ≤ 65536
  by_tests true writes reads h = let is : refusal q (status_of works) ≡ r = cc in short_reply (refusal q (status_of works)) r is (omega arith)
  by_tests false true reads h = let is : success q q.length [] ≡ r = cc in short_reply (success q q.length []) r is (omega arith)
  by_tests false false true h = read_reply_short q r source few s h
  by_tests false false false h = let is : success q 0 [] ≡ r = cc in short_reply (success q 0 []) r is (omega arith)

answer_short : (q : Request) (r : Reply) (source : Option (List ℕ)) (works : Option (List WorkResult)) → q.length ≤ 65536 → IsSource (Some q) source → answer_with q source works ≡ Some r
    → length r.inline ≤ 65536
answer_short q r source None few s e = absurd (let b : ⊥ = cc in b)
answer_short q r source (Some works) few s e = works_short q r source works few s e

handled_short : (kind : CopyKind) (past : List ServerEvent) (q : Request) (r : Reply) (fine : Bool) → q.length ≤ 65536 → IsSource (Some q) (source_in_hand past)
    → cond fine (answer_with q (source_in_hand past) (results kind past)) (Some (refusal q (standing_status past))) ≡ Some r → length r.inline ≤ 65536
handled_short kind past q r true few s e = answer_short q r (source_in_hand past) (results kind past) few s e
handled_short kind past q r false few s e = let is : refusal q (standing_status past) ≡ r = cc in short_reply (refusal q (standing_status past)) r is (omega arith)

pub reply_sendable : (kind : CopyKind) (past : List ServerEvent) (m : FileServer) (r : Reply) → CameBy kind past m → next_reply kind past ≡ Some r → IsSendable (reply_bytes r)
reply_sendable kind past m r came e = sendable_reply r (by_handled (handled kind past) refl e) where
  by_handled : (o : Option Request) → handled kind past ≡ o → reply_if_handled kind o past ≡ Some r → length r.inline ≤ 65536
  by_handled None h f = absurd (let b : ⊥ = cc in b)
  by_handled (Some q) h f =
      let bounds : IsWithinBounds q = request_at (length (replies past)) (requests kind past).accepted q came.in_turn.read h in
      handled_short kind past q r (standing_status past == 0) bounds.short (subst (λ (o : Option Request). IsSource o (source_in_hand past)) h came.in_turn.source) f
