-- A reply is given, and the next request is handled.
use Rattle.std.proofs.Common.{◌≡◌, ℕ, ◌+◌, ◌*◌, ◌≤◌, ◌==◌, not, Bool, true, false, cond, Option, Some, None, List, [], ◌∷◌, ◌++◌, length, map, drop, refl, sym, ap, ◌∙◌, subst, arith, length-append, Global}
use Rattle.std.specs.Prelude.{option_map, option_to_list, slice_get}
use Rattle.std.specs.declared.collections.VecDeque.{VecDeque}
use Rattle.std.specs.VecDeque.{deque_len, deque_capacity}
use Rattle.std.specs.Vec.{vec_capacity}
use Rattle.std.proofs.lemmas.Bool.Decides.{nat_tests}
use Rattle.std.proofs.lemmas.List.{drop-append-le}
use Rattle.file_messages.specs.declared.kind.CopyKind.{CopyKind}
use Rattle.file_messages.specs.declared.message.Request.{Request}
use Rattle.file_messages.specs.declared.message.Reply.{Reply}
use Rattle.file_messages.specs.declared.job.Work.{Work}
use Rattle.file_messages.specs.declared.job.WorkResult.{WorkResult}
use Rattle.file_messages.specs.Messages.{WRITE, READ, reply_bytes, success, refusal}
use Rattle.file_pasts.specs.ServerDue.{ServerEvent, Replied, replies, requests, handled, counted, first_status, standing_status, source_in_hand, jobs_given, jobs_due, next_reply, read_reply, reply_by_works, status_of, group_in_hand, groups_replied, groups_stored, result_at}
use Rattle.file_server.specs.declared.server.FileServer.{FileServer}
use Rattle.file_server.specs.declared.server_turn.Filled.{Filled}
use Rattle.file_server.specs.declared.server_turn.Start.{Start}
use Rattle.file_server.specs.declared.server_reply.ReplyHeader.{ReplyHeader}
use Rattle.file_server.specs.ServerTurn.{outcomes_so_far, all_of, total_in, filled_for, filled_with, IsWithinBounds, AreFitting, StartsAs, jobs_at_start, header_in, header_of}
use Rattle.file_server.specs.ServerStands.{CameBy, IsSource, after_replying}
use Rattle.file_server.proofs.ServerLists.{second_left, drop_more, within}
use Rattle.file_server.proofs.ServerOutcomes.{fitting-none}
use Rattle.file_server.proofs.ServerPasts.{reply_with, reply-is, handled-some, request_at}
use Rattle.file_server.proofs.ServerStarts.{due-start, outcomes-start, group-start, few-start}
use Rattle.file_server.proofs.ServerReplies.{front-read, filled-is, header-is, no_reply}

-- ---- what a reply says

-- a reply carries nothing, or what a READ got
pub data IsReplyOf (r : Request) (source : Option (List ℕ)) (reply : Reply) : Type 0 where
  plain : reply.inline ≡ [] → reply.count ≤ r.length → ((r.op == READ) ≡ true → (reply.status == 0) ≡ false) → IsReplyOf r source reply
  given : (bytes : List ℕ) → source ≡ Some bytes → reply ≡ read_reply r bytes → IsReplyOf r source reply

at_least : (n : ℕ) → 0 ≤ n
at_least n = omega arith

of_refusal : (r : Request) (source : Option (List ℕ)) (status : ℕ) (reply : Reply) → (status == 0) ≡ false → refusal r status ≡ reply → IsReplyOf r source reply
of_refusal r source status reply e same = subst (λ (y : Reply). IsReplyOf r source y) same (plain refl (at_least r.length) (λ w. e))

one_op : {A : Type 0} (op : ℕ) → (op == WRITE) ≡ true → (op == READ) ≡ true → A
one_op op w d = absurd (let is_write : op ≡ 1 = grind (arith, nat_tests) in let is_read : op ≡ 2 = grind (arith, nat_tests) in omega arith)

of_success : (r : Request) (source : Option (List ℕ)) (w d : Bool) (o : Option (List ℕ)) (reply : Reply) → (r.op == WRITE) ≡ w → (r.op == READ) ≡ d → source ≡ o
    → cond w (Some (success r r.length [])) (cond d (option_map (read_reply r) o) (Some (success r 0 []))) ≡ Some reply → IsReplyOf r source reply
of_success r source true d o reply w x s e =
    let same : success r r.length [] ≡ reply = cc in
    subst (λ (y : Reply). IsReplyOf r source y) same (plain refl (omega arith) (λ z. one_op r.op w z))
of_success r source false true None reply w x s e = absurd (let b : ⊥ = cc in b)
of_success r source false true (Some bytes) reply w x s e =
    let same : read_reply r bytes ≡ reply = cc in
    given bytes s (sym same)
of_success r source false false o reply w x s e =
    let same : success r 0 [] ≡ reply = cc in
    subst (λ (y : Reply). IsReplyOf r source y) same (plain refl (at_least r.length) (λ z. absurd (let b : ⊥ = cc in b)))

of_answer : (r : Request) (source : Option (List ℕ)) (works : List WorkResult) (reply : Reply) → reply_by_works r source works ≡ Some reply → IsReplyOf r source reply
of_answer r source works reply e = by_status (status_of works == 0) refl e where
  by_status : (t : Bool) → (status_of works == 0) ≡ t → reply_by_works r source works ≡ Some reply → IsReplyOf r source reply
  by_status false s a =
      let it : Some (refusal r (status_of works)) ≡ Some reply = ap (λ (t : Bool). cond (not t) (Some (refusal r (status_of works)))
      (cond (r.op == WRITE) (Some (success r r.length [])) (cond (r.op == READ) (option_map (read_reply r) source) (Some (success r 0 []))))) (sym s) ∙ a in
      let same : refusal r (status_of works) ≡ reply = cc in
      of_refusal r source (status_of works) reply s same
  by_status true s a = of_success r source (r.op == WRITE) (r.op == READ) source reply refl refl refl
      (ap (λ (t : Bool). cond (not t) (Some (refusal r (status_of works)))
      (cond (r.op == WRITE) (Some (success r r.length [])) (cond (r.op == READ) (option_map (read_reply r) source) (Some (success r 0 []))))) (sym s) ∙ a)

reply_of_works : (r : Request) (status : ℕ) (source : Option (List ℕ)) (works : Option (List WorkResult)) (reply : Reply) → reply_with (Some r) status source works ≡ Some reply → IsReplyOf r source reply
reply_of_works r status source works reply e = by_status (status == 0) refl works e where
  by_status : (t : Bool) → (status == 0) ≡ t → (works : Option (List WorkResult)) → reply_with (Some r) status source works ≡ Some reply → IsReplyOf r source reply
  by_status false s works a =
      let it : Some (refusal r status) ≡ Some reply = rw s at a in
      let same : refusal r status ≡ reply = cc in
      of_refusal r source status reply s same
  by_status true s None a = absurd (let it : None ≡ Some reply = rw s at a in let b : ⊥ = cc in b)
  by_status true s (Some list) a = of_answer r source list reply (rw s at a)

with_handled : (kind : CopyKind) (past : List ServerEvent) (m : FileServer) (r : Request) (later : List Request) → CameBy kind past m → m.waiting.items ≡ r ∷ later
    → next_reply kind past ≡ reply_with (Some r) (standing_status past) (source_in_hand past) (all_of (outcomes_so_far kind past))
with_handled kind past m r later c e = reply-is kind past
    ∙ ap (λ (o : Option Request). reply_with o (standing_status past) (source_in_hand past) (all_of (outcomes_so_far kind past))) (handled-some kind past m r later c e)

pub reply_of : (kind : CopyKind) (past : List ServerEvent) (m : FileServer) (r : Request) (later : List Request) (reply : Reply) → CameBy kind past m → m.waiting.items ≡ r ∷ later
    → next_reply kind past ≡ Some reply → IsReplyOf r (source_in_hand past) reply
reply_of kind past m r later reply c e n =
    reply_of_works r (standing_status past) (source_in_hand past) (all_of (outcomes_so_far kind past)) reply (sym (with_handled kind past m r later c e) ∙ n)

-- a count is at most 65,536
count-short : (kind : CopyKind) (past : List ServerEvent) (m : FileServer) (r : Request) (later : List Request) (reply : Reply) → CameBy kind past m → m.waiting.items ≡ r ∷ later
    → next_reply kind past ≡ Some reply → reply.count ≤ 65536
count-short kind past m r later reply c e n = by_reply (reply_of kind past m r later reply c e n) where
  read : IsWithinBounds r
  read = front-read kind past m r later c e

  by_source : (bytes : List ℕ) → source_in_hand past ≡ Some bytes → length bytes ≤ r.length
  by_source bytes s =
      let fact : IsSource (Some r) (Some bytes) = subst (λ (o : Option (List ℕ)). IsSource (Some r) o) s (subst (λ (o : Option Request). IsSource o (source_in_hand past)) (handled-some kind past m r later c e) c.in_turn.source) in
      fact.1

  by_reply : IsReplyOf r (source_in_hand past) reply → reply.count ≤ 65536
  by_reply (plain i few h) = omega (arith, read.short)
  by_reply (given bytes s same) = omega (arith, read.short, by_source bytes s, ap (λ (y : Reply). y.count) same)

-- the reply that was written when the bytes for a READ came
written-for : (kind : CopyKind) (past : List ServerEvent) (m : FileServer) (r : Request) (later : List Request) (reply : Reply) (f : Filled) → CameBy kind past m → m.waiting.items ≡ r ∷ later
    → next_reply kind past ≡ Some reply → m.turn.filled ≡ Some f → (reply.status == 0) ≡ true → f.reply ≡ reply_bytes reply
written-for kind past m r later reply f c e n filled nought = by_reply (reply_of kind past m r later reply c e n) (sym (filled-is kind past m r later c e) ∙ filled) where
  by_source : (s : Option (List ℕ)) → IsSource (Some r) s → option_map (filled_with r) s ≡ Some f → r.op ≡ READ
  by_source None q h = absurd (let b : ⊥ = cc in b)
  by_source (Some bytes) q h = q.0

  is_read : (op : ℕ) → op ≡ READ → (op == READ) ≡ true
  is_read op h = grind (arith, nat_tests)

  by_reply : IsReplyOf r (source_in_hand past) reply → option_map (filled_with r) (source_in_hand past) ≡ Some f → f.reply ≡ reply_bytes reply
  by_reply (plain i few h) s =
      let fact : IsSource (Some r) (source_in_hand past) = subst (λ (o : Option Request). IsSource o (source_in_hand past)) (handled-some kind past m r later c e) c.in_turn.source in
      let not_zero : (reply.status == 0) ≡ false = h (is_read r.op (by_source (source_in_hand past) fact s)) in
      absurd (let b : ⊥ = cc in b)
  by_reply (given bytes h same) s =
      let it : Some (filled_with r bytes) ≡ Some f = ap (λ (o : Option (List ℕ)). option_map (filled_with r) o) (sym h) ∙ s in
      let this : filled_with r bytes ≡ f = cc in
      ap (λ (x : Filled). x.reply) (sym this) ∙ ap (λ (y : Reply). reply_bytes y) (sym same)

-- every other reply carries nothing
plain-for : (kind : CopyKind) (past : List ServerEvent) (m : FileServer) (r : Request) (later : List Request) (reply : Reply) → CameBy kind past m → m.waiting.items ≡ r ∷ later
    → next_reply kind past ≡ Some reply → ((f : Filled) → m.turn.filled ≡ Some f → (reply.status == 0) ≡ false) → reply.inline ≡ []
plain-for kind past m r later reply c e n other = by_reply (reply_of kind past m r later reply c e n) where
  by_reply : IsReplyOf r (source_in_hand past) reply → reply.inline ≡ []
  by_reply (plain i few h) = i
  by_reply (given bytes h same) =
      let filled : m.turn.filled ≡ Some (filled_with r bytes) = filled-is kind past m r later c e ∙ ap (λ (o : Option (List ℕ)). option_map (filled_with r) o) h in
      let not_zero : (reply.status == 0) ≡ false = other (filled_with r bytes) filled in
      let none : (reply.status == 0) ≡ true = ap (λ (y : Reply). y.status == 0) same in
      absurd (let b : ⊥ = cc in b)

-- a request waits wherever a reply is due
waits_for : {A : Type 0} (kind : CopyKind) (past : List ServerEvent) (m : FileServer) (reply : Reply) → CameBy kind past m → next_reply kind past ≡ Some reply
    → ((r : Request) (later : List Request) → m.waiting.items ≡ r ∷ later → A) → A
waits_for {A = A} kind past m reply c n use_it = by_waiting m.waiting.items refl where
  by_waiting : (rs : List Request) → m.waiting.items ≡ rs → A
  by_waiting [] e = absurd (let none : None ≡ Some reply = sym (no_reply kind past m c e) ∙ n in let b : ⊥ = cc in b)
  by_waiting (r ∷ later) e = use_it r later e

pub written-filled : (kind : CopyKind) (past : List ServerEvent) (m : FileServer) (reply : Reply) (f : Filled) (h : ReplyHeader) → CameBy kind past m
    → next_reply kind past ≡ Some reply → h ≡ header_in reply → m.turn.filled ≡ Some f → (h.status == 0) ≡ true → f.reply ≡ reply_bytes reply
written-filled kind past m reply f h c n same filled nought =
    waits_for kind past m reply c n (λ r later e. written-for kind past m r later reply f c e n filled (ap (λ (x : ReplyHeader). x.status == 0) (sym same) ∙ nought))

pub written-plain : (kind : CopyKind) (past : List ServerEvent) (m : FileServer) (reply : Reply) (h : ReplyHeader) → CameBy kind past m → next_reply kind past ≡ Some reply
    → h ≡ header_in reply → ((f : Filled) → m.turn.filled ≡ Some f → (h.status == 0) ≡ false)
    → reply_bytes (record { op = h.op; status = h.status; id = h.id; count = h.count; inline = [] }) ≡ reply_bytes reply
written-plain kind past m reply h c n same other =
    let none : reply.inline ≡ [] = waits_for kind past m reply c n (λ r later e. plain-for kind past m r later reply c e n
    (λ f filled. ap (λ (x : ReplyHeader). x.status == 0) (sym same) ∙ other f filled)) in
    ap (λ (x : ReplyHeader). reply_bytes (record { op = x.op; status = x.status; id = x.id; count = x.count; inline = [] })) same
    ∙ ap (λ (bytes : List ℕ). reply_bytes (record { op = reply.op; status = reply.status; id = reply.id; count = reply.count; inline = bytes })) (sym none)

-- ---- the status of an earlier refusal stays

first-status-append : (rs : List Reply) (r : Reply) → first_status (rs ++ r ∷ []) ≡ cond (first_status rs == 0) r.status (first_status rs)
first-status-append [] r = by_status (r.status == 0) refl where
  by_status : (t : Bool) → (r.status == 0) ≡ t → cond (r.status == 0) 0 r.status ≡ r.status
  by_status true e = let z : r.status ≡ 0 = grind (arith, nat_tests) in rw e (sym z)
  by_status false e = rw e refl
first-status-append (x ∷ rs) r = by_status (x.status == 0) refl (first-status-append rs r) where
  by_status : (t : Bool) → (x.status == 0) ≡ t → first_status (rs ++ r ∷ []) ≡ cond (first_status rs == 0) r.status (first_status rs)
      → first_status (x ∷ rs ++ r ∷ []) ≡ cond (first_status (x ∷ rs) == 0) r.status (first_status (x ∷ rs))
  by_status true e ih = rw e ih
  by_status false e ih = rw e (rw e refl)

status-kept : (kind : CopyKind) (past : List ServerEvent) (m : FileServer) (r : Request) (later : List Request) (reply : Reply) → CameBy kind past m → m.waiting.items ≡ r ∷ later
    → next_reply kind past ≡ Some reply → standing_status (Replied reply ∷ past) ≡ reply.status
status-kept kind past m r later reply c e n = first-status-append (replies past) reply ∙ by_status (standing_status past == 0) refl (sym (with_handled kind past m r later c e) ∙ n) where
  by_status : (t : Bool) → (standing_status past == 0) ≡ t → reply_with (Some r) (standing_status past) (source_in_hand past) (all_of (outcomes_so_far kind past)) ≡ Some reply
      → cond (standing_status past == 0) reply.status (standing_status past) ≡ reply.status
  by_status true s a = rw s refl
  by_status false s a =
      let it : Some (refusal r (standing_status past)) ≡ Some reply = rw s at a in
      let same : refusal r (standing_status past) ≡ reply = cc in
      rw s (ap (λ (y : Reply). y.status) same)

-- ---- the server then

counted-append : (rs : List Reply) (r : Reply) → counted (rs ++ r ∷ []) ≡ counted rs + r.count
counted-append [] r = omega arith
counted-append (x ∷ rs) r = omega (arith, counted-append rs r)

source-none : (o : Option Request) → IsSource o None
source-none None = tt
source-none (Some r) = tt

filled-none : (o : Option Request) → filled_for o None ≡ None
filled-none None = refl
filled-none (Some r) = refl

pub came-replied : (kind : CopyKind) (past : List ServerEvent) (m : FileServer) (r : Request) (later : List Request) (reply : Reply) (start : Start) (rs : VecDeque Request Global) (g : VecDeque (List ℕ) Global)
    → CameBy kind past m → m.waiting.items ≡ r ∷ later → next_reply kind past ≡ Some reply
    → StartsAs (slice_get m.waiting.items 1) reply.status m.given start → rs.items ≡ drop 1 m.waiting.items
    → g.items ≡ m.groups.items ++ option_to_list start.group → deque_len g ≡ deque_len m.groups + length (option_to_list start.group) → deque_len m.groups + 1 ≤ deque_capacity g
    → CameBy kind (Replied reply ∷ past) (record m { waiting = rs; course = record m.course { counted = m.course.counted + reply.count }; status = reply.status; turn = start.turn; groups = g })
came-replied kind past m r later reply start rs g c e n starts left put more room =
    let here : handled kind past ≡ Some r = handled-some kind past m r later c e in
    let one_more : length (replies past ++ reply ∷ []) ≡ length (replies past) + 1 = length-append (replies past) (reply ∷ []) in
    let next : slice_get m.waiting.items 1 ≡ handled kind (Replied reply ∷ past) =
    ap (λ (list : List Request). slice_get list 1) c.waiting ∙ second_left (length (replies past)) (requests kind past).accepted
    ∙ ap (λ (k : ℕ). slice_get (requests kind past).accepted k) (sym one_more) in
    let status : standing_status (Replied reply ∷ past) ≡ reply.status = status-kept kind past m r later reply c e n in
    let ahead : (k : ℕ) → jobs_given past ≤ k → result_at k (Replied reply ∷ past) ≡ None = c.in_turn.ahead in
    let starts_so : StartsAs (handled kind (Replied reply ∷ past)) (standing_status (Replied reply ∷ past)) m.given start =
    subst (λ (o : Option Request). StartsAs o (standing_status (Replied reply ∷ past)) m.given start) next
    (subst (λ (s : ℕ). StartsAs (slice_get m.waiting.items 1) s m.given start) (sym status) starts) in
    let read : (q : Request) → handled kind (Replied reply ∷ past) ≡ Some q → IsWithinBounds q =
    λ q h. request_at (length (replies past ++ reply ∷ [])) (requests kind past).accepted q c.in_turn.read h in
    let due : jobs_due kind (Replied reply ∷ past) ≡ jobs_at_start (standing_status (Replied reply ∷ past)) (handled kind (Replied reply ∷ past)) = due-start kind (Replied reply ∷ past) refl in
    let outs : outcomes_so_far kind (Replied reply ∷ past) ≡ map (λ (w : Work). None) (jobs_due kind (Replied reply ∷ past)) = outcomes-start kind (Replied reply ∷ past) refl ahead in
    let group : group_in_hand kind (Replied reply ∷ past) ≡ option_to_list start.group = group-start kind (Replied reply ∷ past) refl refl ahead read ∙ sym starts_so.group in
    let group_size : length (group_in_hand kind (Replied reply ∷ past)) ≡ length (option_to_list start.group) = ap (λ (h : List (List ℕ)). length h) group in
    record {
      kind_is = c.kind_is;
      waiting = left ∙ ap (λ (list : List Request). drop 1 list) c.waiting ∙ drop_more (length (replies past)) (requests kind past).accepted ∙ ap (λ (k : ℕ). drop k (requests kind past).accepted) (sym one_more);
      course = record {
        accepted = c.course.accepted;
        ended = c.course.ended;
        written = c.course.written;
        counted = ap (λ (k : ℕ). k + reply.count) c.course.counted ∙ sym (counted-append (replies past) reply);
      };
      fault = c.fault;
      status = sym status;
      given = c.given;
      turn = record {
        first = omega (arith, starts_so.first_is, c.given);
        due = starts_so.due ∙ sym due;
        outcomes = starts_so.outcomes ∙ ap (λ (ws : List Work). map (λ (w : Work). None) ws) (sym due) ∙ sym outs;
        filled = starts_so.filled ∙ sym (filled-none (handled kind (Replied reply ∷ past)));
        empty = starts_so.empty;
        room = λ none. subst (λ (ws : List Work). total_in ws ≤ vec_capacity start.turn.room) (sym due) starts_so.room;
      };
      groups = put ∙ ap (λ (q : List (List ℕ)). q ++ option_to_list start.group) c.groups
          ∙ sym (drop-append-le (groups_stored past) (groups_replied kind past ++ group_in_hand kind past) (option_to_list start.group) c.in_turn.stored)
          ∙ ap (λ (h : List (List ℕ)). drop (groups_stored past) ((groups_replied kind past ++ group_in_hand kind past) ++ h)) (sym group);
      spare = omega (arith, more, room, group_size);
      in_turn = record {
        lawful = (n, c.in_turn.lawful);
        replied = omega (arith, one_more, within (length (replies past)) (requests kind past).accepted r here);
        stored = omega (arith, c.in_turn.stored, length-append (groups_replied kind past ++ group_in_hand kind past) (group_in_hand kind (Replied reply ∷ past)));
        few = c.in_turn.few;
        source = source-none (handled kind (Replied reply ∷ past));
        in_hand = at_least (length (jobs_due kind (Replied reply ∷ past)));
        due = subst (λ (ws : List Work). length ws ≤ 16) (sym due) (few-start (standing_status (Replied reply ∷ past)) (handled kind (Replied reply ∷ past)) read);
        before = at_least (jobs_given past);
        given = omega (arith, one_more, c.in_turn.given, c.in_turn.in_hand, c.in_turn.due);
        ahead = ahead;
        counts = omega (arith, counted-append (replies past) reply, one_more, c.in_turn.counts, count-short kind past m r later reply c e n);
        read = c.in_turn.read;
        fitting = subst (λ (list : List (Option WorkResult)). AreFitting (jobs_due kind (Replied reply ∷ past)) list) (sym outs) (fitting-none (jobs_due kind (Replied reply ∷ past)));
      };
    }

-- ---- what the call leaves

pub header-none : (kind : CopyKind) (past : List ServerEvent) (m : FileServer) (h : Option ReplyHeader) → CameBy kind past m
    → ((r : Request) (later : List Request) → m.waiting.items ≡ r ∷ later → h ≡ header_of r m.status m.turn.outcomes.items m.turn.filled) → (m.waiting.items ≡ [] → h ≡ None)
    → h ≡ option_map header_in (next_reply kind past)
header-none kind past m h c some none = by_waiting m.waiting.items refl where
  by_waiting : (rs : List Request) → m.waiting.items ≡ rs → h ≡ option_map header_in (next_reply kind past)
  by_waiting [] e = none e ∙ sym (ap (λ (o : Option Reply). option_map header_in o) (no_reply kind past m c e))
  by_waiting (r ∷ later) e = some r later e ∙ sym (header-is kind past m r later c e)

pub no_reply_due : (kind : CopyKind) (past : List ServerEvent) → None ≡ option_map header_in (next_reply kind past) → next_reply kind past ≡ None
no_reply_due kind past e = by_reply (next_reply kind past) e where
  by_reply : (o : Option Reply) → None ≡ option_map header_in o → o ≡ None
  by_reply None e = refl
  by_reply (Some reply) e = absurd (let b : ⊥ = cc in b)

pub reply_due : (kind : CopyKind) (past : List ServerEvent) (h : ReplyHeader) → Some h ≡ option_map header_in (next_reply kind past)
    → (reply : Reply) × (next_reply kind past ≡ Some reply) × (h ≡ header_in reply)
reply_due kind past h e = by_reply (next_reply kind past) refl e where
  by_reply : (o : Option Reply) → next_reply kind past ≡ o → Some h ≡ option_map header_in o → (reply : Reply) × (next_reply kind past ≡ Some reply) × (h ≡ header_in reply)
  by_reply None n e = absurd (let b : ⊥ = cc in b)
  by_reply (Some reply) n e = (reply, n, (let same : h ≡ header_in reply = cc in same))

pub came-next_message : (kind : CopyKind) (past : List ServerEvent) (m : FileServer) (h : ReplyHeader) (count : ℕ) (start : Start) (rs : VecDeque Request Global) (g : VecDeque (List ℕ) Global)
    → CameBy kind past m → Some h ≡ option_map header_in (next_reply kind past) → count ≡ h.count
    → StartsAs (slice_get m.waiting.items 1) h.status m.given start → rs.items ≡ drop 1 m.waiting.items
    → g.items ≡ m.groups.items ++ option_to_list start.group → deque_len g ≡ deque_len m.groups + length (option_to_list start.group) → deque_len m.groups + 1 ≤ deque_capacity g
    → CameBy kind (after_replying (next_reply kind past) past) (record m { waiting = rs; course = record m.course { counted = m.course.counted + count }; status = h.status; turn = start.turn; groups = g })
came-next_message kind past m h count start rs g c e size starts left put more room = of_due (reply_due kind past h e) where
  of_due : ((reply : Reply) × (next_reply kind past ≡ Some reply) × (h ≡ header_in reply))
      → CameBy kind (after_replying (next_reply kind past) past) (record m { waiting = rs; course = record m.course { counted = m.course.counted + count }; status = h.status; turn = start.turn; groups = g })
  of_due (reply, n, same) =
      subst (λ (o : Option Reply). CameBy kind (after_replying o past) (record m { waiting = rs; course = record m.course { counted = m.course.counted + count }; status = h.status; turn = start.turn; groups = g })) (sym n)
      (subst (λ (k : ℕ). CameBy kind (Replied reply ∷ past) (record m { waiting = rs; course = record m.course { counted = m.course.counted + k }; status = h.status; turn = start.turn; groups = g })) (sym size)
      (subst (λ (x : ReplyHeader). CameBy kind (Replied reply ∷ past) (record m { waiting = rs; course = record m.course { counted = m.course.counted + x.count }; status = x.status; turn = start.turn; groups = g })) (sym same)
      (waits_for kind past m reply c n (λ r later w. came-replied kind past m r later reply start rs g c w n
      (subst (λ (x : ReplyHeader). StartsAs (slice_get m.waiting.items 1) x.status m.given start) same starts) left put more room))))

pub count-fits : (kind : CopyKind) (past : List ServerEvent) (m : FileServer) (h : ReplyHeader) → CameBy kind past m → Some h ≡ option_map header_in (next_reply kind past)
    → m.course.counted + h.count ≤ 65536 * 4294967296
count-fits kind past m h c e = of_due (reply_due kind past h e) where
  of_due : ((reply : Reply) × (next_reply kind past ≡ Some reply) × (h ≡ header_in reply)) → m.course.counted + h.count ≤ 65536 * 4294967296
  of_due (reply, n, same) = waits_for kind past m reply c n (λ r later w.
      omega (
        arith,
        c.course.counted,
        c.in_turn.counts,
        c.in_turn.few,
        within (length (replies past)) (requests kind past).accepted r (handled-some kind past m r later c w),
        count-short kind past m r later reply c w n,
        ap (λ (x : ReplyHeader). x.count) same,
      ))

pub came-no_message : (kind : CopyKind) (past : List ServerEvent) (m : FileServer) → CameBy kind past m → next_reply kind past ≡ None → CameBy kind (after_replying (next_reply kind past) past) m
came-no_message kind past m c e = subst (λ (o : Option Reply). CameBy kind (after_replying o past) m) (sym e) c
