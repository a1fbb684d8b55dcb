-- A job of the request that is handled is completed.
use Rattle.std.proofs.Common.{◌≡◌, ℕ, ◌+◌, ◌-◌, ◌<◌, ◌≤◌, ◌==◌, ◌&&◌, Bool, true, false, cond, Option, Some, None, List, [], ◌∷◌, ◌++◌, length, map, set, drop, refl, sym, ap, ◌∙◌, subst, arith, append-nil, length-append, Global}
use Rattle.std.specs.Prelude.{option_map, slice_get}
use Rattle.std.specs.List.{flat_map}
use Rattle.std.specs.declared.collections.VecDeque.{VecDeque}
use Rattle.std.specs.declared.vec.Vec.{Vec}
use Rattle.std.specs.VecDeque.{deque_len, deque_capacity}
use Rattle.std.specs.Vec.{vec_capacity}
use Rattle.std.proofs.lemmas.List.{drop-append-le}
use Rattle.std.proofs.lemmas.Bool.Decides.{nat_tests}
use Rattle.buffer_descriptor.specs.declared.descriptor.Descriptor.{Descriptor}
use Rattle.file_messages.specs.declared.kind.CopyKind.{CopyKind}
use Rattle.file_messages.specs.declared.message.Request.{Request}
use Rattle.file_messages.specs.declared.job.Work.{Work}
use Rattle.file_messages.specs.declared.job.Work.TheVariants.{Fetch}
use Rattle.file_messages.specs.declared.job.WorkResult.{WorkResult}
use Rattle.file_messages.specs.declared.job.Completion.{Completion}
use Rattle.file_messages.specs.Messages.{WRITE}
use Rattle.file_pasts.specs.ServerDue.{ServerEvent, Completed, replies, requests, handled, standing_status, jobs_given, jobs_in_hand, jobs_due, jobs_of, jobs_if_handled, group_in_hand, group_of, groups_replied, groups_stored, result_at, fetched, status_of, AnswersJob}
use Rattle.file_server.specs.declared.server.FileServer.{FileServer}
use Rattle.file_server.specs.ServerTurn.{outcomes_so_far, outcomes_of, outcome_bytes, all_of, total_in, AreFitting, IsWithinBounds, fetched_in, status_from, is_success}
use Rattle.file_server.specs.ServerStands.{CameBy}
use Rattle.file_server.proofs.ServerLists.{within, split_at}
use Rattle.file_server.proofs.ServerOutcomes.{outcomes-set, missing, status-is, fetched-all, bytes-fit, fitting-set}
use Rattle.file_server.proofs.ServerPasts.{group_with, group-is, HasJobs, has_jobs, request_at}

due-completed : (kind : CopyKind) (c : Completion) (past : List ServerEvent) → jobs_due kind (Completed c ∷ past) ≡ jobs_due kind past
due-completed kind c past = by_handled (handled kind past) where
  by_handled : (o : Option Request) → jobs_if_handled kind o (Completed c ∷ past) ≡ jobs_if_handled kind o past
  by_handled None = refl
  by_handled (Some r) = refl

outcomes-completed : (kind : CopyKind) (c : Completion) (past : List ServerEvent) (a : AnswersJob kind past c)
    → outcomes_so_far kind (Completed c ∷ past) ≡ set (outcomes_so_far kind past) a.place (Some c.result)
outcomes-completed kind c past a =
    ap (λ (jobs : List Work). outcomes_of (jobs_given past - jobs_in_hand past) jobs (Completed c ∷ past)) (due-completed kind c past)
    ∙ outcomes-set (jobs_given past - jobs_in_hand past) (jobs_due kind past) c a.place past a.number

-- before, one was missing
pub was_missing : (kind : CopyKind) (c : Completion) (past : List ServerEvent) → AnswersJob kind past c → all_of (outcomes_so_far kind past) ≡ None
was_missing kind c past a = missing (jobs_given past - jobs_in_hand past) (jobs_due kind past) a.place past
    (within a.place (jobs_due kind past) a.work a.work_is) (ap (λ (n : ℕ). result_at n past) (sym a.number) ∙ a.uncompleted)

pub no_group : (kind : CopyKind) (c : Completion) (past : List ServerEvent) → AnswersJob kind past c → group_in_hand kind past ≡ []
no_group kind c past a = group-is kind past ∙ ap (λ (works : Option (List WorkResult)). group_with (handled kind past) (standing_status past) works) (was_missing kind c past a)
    ∙ by_handled (handled kind past) (standing_status past == 0)
  where
    by_handled : (o : Option Request) (t : Bool) → group_with o (standing_status past) None ≡ []
    by_handled None t = refl
    by_handled (Some r) t = by_status (standing_status past == 0) where
      by_status : (t : Bool) → cond t (group_of r None) [] ≡ []
      by_status true = refl
      by_status false = refl

-- its place among the jobs of the request
pub place-is : (kind : CopyKind) (past : List ServerEvent) (m : FileServer) (c : Completion) (came : CameBy kind past m) (a : AnswersJob kind past c)
    → (m.turn.first ≤ c.number) × (c.number - m.turn.first ≡ a.place) × (a.place < length m.turn.outcomes.items) × (a.place < 16)
place-is kind past m c came a =
    let first : m.turn.first ≡ jobs_given past - jobs_in_hand past = came.turn.first in
    let in_list : a.place < length (jobs_due kind past) = within a.place (jobs_due kind past) a.work a.work_is in
    (omega (arith, a.number), omega (arith, a.number), omega (arith, ap length came.turn.outcomes, length-so_far kind past), omega (arith, came.in_turn.due))
  where
    length-so_far : (kind : CopyKind) (past : List ServerEvent) → length (outcomes_so_far kind past) ≡ length (jobs_due kind past)
    length-so_far kind past = by_jobs (jobs_given past - jobs_in_hand past) (jobs_due kind past) where
      by_jobs : (n : ℕ) (jobs : List Work) → length (outcomes_of n jobs past) ≡ length jobs
      by_jobs n [] = refl
      by_jobs n (w ∷ ws) = omega (arith, by_jobs (n + 1) ws)

-- ---- the group that a WRITE brought

-- a WRITE with jobs is over registered pages
not_plain : (past : List ServerEvent) (r : Request) (place : ℕ) (work : Work) → IsWithinBounds r → slice_get (jobs_of r past) place ≡ Some work → (r.op == WRITE) ≡ true → (r.channel == 0) ≡ false
not_plain past r place work q e write = by_channel (r.channel == 0) refl where
  by_channel : (t : Bool) → (r.channel == 0) ≡ t → t ≡ false
  by_channel false h = refl
  by_channel true h =
      let none : r.descriptors ≡ [] = q.plain (rw (write, h) refl) in
      let jobs : jobs_of r past ≡ map (λ (d : Descriptor). Fetch d) r.descriptors = rw write refl in
      let nothing : slice_get (map (λ (d : Descriptor). Fetch d) []) place ≡ Some work =
      ap (λ (ds : List Descriptor). slice_get (map (λ (d : Descriptor). Fetch d) ds) place) (sym none) ∙ ap (λ (ws : List Work). slice_get ws place) (sym jobs) ∙ e in
      absurd (let b : ⊥ = cc in b)

group-fetched : (r : Request) (os : List (Option WorkResult)) → ((r.op == WRITE) ≡ true → (r.channel == 0) ≡ false) → (t : Bool)
    → (r.op == WRITE && is_success (status_from 0 os)) ≡ t → group_of r (all_of os) ≡ cond t (flat_map fetched_in os ∷ []) []
group-fetched r os far t e = by_all (all_of os) refl (ap (λ (s : Option ℕ). r.op == WRITE && is_success s) (sym (status-is os)) ∙ e) where
  by_all : (o : Option (List WorkResult)) → all_of os ≡ o → (r.op == WRITE && is_success (option_map status_of o)) ≡ t → group_of r o ≡ cond t (flat_map fetched_in os ∷ []) []
  by_all None h s = by_op (r.op == WRITE) s where
    by_op : (b : Bool) → (b && false) ≡ t → [] ≡ cond t (flat_map fetched_in os ∷ []) []
    by_op true s = ap (λ (x : Bool). cond x (flat_map fetched_in os ∷ []) []) s
    by_op false s = ap (λ (x : Bool). cond x (flat_map fetched_in os ∷ []) []) s
  by_all (Some works) h s = by_op (r.op == WRITE) refl where
    by_op : (b : Bool) → (r.op == WRITE) ≡ b → group_of r (Some works) ≡ cond t (flat_map fetched_in os ∷ []) []
    by_op true w =
        let bytes : flat_map fetched_in os ≡ flat_map fetched works = fetched-all os works h in
        rw (s, far w, bytes) refl
    by_op false w =
        let no : t ≡ false = sym s ∙ ap (λ (b : Bool). b && status_of works == 0) w in
        rw (w, no) refl

pub so_far : (kind : CopyKind) (past : List ServerEvent) (m : FileServer) (c : Completion) (os : List (Option WorkResult)) (came : CameBy kind past m) (a : AnswersJob kind past c)
    → os ≡ set m.turn.outcomes.items (c.number - m.turn.first) (Some c.result) → outcomes_so_far kind (Completed c ∷ past) ≡ os
so_far kind past m c os came a e = outcomes-completed kind c past a
    ∙ ap (λ (list : List (Option WorkResult)). set list a.place (Some c.result)) (sym came.turn.outcomes)
    ∙ ap (λ (n : ℕ). set m.turn.outcomes.items n (Some c.result)) (sym (place-is kind past m c came a).1)
    ∙ sym e

are-fitting : (kind : CopyKind) (past : List ServerEvent) (m : FileServer) (c : Completion) (os : List (Option WorkResult)) (came : CameBy kind past m) (a : AnswersJob kind past c)
    → os ≡ set m.turn.outcomes.items (c.number - m.turn.first) (Some c.result) → AreFitting (jobs_due kind past) os
are-fitting kind past m c os came a e =
    subst (λ (list : List (Option WorkResult)). AreFitting (jobs_due kind past) list)
    (sym (outcomes-completed kind c past a) ∙ so_far kind past m c os came a e)
    (fitting-set (jobs_due kind past) (outcomes_so_far kind past) a.place a.work c.result came.in_turn.fitting a.work_is a.fits)

pub record Completes (kind : CopyKind) (past : List ServerEvent) (c : Completion) (waiting : List Request) (os : List (Option WorkResult)) : Type 0 where
  pub request : Request
  pub waits : waiting ≡ request ∷ drop 1 waiting
  pub group : (t : Bool) → (request.op == WRITE && is_success (status_from 0 os)) ≡ t → group_in_hand kind (Completed c ∷ past) ≡ cond t (flat_map fetched_in os ∷ []) []

pub completes : (kind : CopyKind) (past : List ServerEvent) (m : FileServer) (c : Completion) (os : List (Option WorkResult)) (came : CameBy kind past m) (a : AnswersJob kind past c)
    → os ≡ set m.turn.outcomes.items (c.number - m.turn.first) (Some c.result) → Completes kind past c m.waiting.items os
completes kind past m c os came a e = of_jobs (has_jobs kind past a.place a.work a.work_is) where
  of_jobs : ((r : Request) × HasJobs kind past r) → Completes kind past c m.waiting.items os
  of_jobs (r, h) =
      let read : IsWithinBounds r = request_at (length (replies past)) (requests kind past).accepted r came.in_turn.read h.handles in
      let work : slice_get (jobs_of r past) a.place ≡ Some a.work = ap (λ (ws : List Work). slice_get ws a.place) (sym h.jobs) ∙ a.work_is in
      record {
        request = r;
        waits = came.waiting ∙ split_at (length (replies past)) (requests kind past).accepted r h.handles ∙ ap (λ (rs : List Request). r ∷ drop 1 rs) (sym came.waiting);
        group = λ t s. group-is kind (Completed c ∷ past)
            ∙ ap (λ (o : Option Request). group_with o (standing_status past) (all_of (outcomes_so_far kind (Completed c ∷ past)))) h.handles
            ∙ ap (λ (b : Bool). cond b (group_of r (all_of (outcomes_so_far kind (Completed c ∷ past)))) []) h.going
            ∙ ap (λ (list : List (Option WorkResult)). group_of r (all_of list)) (so_far kind past m c os came a e)
            ∙ group-fetched r os (not_plain past r a.place a.work read work) t s;
      }

-- ---- the server then

-- the room is enough for what was fetched
pub room-fits : (kind : CopyKind) (past : List ServerEvent) (m : FileServer) (c : Completion) (os : List (Option WorkResult)) (came : CameBy kind past m) (a : AnswersJob kind past c)
    → os ≡ set m.turn.outcomes.items (c.number - m.turn.first) (Some c.result) → outcome_bytes os ≤ vec_capacity m.turn.room
room-fits kind past m c os came a e =
    let fits : outcome_bytes os ≤ total_in (jobs_due kind past) = bytes-fit (jobs_due kind past) os (are-fitting kind past m c os came a e) in
    let room : total_in (jobs_due kind past) ≤ vec_capacity m.turn.room = came.turn.room (was_missing kind c past a) in
    omega arith

pub came-completed : (kind : CopyKind) (past : List ServerEvent) (m : FileServer) (c : Completion) (os : Vec (Option WorkResult) Global) (room : Vec ℕ Global) (g : VecDeque (List ℕ) Global)
    (came : CameBy kind past m) (a : AnswersJob kind past c)
    → os.items ≡ set m.turn.outcomes.items (c.number - m.turn.first) (Some c.result)
    → room.items ≡ [] → (all_of os.items ≡ None → vec_capacity m.turn.room ≤ vec_capacity room)
    → g.items ≡ m.groups.items ++ group_in_hand kind (Completed c ∷ past)
    → deque_len g ≡ deque_len m.groups + length (group_in_hand kind (Completed c ∷ past)) → deque_capacity g ≡ deque_capacity m.groups
    → CameBy kind (Completed c ∷ past) (record m { turn = record m.turn { outcomes = os; room = room }; groups = g })
came-completed kind past m c os room g came a e empty kept put more same =
    let jobs : jobs_due kind (Completed c ∷ past) ≡ jobs_due kind past = due-completed kind c past in
    let outs : outcomes_so_far kind (Completed c ∷ past) ≡ os.items = so_far kind past m c os.items came a e in
    let none : group_in_hand kind past ≡ [] = no_group kind c past a in
    let all : groups_replied kind past ++ group_in_hand kind past ≡ groups_replied kind past = ap (λ (h : List (List ℕ)). groups_replied kind past ++ h) none ∙ append-nil (groups_replied kind past) in
    let stored : groups_stored past ≤ length (groups_replied kind past) = subst (λ (h : List (List ℕ)). groups_stored past ≤ length h) all came.in_turn.stored in
    let before : length (group_in_hand kind past) ≡ 0 = ap length none in
    record {
      kind_is = came.kind_is;
      waiting = came.waiting;
      course = record { accepted = came.course.accepted; ended = came.course.ended; written = came.course.written; counted = came.course.counted };
      fault = came.fault;
      status = came.status;
      given = came.given;
      turn = record {
        first = came.turn.first;
        due = came.turn.due ∙ ap (λ (ws : List Work). drop (jobs_in_hand past) ws) (sym jobs);
        outcomes = sym outs;
        filled = came.turn.filled;
        empty = empty;
        room = λ missing_one.
            let room_was : total_in (jobs_due kind past) ≤ vec_capacity m.turn.room = came.turn.room (was_missing kind c past a) in
            let grew : vec_capacity m.turn.room ≤ vec_capacity room = kept (ap (λ (list : List (Option WorkResult)). all_of list) (sym outs) ∙ missing_one) in
            subst (λ (ws : List Work). total_in ws ≤ vec_capacity room) (sym jobs) (omega arith);
      };
      groups = put ∙ ap (λ (q : List (List ℕ)). q ++ group_in_hand kind (Completed c ∷ past)) (came.groups ∙ ap (λ (q : List (List ℕ)). drop (groups_stored past) q) all)
          ∙ sym (drop-append-le (groups_stored past) (groups_replied kind past) (group_in_hand kind (Completed c ∷ past)) stored);
      spare = omega (arith, came.spare);
      in_turn = record {
        lawful = (a, came.in_turn.lawful);
        replied = came.in_turn.replied;
        stored = omega (arith, stored, length-append (groups_replied kind past) (group_in_hand kind (Completed c ∷ past)));
        few = came.in_turn.few;
        source = came.in_turn.source;
        in_hand = subst (λ (ws : List Work). jobs_in_hand past ≤ length ws) (sym jobs) came.in_turn.in_hand;
        due = subst (λ (ws : List Work). length ws ≤ 16) (sym jobs) came.in_turn.due;
        before = came.in_turn.before;
        given = came.in_turn.given;
        ahead = λ n h. ahead_of n h;
        counts = came.in_turn.counts;
        read = came.in_turn.read;
        fitting = subst (λ (list : List (Option WorkResult)). AreFitting (jobs_due kind (Completed c ∷ past)) list) (sym outs)
            (subst (λ (ws : List Work). AreFitting ws os.items) (sym jobs) (are-fitting kind past m c os.items came a e));
      };
    } where
      ahead_of : (n : ℕ) → jobs_given past ≤ n → result_at n (Completed c ∷ past) ≡ None
      ahead_of n h =
          let other : (c.number == n) ≡ false = other_number n h in
          rw other (came.in_turn.ahead n h)
        where
          other_number : (n : ℕ) → jobs_given past ≤ n → (c.number == n) ≡ false
          other_number n h =
              let less : c.number < n = omega (arith, a.number, a.given, came.in_turn.before) in
              grind (arith, nat_tests)

-- the last Fetch of a WRITE is completed, and none was refused
pub came-fetched : (kind : CopyKind) (past : List ServerEvent) (m : FileServer) (c : Completion) (os : Vec (Option WorkResult) Global) (room : Vec ℕ Global) (g : VecDeque (List ℕ) Global) (bytes : List ℕ)
    (came : CameBy kind past m) (a : AnswersJob kind past c) (e : os.items ≡ set m.turn.outcomes.items (c.number - m.turn.first) (Some c.result)) (has : Bool)
    → ((r : Request) (later : List Request) → m.waiting.items ≡ r ∷ later → has ≡ (r.op == WRITE && is_success (status_from 0 os.items))) → has ≡ true
    → room.items ≡ [] → bytes ≡ flat_map fetched_in os.items
    → g.items ≡ m.groups.items ++ bytes ∷ [] → deque_len g ≡ deque_len m.groups + 1 → deque_capacity g ≡ deque_capacity m.groups
    → CameBy kind (Completed c ∷ past) (record m { turn = record m.turn { outcomes = os; room = room }; groups = g })
came-fetched kind past m c os room g bytes came a e has is met empty whole put more same =
    let k : Completes kind past c m.waiting.items os.items = completes kind past m c os.items came a e in
    let all : (k.request.op == WRITE && is_success (status_from 0 os.items)) ≡ true = sym (is k.request (drop 1 m.waiting.items) k.waits) ∙ met in
    let group : group_in_hand kind (Completed c ∷ past) ≡ flat_map fetched_in os.items ∷ [] = k.group true all in
    let one : length (group_in_hand kind (Completed c ∷ past)) ≡ 1 = ap length group in
    came-completed kind past m c os room g came a e empty (λ none. absurd (all_there os.items (k.request.op == WRITE) none all))
    (put ∙ ap (λ (b : List ℕ). m.groups.items ++ b ∷ []) whole ∙ ap (λ (h : List (List ℕ)). m.groups.items ++ h) (sym group))
    (omega (arith, more, one)) same
  where
    all_there : (os : List (Option WorkResult)) (b : Bool) → all_of os ≡ None → (b && is_success (status_from 0 os)) ≡ true → ⊥
    all_there os b none met =
        let missing_one : status_from 0 os ≡ None = status-is os ∙ ap (λ (o : Option (List WorkResult)). option_map status_of o) none in
        by_op b (ap (λ (s : Option ℕ). b && is_success s) (sym missing_one) ∙ met)
      where
        by_op : (b : Bool) → (b && false) ≡ true → ⊥
        by_op true h = let f : ⊥ = cc in f
        by_op false h = let f : ⊥ = cc in f

-- it brings no group
pub came-unfetched : (kind : CopyKind) (past : List ServerEvent) (m : FileServer) (c : Completion) (os : Vec (Option WorkResult) Global)
    (came : CameBy kind past m) (a : AnswersJob kind past c) (e : os.items ≡ set m.turn.outcomes.items (c.number - m.turn.first) (Some c.result)) (has : Bool)
    → ((r : Request) (later : List Request) → m.waiting.items ≡ r ∷ later → has ≡ (r.op == WRITE && is_success (status_from 0 os.items))) → has ≡ false
    → CameBy kind (Completed c ∷ past) (record m { turn = record m.turn { outcomes = os } })
came-unfetched kind past m c os came a e has is unmet =
    let k : Completes kind past c m.waiting.items os.items = completes kind past m c os.items came a e in
    let group : group_in_hand kind (Completed c ∷ past) ≡ [] = k.group false (sym (is k.request (drop 1 m.waiting.items) k.waits) ∙ unmet) in
    let none : length (group_in_hand kind (Completed c ∷ past)) ≡ 0 = ap length group in
    came-completed kind past m c os m.turn.room m.groups came a e came.turn.empty (λ missing_one. omega arith)
    (sym (append-nil m.groups.items) ∙ ap (λ (h : List (List ℕ)). m.groups.items ++ h) (sym group)) (omega (arith, none)) refl
