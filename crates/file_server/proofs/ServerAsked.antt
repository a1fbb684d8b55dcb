-- A message is handed in as a request.
use Rattle.std.proofs.Common.{◌≡◌, ℕ, ◌+◌, ◌-◌, ◌*◌, ◌<◌, ◌≤◌, ◌==◌, ◌&&◌, ◌||◌, Bool, true, false, cond, Option, Some, None, Result, Ok, Err, List, [], ◌∷◌, ◌++◌, length, map, drop, refl, sym, ap, ◌∙◌, subst, arith, append-nil, length-append, ◌⊎◌, inl, inr, Global}
use Rattle.std.specs.Prelude.{option_to_list, slice_get}
use Rattle.std.specs.declared.collections.VecDeque.{VecDeque}
use Rattle.std.specs.VecDeque.{deque_len, deque_capacity}
use Rattle.std.specs.Vec.{vec_capacity}
use Rattle.std.proofs.lemmas.Bool.Decides.{nat_tests}
use Rattle.std.proofs.lemmas.List.{drop-append-le}
use Rattle.file_messages.specs.declared.kind.CopyKind.{CopyKind}
use Rattle.file_messages.specs.declared.fault.FileFault.{FileFault}
use Rattle.file_messages.specs.declared.fault.FileFault.TheVariants.{NoMemory}
use Rattle.file_messages.specs.declared.message.Request.{Request}
use Rattle.file_messages.specs.declared.job.Work.{Work}
use Rattle.file_messages.specs.declared.job.WorkResult.{WorkResult}
use Rattle.file_messages.specs.Messages.{WRITE, END, request_of}
use Rattle.file_pasts.specs.ServerDue.{ServerEvent, Asked, Requests, replies, requests, judgement, judged, judged_after, with_judged, has_ended, written, handled, standing_status, source_in_hand, jobs_given, jobs_in_hand, jobs_due, jobs_if_handled, group_in_hand, groups_replied, groups_stored, result_at}
use Rattle.file_server.specs.declared.server.FileServer.{FileServer}
use Rattle.file_server.specs.declared.server_course.Course.{Course}
use Rattle.file_server.specs.declared.server_turn.Start.{Start}
use Rattle.file_server.specs.ServerTurn.{outcomes_so_far, outcomes_of, all_of, total_in, filled_for, IsWithinBounds, AreAsked, AreFitting, StartsAs, jobs_at_start, first_group}
use Rattle.file_server.specs.ServerStands.{CameBy, CourseCame, IsSource, AnswersRequest, lasts, after_request}
use Rattle.file_server.proofs.ServerLists.{get-before, get-last, within, beyond}
use Rattle.file_server.proofs.ServerOutcomes.{outcomes-same, fitting-none}
use Rattle.file_server.proofs.ServerPasts.{group_with, group-is, handled-some, handled-none, request_at}
use Rattle.file_server.proofs.ServerStarts.{due-start, outcomes-start, group-start, few-start}
use Rattle.file_server.proofs.ServerRequests.{IsAccepted, accepted, AreRequests-append, has_ended-append, written-append, written-short}

-- ---- the request that is handled stays

due-asked : (kind : CopyKind) (message : List ℕ) (past : List ServerEvent) → handled kind (Asked message ∷ past) ≡ handled kind past
    → jobs_due kind (Asked message ∷ past) ≡ jobs_due kind past
due-asked kind message past h = ap (λ (o : Option Request). jobs_if_handled kind o (Asked message ∷ past)) h ∙ by_handled (handled kind past) where
  by_handled : (o : Option Request) → jobs_if_handled kind o (Asked message ∷ past) ≡ jobs_if_handled kind o past
  by_handled None = refl
  by_handled (Some r) = refl

outcomes-asked : (kind : CopyKind) (message : List ℕ) (past : List ServerEvent) → handled kind (Asked message ∷ past) ≡ handled kind past
    → outcomes_so_far kind (Asked message ∷ past) ≡ outcomes_so_far kind past
outcomes-asked kind message past h =
    ap (λ (jobs : List Work). outcomes_of (jobs_given past - jobs_in_hand past) jobs (Asked message ∷ past)) (due-asked kind message past h)
    ∙ outcomes-same (jobs_given past - jobs_in_hand past) (jobs_due kind past) past (Asked message ∷ past) (λ m. refl)

group-asked : (kind : CopyKind) (message : List ℕ) (past : List ServerEvent) → handled kind (Asked message ∷ past) ≡ handled kind past
    → group_in_hand kind (Asked message ∷ past) ≡ group_in_hand kind past
group-asked kind message past h = group-is kind (Asked message ∷ past)
    ∙ ap (λ (o : Option Request). group_with o (standing_status past) (all_of (outcomes_so_far kind (Asked message ∷ past)))) h
    ∙ ap (λ (os : List (Option WorkResult)). group_with (handled kind past) (standing_status past) (all_of os)) (outcomes-asked kind message past h)
    ∙ sym (group-is kind past)

came-beside : (kind : CopyKind) (past : List ServerEvent) (m : FileServer) (message : List ℕ) (rs : VecDeque Request Global) (co : Course) (f : Option FileFault) → CameBy kind past m
    → handled kind (Asked message ∷ past) ≡ handled kind past
    → rs.items ≡ drop (length (replies past)) (requests kind (Asked message ∷ past)).accepted → CourseCame kind (Asked message ∷ past) co → f ≡ (requests kind (Asked message ∷ past)).fault
    → length (replies past) ≤ length (requests kind (Asked message ∷ past)).accepted → length (requests kind (Asked message ∷ past)).accepted < 4294967296
    → AreAsked (requests kind (Asked message ∷ past)).accepted
    → CameBy kind (Asked message ∷ past) (record m { waiting = rs; course = co; fault = f })
came-beside kind past m message rs co f c h waiting course fault replied few read =
    let jobs : jobs_due kind (Asked message ∷ past) ≡ jobs_due kind past = due-asked kind message past h in
    let outs : outcomes_so_far kind (Asked message ∷ past) ≡ outcomes_so_far kind past = outcomes-asked kind message past h in
    let group : group_in_hand kind (Asked message ∷ past) ≡ group_in_hand kind past = group-asked kind message past h in
    record {
      kind_is = c.kind_is;
      waiting = waiting;
      course = course;
      fault = fault;
      status = c.status;
      given = c.given;
      turn = record {
        first = c.turn.first;
        due = c.turn.due ∙ ap (λ (ws : List Work). drop (jobs_in_hand past) ws) (sym jobs);
        outcomes = c.turn.outcomes ∙ sym outs;
        filled = c.turn.filled ∙ ap (λ (o : Option Request). filled_for o (source_in_hand past)) (sym h);
        empty = c.turn.empty;
        room = λ none. subst (λ (ws : List Work). total_in ws ≤ vec_capacity m.turn.room) (sym jobs)
            (c.turn.room (ap (λ (os : List (Option WorkResult)). all_of os) (sym outs) ∙ none));
      };
      groups = c.groups ∙ ap (λ (g : List (List ℕ)). drop (groups_stored past) (groups_replied kind past ++ g)) (sym group);
      spare = subst (λ (g : List (List ℕ)). deque_len m.groups + 1 ≤ deque_capacity m.groups + length g) (sym group) c.spare;
      in_turn = record {
        lawful = (tt, c.in_turn.lawful);
        replied = replied;
        stored = subst (λ (g : List (List ℕ)). groups_stored past ≤ length (groups_replied kind past ++ g)) (sym group) c.in_turn.stored;
        few = few;
        source = subst (λ (o : Option Request). IsSource o (source_in_hand past)) (sym h) c.in_turn.source;
        in_hand = subst (λ (ws : List Work). jobs_in_hand past ≤ length ws) (sym jobs) c.in_turn.in_hand;
        due = subst (λ (ws : List Work). length ws ≤ 16) (sym jobs) c.in_turn.due;
        before = c.in_turn.before;
        given = c.in_turn.given;
        ahead = c.in_turn.ahead;
        counts = c.in_turn.counts;
        read = read;
        fitting = subst (λ (os : List (Option WorkResult)). AreFitting (jobs_due kind (Asked message ∷ past)) os) (sym outs)
            (subst (λ (ws : List Work). AreFitting ws (outcomes_so_far kind past)) (sym jobs) c.in_turn.fitting);
      };
    }

-- ---- it is refused

came-with_fault : (kind : CopyKind) (past : List ServerEvent) (m : FileServer) (message : List ℕ) (f : Option FileFault) → CameBy kind past m
    → requests kind (Asked message ∷ past) ≡ (record { accepted = (requests kind past).accepted; fault = f })
    → CameBy kind (Asked message ∷ past) (record m { fault = f })
came-with_fault kind past m message f c e =
    let same : (requests kind (Asked message ∷ past)).accepted ≡ (requests kind past).accepted = ap (λ (q : Requests). q.accepted) e in
    came-beside kind past m message m.waiting m.course f c
    (ap (λ (rs : List Request). slice_get rs (length (replies past))) same)
    (c.waiting ∙ ap (λ (rs : List Request). drop (length (replies past)) rs) (sym same))
    (record {
      accepted = c.course.accepted ∙ ap (λ (rs : List Request). length rs) (sym same);
      ended = c.course.ended ∙ ap (λ (rs : List Request). has_ended rs) (sym same);
      written = c.course.written ∙ ap (λ (rs : List Request). written rs) (sym same);
      counted = c.course.counted;
    })
    (ap (λ (q : Requests). q.fault) (sym e))
    (subst (λ (rs : List Request). length (replies past) ≤ length rs) (sym same) c.in_turn.replied)
    (subst (λ (rs : List Request). length rs < 4294967296) (sym same) c.in_turn.few)
    (subst (λ (rs : List Request). AreAsked rs) (sym same) c.in_turn.read)

pub came-refused : (kind : CopyKind) (past : List ServerEvent) (m : FileServer) (message : List ℕ) (f : FileFault) → CameBy kind past m
    → judgement kind (requests kind past) (replies past) message ≡ Err f → CameBy kind (Asked message ∷ past) (record m { fault = Some f })
came-refused kind past m message f c e = came-with_fault kind past m message (Some f) c (ap (λ (j : Result Request FileFault). with_judged j (requests kind past)) e)

pub came-still_refused : (kind : CopyKind) (past : List ServerEvent) (m : FileServer) (message : List ℕ) (f : FileFault) → CameBy kind past m → m.fault ≡ Some f
    → (judgement kind (requests kind past) (replies past) message ≡ Err f) × CameBy kind (Asked message ∷ past) m
came-still_refused kind past m message f c e =
    let lasts : judgement kind (requests kind past) (replies past) message ≡ Err f = rw (sym c.fault ∙ e) refl in
    (lasts, subst (λ (o : Option FileFault). CameBy kind (Asked message ∷ past) (record m { fault = o })) (sym e) (came-refused kind past m message f c lasts))

-- ---- it is accepted

with-accepted : (kind : CopyKind) (past : List ServerEvent) (message : List ℕ) (r : Request) → judgement kind (requests kind past) (replies past) message ≡ Ok r
    → requests kind (Asked message ∷ past) ≡ (record { accepted = (requests kind past).accepted ++ r ∷ []; fault = (requests kind past).fault })
with-accepted kind past message r e = ap (λ (j : Result Request FileFault). with_judged j (requests kind past)) e

course-accepted : (kind : CopyKind) (past : List ServerEvent) (m : FileServer) (message : List ℕ) (r : Request) (co : Course) → CameBy kind past m
    → judgement kind (requests kind past) (replies past) message ≡ Ok r
    → co ≡ (record { accepted = r.id; ended = m.course.ended || r.op == END; written = m.course.written + cond (r.op == WRITE) r.length 0; counted = m.course.counted })
    → CourseCame kind (Asked message ∷ past) co
course-accepted kind past m message r co c e is =
    let a : IsAccepted kind (requests kind past) (replies past) message r = accepted kind (requests kind past) (replies past) message r e in
    let more : (requests kind (Asked message ∷ past)).accepted ≡ (requests kind past).accepted ++ r ∷ [] = ap (λ (q : Requests). q.accepted) (with-accepted kind past message r e) in
    record {
      accepted = ap (λ (x : Course). x.accepted) is ∙ a.next ∙ sym (length-append (requests kind past).accepted (r ∷ [])) ∙ ap (λ (rs : List Request). length rs) (sym more);
      ended = ap (λ (x : Course). x.ended) is ∙ ap (λ (t : Bool). t || r.op == END) c.course.ended ∙ sym (has_ended-append (requests kind past).accepted r) ∙ ap (λ (rs : List Request). has_ended rs) (sym more);
      written = ap (λ (x : Course). x.written) is ∙ ap (λ (n : ℕ). n + cond (r.op == WRITE) r.length 0) c.course.written ∙ sym (written-append (requests kind past).accepted r)
          ∙ ap (λ (rs : List Request). written rs) (sym more);
      counted = ap (λ (x : Course). x.counted) is ∙ c.course.counted;
    }

pub written-fits : (kind : CopyKind) (past : List ServerEvent) (m : FileServer) (message : List ℕ) (r : Request) → CameBy kind past m
    → judgement kind (requests kind past) (replies past) message ≡ Ok r → m.course.written + r.length ≤ 65536 * 4294967296
written-fits kind past m message r c e =
    let a : IsAccepted kind (requests kind past) (replies past) message r = accepted kind (requests kind past) (replies past) message r e in
    omega (arith, c.course.written, written-short (requests kind past).accepted c.in_turn.read, c.in_turn.few, a.read.short)

-- what is said of the accepted requests, with this one
record Takes (kind : CopyKind) (past : List ServerEvent) (message : List ℕ) (r : Request) : Type 0 where
  more : (requests kind (Asked message ∷ past)).accepted ≡ (requests kind past).accepted ++ r ∷ []
  longer : length (requests kind (Asked message ∷ past)).accepted ≡ length (requests kind past).accepted + 1
  few : length (requests kind (Asked message ∷ past)).accepted < 4294967296
  read : AreAsked (requests kind (Asked message ∷ past)).accepted

takes : (kind : CopyKind) (past : List ServerEvent) (m : FileServer) (message : List ℕ) (r : Request) → CameBy kind past m → judgement kind (requests kind past) (replies past) message ≡ Ok r
    → r.id < 4294967296 → Takes kind past message r
takes kind past m message r c e small =
    let a : IsAccepted kind (requests kind past) (replies past) message r = accepted kind (requests kind past) (replies past) message r e in
    let more : (requests kind (Asked message ∷ past)).accepted ≡ (requests kind past).accepted ++ r ∷ [] = ap (λ (q : Requests). q.accepted) (with-accepted kind past message r e) in
    let longer : length (requests kind (Asked message ∷ past)).accepted ≡ length (requests kind past).accepted + 1 =
    ap (λ (rs : List Request). length rs) more ∙ length-append (requests kind past).accepted (r ∷ []) in
    record {
      more = more;
      longer = longer;
      few = omega (arith, longer, a.next, small);
      read = subst (λ (rs : List Request). AreAsked rs) (sym more) (AreRequests-append (requests kind past).accepted r c.in_turn.read a.read);
    }

-- another one is handled
pub came-queued : (kind : CopyKind) (past : List ServerEvent) (m : FileServer) (message : List ℕ) (r : Request) (rs : VecDeque Request Global) (co : Course) → CameBy kind past m
    → judgement kind (requests kind past) (replies past) message ≡ Ok r → r.id < 4294967296 → (length m.waiting.items == 0) ≡ false → rs.items ≡ m.waiting.items ++ r ∷ []
    → co ≡ (record { accepted = r.id; ended = m.course.ended || r.op == END; written = m.course.written + cond (r.op == WRITE) r.length 0; counted = m.course.counted })
    → CameBy kind (Asked message ∷ past) (record m { waiting = rs; course = co })
came-queued kind past m message r rs co c e small some put is =
    let t : Takes kind past message r = takes kind past m message r c e small in
    let fewer : length (replies past) < length (requests kind past).accepted = waits_some m.waiting.items refl in
    came-beside kind past m message rs co m.fault c
    (ap (λ (list : List Request). slice_get list (length (replies past))) t.more ∙ get-before (length (replies past)) (requests kind past).accepted r fewer)
    (put ∙ ap (λ (list : List Request). list ++ r ∷ []) c.waiting ∙ sym (drop-append-le (length (replies past)) (requests kind past).accepted (r ∷ []) c.in_turn.replied)
    ∙ ap (λ (list : List Request). drop (length (replies past)) list) (sym t.more))
    (course-accepted kind past m message r co c e is)
    (c.fault ∙ ap (λ (q : Requests). q.fault) (sym (with-accepted kind past message r e)))
    (omega (arith, c.in_turn.replied, t.longer)) t.few t.read
  where
    waits_some : (list : List Request) → m.waiting.items ≡ list → length (replies past) < length (requests kind past).accepted
    waits_some [] h = absurd (let none : (length m.waiting.items == 0) ≡ true = ap (λ (list : List Request). length list == 0) h in let b : ⊥ = cc in b)
    waits_some (x ∷ later) h = within (length (replies past)) (requests kind past).accepted x (handled-some kind past m x later c h)

-- ---- it is handled at once

pub no_groups : (kind : CopyKind) (past : List ServerEvent) (m : FileServer) → CameBy kind past m → m.waiting.items ≡ [] → group_in_hand kind past ≡ []
no_groups kind past m c e = group-is kind past ∙ ap (λ (o : Option Request). group_with o (standing_status past) (all_of (outcomes_so_far kind past))) (handled-none kind past m c e)

pub nothing_waits : (rs : List Request) → (length rs == 0) ≡ true → rs ≡ []
nothing_waits [] h = refl
nothing_waits (x ∷ rs) h = absurd (let b : ⊥ = grind (arith, nat_tests) in b)

pub one_group : (status : ℕ) (r : Request) → length (first_group status r) ≤ 1
one_group status r = by_tests (status == 0) (r.op == WRITE && r.channel == 0) where
  by_tests : (s w : Bool) → length (cond {A = List (List ℕ)} s (cond w (r.inline ∷ []) []) []) ≤ 1
  by_tests true true = omega arith
  by_tests true false = omega arith
  by_tests false w = omega arith

pub came-handled : (kind : CopyKind) (past : List ServerEvent) (m : FileServer) (message : List ℕ) (r : Request) (start : Start) (rs : VecDeque Request Global) (co : Course) (g : VecDeque (List ℕ) Global)
    → CameBy kind past m → judgement kind (requests kind past) (replies past) message ≡ Ok r → r.id < 4294967296 → m.waiting.items ≡ [] → rs.items ≡ m.waiting.items ++ r ∷ []
    → co ≡ (record { accepted = r.id; ended = m.course.ended || r.op == END; written = m.course.written + cond (r.op == WRITE) r.length 0; counted = m.course.counted })
    → StartsAs (Some r) m.status m.given start
    → g.items ≡ m.groups.items ++ option_to_list start.group → deque_len g ≡ deque_len m.groups + length (option_to_list start.group) → deque_capacity g ≡ deque_capacity m.groups
    → CameBy kind (Asked message ∷ past) (record m { waiting = rs; course = co; turn = start.turn; groups = g })
came-handled kind past m message r start rs co g c e small none put is starts put_group more same =
    let t : Takes kind past message r = takes kind past m message r c e small in
    let before : handled kind past ≡ None = handled-none kind past m c none in
    let all : length (requests kind past).accepted ≡ length (replies past) =
    omega (arith, beyond (length (replies past)) (requests kind past).accepted before, c.in_turn.replied) in
    let here : handled kind (Asked message ∷ past) ≡ Some r =
    ap (λ (list : List Request). slice_get list (length (replies past))) t.more ∙ get-last (length (replies past)) (requests kind past).accepted r (sym all) in
    let unused : jobs_in_hand past ≡ 0 =
    omega (arith, c.in_turn.in_hand, ap (λ (o : Option Request). length (jobs_if_handled kind o past)) before) in
    let sourceless : source_in_hand past ≡ None = no_source (source_in_hand past) (subst (λ (o : Option Request). IsSource o (source_in_hand past)) before c.in_turn.source) in
    let starts_so : StartsAs (handled kind (Asked message ∷ past)) (standing_status past) m.given start =
    subst (λ (o : Option Request). StartsAs o (standing_status past) m.given start) (sym here) (subst (λ (s : ℕ). StartsAs (Some r) s m.given start) c.status starts) in
    let ahead : (n : ℕ) → jobs_given past ≤ n → result_at n (Asked message ∷ past) ≡ None = c.in_turn.ahead in
    let read : (q : Request) → handled kind (Asked message ∷ past) ≡ Some q → IsWithinBounds q =
    λ q h. request_at (length (replies past)) (requests kind (Asked message ∷ past)).accepted q t.read h in
    let due : jobs_due kind (Asked message ∷ past) ≡ jobs_at_start (standing_status past) (handled kind (Asked message ∷ past)) = due-start kind (Asked message ∷ past) sourceless in
    let outs : outcomes_so_far kind (Asked message ∷ past) ≡ map (λ (w : Work). None) (jobs_due kind (Asked message ∷ past)) = outcomes-start kind (Asked message ∷ past) unused ahead in
    let group : group_in_hand kind (Asked message ∷ past) ≡ option_to_list start.group = group-start kind (Asked message ∷ past) sourceless unused ahead read ∙ sym starts_so.group in
    let groupless : group_in_hand kind past ≡ [] = no_groups kind past m c none in
    let whole : groups_replied kind past ++ group_in_hand kind past ≡ groups_replied kind past = ap (λ (h : List (List ℕ)). groups_replied kind past ++ h) groupless ∙ append-nil (groups_replied kind past) in
    let stored : groups_stored past ≤ length (groups_replied kind past) = subst (λ (h : List (List ℕ)). groups_stored past ≤ length h) whole c.in_turn.stored in
    record {
      kind_is = c.kind_is;
      waiting = put ∙ ap (λ (list : List Request). list ++ r ∷ []) c.waiting ∙ sym (drop-append-le (length (replies past)) (requests kind past).accepted (r ∷ []) c.in_turn.replied)
          ∙ ap (λ (list : List Request). drop (length (replies past)) list) (sym t.more);
      course = course-accepted kind past m message r co c e is;
      fault = c.fault ∙ ap (λ (q : Requests). q.fault) (sym (with-accepted kind past message r e));
      status = c.status;
      given = c.given;
      turn = record {
        first = omega (arith, starts_so.first_is, c.given, unused);
        due = starts_so.due ∙ sym due ∙ ap (λ (n : ℕ). drop n (jobs_due kind (Asked message ∷ past))) (sym unused);
        outcomes = starts_so.outcomes ∙ ap (λ (ws : List Work). map (λ (w : Work). None) ws) (sym due) ∙ sym outs;
        filled = starts_so.filled ∙ sym (ap (λ (s : Option (List ℕ)). filled_for (handled kind (Asked message ∷ past)) s) sourceless ∙ filled-none (handled kind (Asked message ∷ past)));
        empty = starts_so.empty;
        room = λ missing. subst (λ (ws : List Work). total_in ws ≤ vec_capacity start.turn.room) (sym due) starts_so.room;
      };
      groups = put_group ∙ ap (λ (q : List (List ℕ)). q ++ option_to_list start.group) (c.groups ∙ ap (λ (q : List (List ℕ)). drop (groups_stored past) q) whole)
          ∙ sym (drop-append-le (groups_stored past) (groups_replied kind past) (option_to_list start.group) stored)
          ∙ ap (λ (h : List (List ℕ)). drop (groups_stored past) (groups_replied kind past ++ h)) (sym group);
      spare = omega (arith, more, same, c.spare, ap (λ (h : List (List ℕ)). length h) groupless, ap (λ (h : List (List ℕ)). length h) group);
      in_turn = record {
        lawful = (tt, c.in_turn.lawful);
        replied = omega (arith, c.in_turn.replied, t.longer);
        stored = omega (arith, stored, length-append (groups_replied kind past) (group_in_hand kind (Asked message ∷ past)));
        few = t.few;
        source = subst (λ (s : Option (List ℕ)). IsSource (handled kind (Asked message ∷ past)) s) (sym sourceless) (source-none (handled kind (Asked message ∷ past)));
        in_hand = omega (arith, unused);
        due = subst (λ (ws : List Work). length ws ≤ 16) (sym due) (few-start (standing_status past) (handled kind (Asked message ∷ past)) read);
        before = c.in_turn.before;
        given = c.in_turn.given;
        ahead = ahead;
        counts = c.in_turn.counts;
        read = t.read;
        fitting = subst (λ (list : List (Option WorkResult)). AreFitting (jobs_due kind (Asked message ∷ past)) list) (sym outs) (fitting-none (jobs_due kind (Asked message ∷ past)));
      };
    } where
      no_source : (s : Option (List ℕ)) → IsSource None s → s ≡ None
      no_source None h = refl
      no_source (Some bytes) h = absurd h

      source-none : (o : Option Request) → IsSource o None
      source-none None = tt
      source-none (Some q) = tt

      filled-none : (o : Option Request) → filled_for o None ≡ None
      filled-none None = refl
      filled-none (Some q) = refl

-- ---- what the call answers and leaves

pub judged-first : (kind : CopyKind) (past : List ServerEvent) (m : FileServer) (message : List ℕ) → CameBy kind past m → m.fault ≡ None
    → judgement kind (requests kind past) (replies past) message ≡ judged kind (requests kind past).accepted (replies past) (request_of message)
judged-first kind past m message c e = ap (λ (o : Option FileFault). judged_after o (judged kind (requests kind past).accepted (replies past) (request_of message))) (sym c.fault ∙ e)

pub answers : (f : FileFault) (j : Result Request FileFault) → (f ≡ NoMemory) ⊎ (j ≡ Err f) → AnswersRequest (Err f) j
answers NoMemory j h = tt
answers f j (inr e) = e
answers f j (inl e) = absurd (let b : ⊥ = cc in b)

pub after-either : (kind : CopyKind) (past : List ServerEvent) (m : FileServer) (message : List ℕ) (f : FileFault) → CameBy kind past m → CameBy kind (Asked message ∷ past) m
    → CameBy kind (after_request (Err f) message past) m
after-either kind past m message NoMemory c d = c
after-either kind past m message f c d = d

pub after-lasting : (kind : CopyKind) (past : List ServerEvent) (m : FileServer) (message : List ℕ) (f : FileFault) → lasts f ≡ true → CameBy kind (Asked message ∷ past) m
    → CameBy kind (after_request (Err f) message past) m
after-lasting kind past m message NoMemory l d = absurd (let b : ⊥ = cc in b)
after-lasting kind past m message f l d = d

pub after-memory : (kind : CopyKind) (past : List ServerEvent) (m : FileServer) (message : List ℕ) (f : FileFault) → lasts f ≡ false → CameBy kind past m
    → CameBy kind (after_request (Err f) message past) m
after-memory kind past m message NoMemory l c = c
after-memory kind past m message f l c = absurd (let b : ⊥ = cc in b)

pub lasting : (f : FileFault) (j : Result Request FileFault) → lasts f ≡ true → (f ≡ NoMemory) ⊎ (j ≡ Err f) → j ≡ Err f
lasting NoMemory j l h = absurd (let b : ⊥ = cc in b)
lasting f j l (inr e) = e
lasting f j l (inl e) = absurd (let b : ⊥ = cc in b)
