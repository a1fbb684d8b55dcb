-- A job or a group is given.
use Rattle.std.proofs.Common.{◌≡◌, ℕ, suc, ◌+◌, ◌-◌, ◌<◌, ◌≤◌, Option, Some, None, List, [], ◌∷◌, ◌++◌, length, drop, refl, sym, ap, ◌∙◌, subst, arith, Global}
use Rattle.std.specs.Prelude.{option_to_list, slice_get}
use Rattle.std.specs.declared.collections.VecDeque.{VecDeque}
use Rattle.std.specs.VecDeque.{deque_len, deque_capacity}
use Rattle.std.specs.Vec.{vec_capacity}
use Rattle.file_messages.specs.declared.kind.CopyKind.{CopyKind}
use Rattle.file_messages.specs.declared.message.Request.{Request}
use Rattle.file_messages.specs.declared.job.Work.{Work}
use Rattle.file_messages.specs.declared.job.WorkResult.{WorkResult}
use Rattle.file_pasts.specs.ServerDue.{ServerEvent, Gave, Stored, handled, standing_status, jobs_given, jobs_in_hand, jobs_due, jobs_if_handled, next_job, next_group, group_in_hand, groups_replied, groups_stored}
use Rattle.file_pasts.specs.PutDue.{numbered}
use Rattle.file_server.specs.declared.server.FileServer.{FileServer}
use Rattle.file_server.specs.ServerTurn.{outcomes_so_far, outcomes_of, all_of, total_in, AreFitting}
use Rattle.file_server.specs.ServerStands.{CameBy, after_giving, after_storing}
use Rattle.file_server.proofs.ServerLists.{next_at, none_at, drop_more, within}
use Rattle.file_server.proofs.ServerOutcomes.{outcomes-same}
use Rattle.file_server.proofs.ServerPasts.{group_with, group-is}

-- ---- a job

first-gave : (g h : ℕ) → (g + 1) - (h + 1) ≡ g - h
first-gave g h = omega arith

due-gave : (kind : CopyKind) (w : Work) (past : List ServerEvent) → jobs_due kind (Gave w ∷ past) ≡ jobs_due kind past
due-gave kind w past = by_handled (handled kind past) where
  by_handled : (o : Option Request) → jobs_if_handled kind o (Gave w ∷ past) ≡ jobs_if_handled kind o past
  by_handled None = refl
  by_handled (Some r) = refl

outcomes-gave : (kind : CopyKind) (w : Work) (past : List ServerEvent) → outcomes_so_far kind (Gave w ∷ past) ≡ outcomes_so_far kind past
outcomes-gave kind w past =
    ap (λ (n : ℕ). outcomes_of n (jobs_due kind (Gave w ∷ past)) (Gave w ∷ past)) (first-gave (jobs_given past) (jobs_in_hand past))
    ∙ ap (λ (jobs : List Work). outcomes_of (jobs_given past - jobs_in_hand past) jobs (Gave w ∷ past)) (due-gave kind w past)
    ∙ outcomes-same (jobs_given past - jobs_in_hand past) (jobs_due kind past) past (Gave w ∷ past) (λ m. refl)

group-gave : (kind : CopyKind) (w : Work) (past : List ServerEvent) → group_in_hand kind (Gave w ∷ past) ≡ group_in_hand kind past
group-gave kind w past = group-is kind (Gave w ∷ past)
    ∙ ap (λ (os : List (Option WorkResult)). group_with (handled kind past) (standing_status past) (all_of os)) (outcomes-gave kind w past)
    ∙ sym (group-is kind past)

due-stored : (kind : CopyKind) (bytes : List ℕ) (past : List ServerEvent) → jobs_due kind (Stored bytes ∷ past) ≡ jobs_due kind past
due-stored kind bytes past = by_handled (handled kind past) where
  by_handled : (o : Option Request) → jobs_if_handled kind o (Stored bytes ∷ past) ≡ jobs_if_handled kind o past
  by_handled None = refl
  by_handled (Some r) = refl

outcomes-stored : (kind : CopyKind) (bytes : List ℕ) (past : List ServerEvent) → outcomes_so_far kind (Stored bytes ∷ past) ≡ outcomes_so_far kind past
outcomes-stored kind bytes past =
    ap (λ (jobs : List Work). outcomes_of (jobs_given past - jobs_in_hand past) jobs (Stored bytes ∷ past)) (due-stored kind bytes past)
    ∙ outcomes-same (jobs_given past - jobs_in_hand past) (jobs_due kind past) past (Stored bytes ∷ past) (λ m. refl)

group-stored : (kind : CopyKind) (bytes : List ℕ) (past : List ServerEvent) → group_in_hand kind (Stored bytes ∷ past) ≡ group_in_hand kind past
group-stored kind bytes past = group-is kind (Stored bytes ∷ past)
    ∙ ap (λ (os : List (Option WorkResult)). group_with (handled kind past) (standing_status past) (all_of os)) (outcomes-stored kind bytes past)
    ∙ sym (group-is kind past)

pub came-gave : (kind : CopyKind) (past : List ServerEvent) (m : FileServer) (d : VecDeque Work Global) (w : Work) → CameBy kind past m
    → slice_get (jobs_due kind past) (jobs_in_hand past) ≡ Some w → d.items ≡ drop 1 m.turn.due.items
    → CameBy kind (Gave w ∷ past) (record m { given = m.given + 1; turn = record m.turn { due = d } })
came-gave kind past m d w c e due =
    let more : jobs_in_hand past < length (jobs_due kind past) = within (jobs_in_hand past) (jobs_due kind past) w e in
    let jobs : jobs_due kind (Gave w ∷ past) ≡ jobs_due kind past = due-gave kind w past in
    let outs : outcomes_so_far kind (Gave w ∷ past) ≡ outcomes_so_far kind past = outcomes-gave kind w past in
    let group : group_in_hand kind (Gave w ∷ past) ≡ group_in_hand kind past = group-gave kind w past in
    record {
      kind_is = c.kind_is;
      waiting = c.waiting;
      course = record { accepted = c.course.accepted; ended = c.course.ended; written = c.course.written; counted = c.course.counted };
      fault = c.fault;
      status = c.status;
      given = ap (λ (g : ℕ). g + 1) c.given;
      turn = record {
        first = c.turn.first ∙ sym (first-gave (jobs_given past) (jobs_in_hand past));
        due = due ∙ ap (λ (q : List Work). drop 1 q) c.turn.due ∙ drop_more (jobs_in_hand past) (jobs_due kind past) ∙ ap (λ (jobs : List Work). drop (jobs_in_hand past + 1) jobs) (sym jobs);
        outcomes = c.turn.outcomes ∙ sym outs;
        filled = c.turn.filled;
        empty = c.turn.empty;
        room = λ none. subst (λ (jobs : List Work). total_in jobs ≤ vec_capacity m.turn.room) (sym jobs)
            (c.turn.room (ap (λ (os : List (Option WorkResult)). all_of os) (sym outs) ∙ none));
      };
      groups = c.groups ∙ ap (λ (g : List (List ℕ)). drop (groups_stored past) (groups_replied kind past ++ g)) (sym group);
      spare = subst (λ (g : List (List ℕ)). deque_len m.groups + 1 ≤ deque_capacity m.groups + length g) (sym group) c.spare;
      in_turn = record {
        lawful = (ap (numbered (jobs_given past)) e, c.in_turn.lawful);
        replied = c.in_turn.replied;
        stored = subst (λ (g : List (List ℕ)). groups_stored past ≤ length (groups_replied kind past ++ g)) (sym group) c.in_turn.stored;
        few = c.in_turn.few;
        source = c.in_turn.source;
        in_hand = subst (λ (jobs : List Work). jobs_in_hand past + 1 ≤ length jobs) (sym jobs) (omega arith);
        due = subst (λ (jobs : List Work). length jobs ≤ 16) (sym jobs) c.in_turn.due;
        before = omega (arith, c.in_turn.before);
        given = omega (arith, c.in_turn.given);
        ahead = λ n h. c.in_turn.ahead n (omega arith);
        counts = c.in_turn.counts;
        read = c.in_turn.read;
        fitting = subst (λ (os : List (Option WorkResult)). AreFitting (jobs_due kind (Gave w ∷ past)) os) (sym outs)
            (subst (λ (jobs : List Work). AreFitting jobs (outcomes_so_far kind past)) (sym jobs) c.in_turn.fitting);
      };
    }

-- the queue of jobs gives the next one
pub gave-next : (kind : CopyKind) (past : List ServerEvent) (m : FileServer) (w : Work) (rest : List Work) → CameBy kind past m → m.turn.due.items ≡ w ∷ rest
    → slice_get (jobs_due kind past) (jobs_in_hand past) ≡ Some w
gave-next kind past m w rest c e = next_at (jobs_in_hand past) (jobs_due kind past) w rest (sym c.turn.due ∙ e)

pub gave-none : (kind : CopyKind) (past : List ServerEvent) (m : FileServer) → CameBy kind past m → m.turn.due.items ≡ []
    → slice_get (jobs_due kind past) (jobs_in_hand past) ≡ None
gave-none kind past m c e = none_at (jobs_in_hand past) (jobs_due kind past) (sym c.turn.due ∙ e)

-- nothing comes of a list whose first element is taken away and that stays the same
pub nothing_popped : {A : Type 0} (xs ys : List A) → xs ≡ [] ++ ys → ys ≡ drop 1 xs → xs ≡ []
nothing_popped [] ys e f = refl
nothing_popped (x ∷ xs) ys e f = absurd (let same : x ∷ xs ≡ xs = e ∙ f in let n : suc (length xs) ≡ length xs = ap length same in omega arith)

-- ---- a group

pub came-stored : (kind : CopyKind) (past : List ServerEvent) (m : FileServer) (g : VecDeque (List ℕ) Global) (bytes : List ℕ) (rest : List (List ℕ)) → CameBy kind past m
    → m.groups.items ≡ bytes ∷ rest → g.items ≡ drop 1 m.groups.items → deque_len g + 1 ≡ deque_len m.groups → deque_capacity g ≡ deque_capacity m.groups
    → CameBy kind (Stored bytes ∷ past) (record m { groups = g })
came-stored kind past m g bytes rest c e left fewer same =
    let next : next_group kind past ≡ Some bytes = next_at (groups_stored past) (groups_replied kind past ++ group_in_hand kind past) bytes rest (sym c.groups ∙ e) in
    let more : groups_stored past < length (groups_replied kind past ++ group_in_hand kind past) = within (groups_stored past) (groups_replied kind past ++ group_in_hand kind past) bytes next in
    let jobs : jobs_due kind (Stored bytes ∷ past) ≡ jobs_due kind past = due-stored kind bytes past in
    let outs : outcomes_so_far kind (Stored bytes ∷ past) ≡ outcomes_so_far kind past = outcomes-stored kind bytes past in
    let group : group_in_hand kind (Stored bytes ∷ past) ≡ group_in_hand kind past = group-stored kind bytes past in
    record {
      kind_is = c.kind_is;
      waiting = c.waiting;
      course = record { accepted = c.course.accepted; ended = c.course.ended; written = c.course.written; counted = c.course.counted };
      fault = c.fault;
      status = c.status;
      given = c.given;
      turn = record {
        first = c.turn.first;
        due = c.turn.due ∙ ap (λ (jobs : List Work). drop (jobs_in_hand past) jobs) (sym jobs);
        outcomes = c.turn.outcomes ∙ sym outs;
        filled = c.turn.filled;
        empty = c.turn.empty;
        room = λ none. subst (λ (jobs : List Work). total_in jobs ≤ vec_capacity m.turn.room) (sym jobs)
            (c.turn.room (ap (λ (os : List (Option WorkResult)). all_of os) (sym outs) ∙ none));
      };
      groups = left ∙ ap (λ (q : List (List ℕ)). drop 1 q) c.groups ∙ drop_more (groups_stored past) (groups_replied kind past ++ group_in_hand kind past)
          ∙ ap (λ (h : List (List ℕ)). drop (groups_stored past + 1) (groups_replied kind past ++ h)) (sym group);
      spare = subst (λ (h : List (List ℕ)). deque_len g + 1 ≤ deque_capacity g + length h) (sym group) (omega (arith, c.spare));
      in_turn = record {
        lawful = (next, c.in_turn.lawful);
        replied = c.in_turn.replied;
        stored = subst (λ (h : List (List ℕ)). groups_stored past + 1 ≤ length (groups_replied kind past ++ h)) (sym group) (omega arith);
        few = c.in_turn.few;
        source = c.in_turn.source;
        in_hand = subst (λ (jobs : List Work). jobs_in_hand past ≤ length jobs) (sym jobs) c.in_turn.in_hand;
        due = subst (λ (jobs : List Work). length jobs ≤ 16) (sym jobs) c.in_turn.due;
        before = c.in_turn.before;
        given = c.in_turn.given;
        ahead = c.in_turn.ahead;
        counts = c.in_turn.counts;
        read = c.in_turn.read;
        fitting = subst (λ (os : List (Option WorkResult)). AreFitting (jobs_due kind (Stored bytes ∷ past)) os) (sym outs)
            (subst (λ (jobs : List Work). AreFitting jobs (outcomes_so_far kind past)) (sym jobs) c.in_turn.fitting);
      };
    }

-- ---- what the calls leave

pub came-next_job : (kind : CopyKind) (past : List ServerEvent) (m : FileServer) (d : VecDeque Work Global) (w : Work) → CameBy kind past m
    → m.turn.due.items ≡ w ∷ d.items → d.items ≡ drop 1 m.turn.due.items
    → CameBy kind (after_giving (next_job kind past) past) (record m { given = m.given + 1; turn = record m.turn { due = d } })
came-next_job kind past m d w c e due =
    let next : slice_get (jobs_due kind past) (jobs_in_hand past) ≡ Some w = gave-next kind past m w d.items c e in
    subst (λ (o : Option Work). CameBy kind (after_giving (numbered (jobs_given past) o) past) (record m { given = m.given + 1; turn = record m.turn { due = d } }))
    (sym next) (came-gave kind past m d w c next due)

pub came-stored_next : (kind : CopyKind) (past : List ServerEvent) (m : FileServer) (g : VecDeque (List ℕ) Global) (o : Option (List ℕ)) → CameBy kind past m
    → m.groups.items ≡ option_to_list o ++ g.items → g.items ≡ drop 1 m.groups.items → deque_len g + length (option_to_list o) ≡ deque_len m.groups
    → deque_capacity g ≡ deque_capacity m.groups → CameBy kind (after_storing (next_group kind past) past) (record m { groups = g })
came-stored_next kind past m g (Some bytes) c e left fewer same =
    let next : next_group kind past ≡ Some bytes = next_at (groups_stored past) (groups_replied kind past ++ group_in_hand kind past) bytes g.items (sym c.groups ∙ e) in
    subst (λ (o : Option (List ℕ)). CameBy kind (after_storing o past) (record m { groups = g })) (sym next)
    (came-stored kind past m g bytes g.items c e left fewer same)
came-stored_next kind past m g None c e left fewer same =
    let none : m.groups.items ≡ [] = nothing_popped m.groups.items g.items e left in
    let next : next_group kind past ≡ None = none_at (groups_stored past) (groups_replied kind past ++ group_in_hand kind past) (sym c.groups ∙ none) in
    subst (λ (o : Option (List ℕ)). CameBy kind (after_storing o past) (record m { groups = g })) (sym next)
    (record {
      kind_is = c.kind_is;
      waiting = c.waiting;
      course = record { accepted = c.course.accepted; ended = c.course.ended; written = c.course.written; counted = c.course.counted };
      fault = c.fault;
      status = c.status;
      given = c.given;
      turn = c.turn;
      groups = sym e ∙ c.groups;
      spare = omega (arith, c.spare, fewer, same);
      in_turn = c.in_turn;
    })
