-- The bytes for a READ are handed in.
use Rattle.std.proofs.Common.{◌≡◌, ℕ, ◌+◌, ◌≤◌, ◌==◌, ◌&&◌, Bool, true, false, cond, is_none, Option, Some, None, List, [], ◌∷◌, ◌++◌, length, map, drop, refl, sym, ap, ◌∙◌, subst, arith, Global}
use Rattle.std.specs.Prelude.{option_map}
use Rattle.std.specs.declared.vec.Vec.{Vec}
use Rattle.std.specs.VecDeque.{deque_len, deque_capacity}
use Rattle.std.specs.Vec.{vec_capacity}
use Rattle.std.proofs.lemmas.Bool.Decides.{nat_tests}
use Rattle.buffer_descriptor.specs.declared.descriptor.Descriptor.{Descriptor}
use Rattle.file_messages.specs.declared.kind.CopyKind.{CopyKind}
use Rattle.file_messages.specs.declared.message.Request.{Request}
use Rattle.file_messages.specs.declared.job.Work.{Work}
use Rattle.file_messages.specs.declared.job.WorkResult.{WorkResult}
use Rattle.file_messages.specs.Messages.{WRITE, READ}
use Rattle.file_pasts.specs.ServerDue.{ServerEvent, Filled as WasFilled, handled, standing_status, source_in_hand, wants_source, jobs_in_hand, jobs_due, jobs_if_handled, places_of, group_in_hand, groups_replied, groups_stored}
use Rattle.file_server.specs.declared.server.FileServer.{FileServer}
use Rattle.file_server.specs.declared.server_turn.Filled.{Filled}
use Rattle.file_server.specs.declared.server_turn.Turn.{Turn}
use Rattle.file_server.specs.ServerTurn.{outcomes_so_far, all_of, total_in, filled_for, filled_with, IsWithinBounds, AreFitting, jobs_at_start}
use Rattle.file_server.specs.ServerStands.{CameBy, IsSource}
use Rattle.file_server.proofs.ServerOutcomes.{fitting-none}
use Rattle.file_server.proofs.ServerPasts.{group_with, group-is, handled-some}
use Rattle.file_server.proofs.ServerStarts.{due-start, outcomes-start}
use Rattle.file_server.proofs.ServerReplies.{front-read, filled-is, wants-is, wants-none}

-- bytes are wanted for this request
pub record IsWanted (r : Request) (m : FileServer) (most : ℕ) : Type 0 where
  pub read : (r.op == READ) ≡ true
  pub going : (m.status == 0) ≡ true
  pub unfilled : is_none m.turn.filled ≡ true
  pub most_is : r.length ≡ most

pub wanted : (kind : CopyKind) (past : List ServerEvent) (m : FileServer) (r : Request) (later : List Request) (most : ℕ) → CameBy kind past m → m.waiting.items ≡ r ∷ later
    → wants_source kind past ≡ Some most → IsWanted r m most
wanted kind past m r later most c e w = by_tests (r.op == READ) (m.status == 0) (is_none m.turn.filled) refl refl refl (sym (wants-is kind past m r later c e) ∙ w) where
  by_tests : (x y z : Bool) → (r.op == READ) ≡ x → (m.status == 0) ≡ y → is_none m.turn.filled ≡ z → cond (r.op == READ && m.status == 0 && is_none m.turn.filled) (Some r.length) None ≡ Some most → IsWanted r m most
  by_tests true true true h k l s =
      let all : cond (true && true && true) (Some r.length) None ≡ Some most =
      ap (λ (t : Bool). cond (t && true && true) (Some r.length) None) (sym h) ∙ ap (λ (t : Bool). cond (r.op == READ && t && true) (Some r.length) None) (sym k)
      ∙ ap (λ (t : Bool). cond (r.op == READ && m.status == 0 && t) (Some r.length) None) (sym l) ∙ s in
      let same : r.length ≡ most = cc in
      record { read = h; going = k; unfilled = l; most_is = same }
  by_tests false y z h k l s = absurd (let none : None ≡ Some most = ap (λ (t : Bool). cond (t && m.status == 0 && is_none m.turn.filled) (Some r.length) None) (sym h) ∙ s in let b : ⊥ = cc in b)
  by_tests true false z h k l s = absurd (let none : None ≡ Some most = ap (λ (t : Bool). cond (true && t && is_none m.turn.filled) (Some r.length) None) (sym k)
      ∙ ap (λ (t : Bool). cond (t && m.status == 0 && is_none m.turn.filled) (Some r.length) None) (sym h) ∙ s in let b : ⊥ = cc in b)
  by_tests true true false h k l s = absurd (let none : None ≡ Some most = ap (λ (t : Bool). cond (true && true && t) (Some r.length) None) (sym l)
      ∙ ap (λ (t : Bool). cond (true && t && is_none m.turn.filled) (Some r.length) None) (sym k)
      ∙ ap (λ (t : Bool). cond (t && m.status == 0 && is_none m.turn.filled) (Some r.length) None) (sym h) ∙ s in let b : ⊥ = cc in b)

not_write : (op : ℕ) → (op == READ) ≡ true → (op == WRITE) ≡ false
not_write op h = grind (arith, nat_tests)

-- a READ brings no group
pub group-other : (r : Request) (status : ℕ) (works : Option (List WorkResult)) → (r.op == WRITE) ≡ false → group_with (Some r) status works ≡ []
group-other r status None w = by_status (status == 0) where
  by_status : (t : Bool) → cond {A = List (List ℕ)} t [] [] ≡ []
  by_status true = refl
  by_status false = refl
group-other r status (Some works) w = rw w (by_status (status == 0)) where
  by_status : (t : Bool) → cond {A = List (List ℕ)} t [] [] ≡ []
  by_status true = refl
  by_status false = refl

length-places : (ds : List Descriptor) (bytes : List ℕ) → length (places_of ds bytes) ≤ length ds
length-places [] bytes = omega arith
length-places (d ∷ ds) [] = omega arith
length-places (d ∷ ds) (b ∷ bytes) = omega (arith, length-places ds (drop d.length (b ∷ bytes)))

total-places : (ds : List Descriptor) (bytes : List ℕ) → total_in (places_of ds bytes) ≡ 0
total-places [] bytes = refl
total-places (d ∷ ds) [] = refl
total-places (d ∷ ds) (b ∷ bytes) = omega (arith, total-places ds (drop d.length (b ∷ bytes)))

-- before it had no jobs, and brings no group
pub record IsUnfilled (kind : CopyKind) (past : List ServerEvent) (r : Request) (bytes : List ℕ) : Type 0 where
  pub none : source_in_hand past ≡ None
  pub unused : jobs_in_hand past ≡ 0
  pub groupless : group_in_hand kind past ≡ []
  pub groupless_then : group_in_hand kind (WasFilled bytes ∷ past) ≡ []
  pub jobs : jobs_due kind (WasFilled bytes ∷ past) ≡ places_of r.descriptors bytes

pub unfilled : (kind : CopyKind) (past : List ServerEvent) (m : FileServer) (r : Request) (later : List Request) (most : ℕ) (bytes : List ℕ) → CameBy kind past m → m.waiting.items ≡ r ∷ later
    → IsWanted r m most → IsUnfilled kind past r bytes
unfilled kind past m r later most bytes c e w =
    let here : handled kind past ≡ Some r = handled-some kind past m r later c e in
    let other : (r.op == WRITE) ≡ false = not_write r.op w.read in
    let going : (standing_status past == 0) ≡ true = ap (λ (s : ℕ). s == 0) (sym c.status) ∙ w.going in
    let nothing : source_in_hand past ≡ None = by_source (source_in_hand past) (ap (λ (f : Option Filled). is_none f) (sym (filled-is kind past m r later c e)) ∙ w.unfilled) in
    let jobless : jobs_due kind past ≡ [] = due-start kind past nothing ∙ ap (λ (o : Option Request). jobs_at_start (standing_status past) o) here ∙ rw (going, other) refl in
    record {
      none = nothing;
      unused = omega (arith, c.in_turn.in_hand, ap (λ (ws : List Work). length ws) jobless);
      groupless = group-is kind past ∙ ap (λ (o : Option Request). group_with o (standing_status past) (all_of (outcomes_so_far kind past))) here
          ∙ group-other r (standing_status past) (all_of (outcomes_so_far kind past)) other;
      groupless_then = group-is kind (WasFilled bytes ∷ past) ∙ ap (λ (o : Option Request). group_with o (standing_status past) (all_of (outcomes_so_far kind (WasFilled bytes ∷ past)))) here
          ∙ group-other r (standing_status past) (all_of (outcomes_so_far kind (WasFilled bytes ∷ past))) other;
      jobs = ap (λ (o : Option Request). jobs_if_handled kind o (WasFilled bytes ∷ past)) here ∙ rw (going, other) (rw w.read refl);
    } where
      by_source : (s : Option (List ℕ)) → is_none (option_map (filled_with r) s) ≡ true → s ≡ None
      by_source None h = refl
      by_source (Some b) h = absurd (let f : ⊥ = cc in f)

pub came-filled : (kind : CopyKind) (past : List ServerEvent) (m : FileServer) (r : Request) (later : List Request) (most : ℕ) (bytes : List ℕ)
    (t : Turn) → CameBy kind past m → m.waiting.items ≡ r ∷ later
    → wants_source kind past ≡ Some most → length bytes ≤ most
    → t.first ≡ m.turn.first → t.due.items ≡ places_of r.descriptors bytes → t.outcomes.items ≡ map (λ (w : Work). None) (places_of r.descriptors bytes) → t.filled ≡ Some (filled_with r bytes) → t.room ≡ m.turn.room
    → CameBy kind (WasFilled bytes ∷ past) (record m { turn = t })
came-filled kind past m r later most bytes t c e wants short first due outs filled room =
    let w : IsWanted r m most = wanted kind past m r later most c e wants in
    let u : IsUnfilled kind past r bytes = unfilled kind past m r later most bytes c e w in
    let here : handled kind past ≡ Some r = handled-some kind past m r later c e in
    let read : IsWithinBounds r = front-read kind past m r later c e in
    let is_read : r.op ≡ READ = read_of r.op w.read in
    let outcomes : outcomes_so_far kind (WasFilled bytes ∷ past) ≡ map (λ (v : Work). None) (jobs_due kind (WasFilled bytes ∷ past)) =
    outcomes-start kind (WasFilled bytes ∷ past) u.unused c.in_turn.ahead in
    let same_group : group_in_hand kind past ≡ group_in_hand kind (WasFilled bytes ∷ past) = u.groupless ∙ sym u.groupless_then in
    let few : length (places_of r.descriptors bytes) ≤ 16 = omega (arith, length-places r.descriptors bytes, read.few) in
    record {
      kind_is = c.kind_is;
      waiting = c.waiting;
      course = record { accepted = c.course.accepted; ended = c.course.ended; written = c.course.written; counted = c.course.counted };
      fault = c.fault;
      status = c.status;
      given = c.given;
      turn = record {
        first = first ∙ c.turn.first;
        due = due ∙ sym u.jobs ∙ ap (λ (n : ℕ). drop n (jobs_due kind (WasFilled bytes ∷ past))) (sym u.unused);
        outcomes = outs ∙ ap (λ (ws : List Work). map (λ (v : Work). None) ws) (sym u.jobs) ∙ sym outcomes;
        filled = filled ∙ ap (λ (o : Option Request). filled_for o (Some bytes)) (sym here);
        empty = ap (λ (v : Vec ℕ Global). v.items) room ∙ c.turn.empty;
        room = λ none. subst (λ (ws : List Work). total_in ws ≤ vec_capacity t.room) (sym u.jobs) (omega (arith, total-places r.descriptors bytes));
      };
      groups = c.groups ∙ ap (λ (g : List (List ℕ)). drop (groups_stored past) (groups_replied kind past ++ g)) same_group;
      spare = subst (λ (g : List (List ℕ)). deque_len m.groups + 1 ≤ deque_capacity m.groups + length g) same_group c.spare;
      in_turn = record {
        lawful = ((most, wants, short), c.in_turn.lawful);
        replied = c.in_turn.replied;
        stored = subst (λ (g : List (List ℕ)). groups_stored past ≤ length (groups_replied kind past ++ g)) same_group c.in_turn.stored;
        few = c.in_turn.few;
        source = subst (λ (o : Option Request). IsSource o (Some bytes)) (sym here) (is_read, omega (arith, short, w.most_is));
        in_hand = omega (arith, u.unused);
        due = subst (λ (ws : List Work). length ws ≤ 16) (sym u.jobs) few;
        before = c.in_turn.before;
        given = c.in_turn.given;
        ahead = c.in_turn.ahead;
        counts = c.in_turn.counts;
        read = c.in_turn.read;
        fitting = subst (λ (list : List (Option WorkResult)). AreFitting (jobs_due kind (WasFilled bytes ∷ past)) list) (sym outcomes)
            (fitting-none (jobs_due kind (WasFilled bytes ∷ past)));
      };
    } where
      read_of : (op : ℕ) → (op == READ) ≡ true → op ≡ READ
      read_of op h = grind (arith, nat_tests)

-- what is wanted is seen by the server itself
pub wanted-still : (kind other : CopyKind) (past before : List ServerEvent) (m : FileServer) (r : Request) (later : List Request) → CameBy kind past m → CameBy other before m
    → m.waiting.items ≡ r ∷ later → wants_source kind past ≡ wants_source other before
wanted-still kind other past before m r later c d e = wants-is kind past m r later c e ∙ sym (wants-is other before m r later d e)

pub unwanted : {A : Type 0} (kind : CopyKind) (past : List ServerEvent) (m : FileServer) (most : ℕ) → CameBy kind past m → m.waiting.items ≡ [] → wants_source kind past ≡ Some most → A
unwanted kind past m most c e w = absurd (let none : None ≡ Some most = sym (wants-none kind past m c e) ∙ w in let b : ⊥ = cc in b)

-- at most 65,536 bytes are wanted, for a READ
pub most-wanted : (kind : CopyKind) (past : List ServerEvent) (m : FileServer) (r : Request) (later : List Request) (most : ℕ) → CameBy kind past m → m.waiting.items ≡ r ∷ later
    → wants_source kind past ≡ Some most → (most ≤ 65536) × (r.op ≡ READ)
most-wanted kind past m r later most c e w =
    let is_wanted : IsWanted r m most = wanted kind past m r later most c e w in
    let read : IsWithinBounds r = front-read kind past m r later c e in
    (omega (arith, read.short, is_wanted.most_is), read_of r.op is_wanted.read) where
      read_of : (op : ℕ) → (op == READ) ≡ true → op ≡ READ
      read_of op h = grind (arith, nat_tests)
