use Rattle.std.proofs.Common.{◌≡◌, ℕ, ◌≤◌, ◌++◌, List, [], length, Option, vec_len, vec_capacity, ap, ◌∙◌, arith, Global}
use Rattle.std.specs.List.{flat_map}
use Rattle.std.specs.declared.vec.Vec.{Vec}
use Rattle.file_messages.specs.declared.job.WorkResult.{WorkResult}
use Rattle.file_server.specs.ServerTurn.{fetched_in, outcome_bytes}
use Rattle.file_server.proofs.ServerCompleted.{place-is, no_group, room-fits, came-fetched, came-unfetched}
use Rattle.file_server.proofs.server.FileServer.completed.Goals as goal

pub overflow_sub-place : goal.overflow_sub-place
overflow_sub-place c = (place-is c.requires.kind c.requires.past c.args.self.now c.args.completion c.requires.came c.requires.answers).0

pub note-requires : goal.note-requires
note-requires c =
    let at = place-is c.requires.kind c.requires.past c.args.self.now c.args.completion c.requires.came c.requires.answers in
    omega (arith, at.1, at.2)

pub joined-group-requires : goal.joined-group-requires
joined-group-requires c =
    let empty : c.replace-room.result.items ≡ [] = ap (λ (v : Vec ℕ Global). v.items) c.replace-room.ensures.value ∙ c.requires.came.turn.empty in
    let size : vec_len c.replace-room.result ≡ length c.replace-room.result.items = c.replace-room.result.ok.0 in
    let same : vec_capacity c.replace-room.result ≡ vec_capacity c.args.self.now.turn.room = ap (λ (v : Vec ℕ Global). vec_capacity v) c.replace-room.ensures.value in
    let fits : outcome_bytes c.note.new.outcomes.items ≤ vec_capacity c.args.self.now.turn.room =
    room-fits c.requires.kind c.requires.past c.args.self.now c.args.completion c.note.new.outcomes.items c.requires.came c.requires.answers c.note.ensures in
    omega (arith, ap length empty, size, same, fits, ap (λ (os : List (Option WorkResult)). outcome_bytes os) c.deref.ensures.value)

pub push_back_reserved-requires : goal.push_back_reserved-requires
push_back_reserved-requires c =
    omega (arith, c.requires.came.spare, ap length (no_group c.requires.kind c.args.completion c.requires.past c.requires.answers))

pub returns-then-has_fetched : goal.returns-then-has_fetched
returns-then-has_fetched c = λ kind past came answers.
    let none : c.replace-room.new.dest.items ≡ [] = ap (λ (v : Vec ℕ Global). v.items) c.replace-room.ensures.after ∙ c.new.ensures.items in
    let room : c.replace-room.result.items ≡ [] = ap (λ (v : Vec ℕ Global). v.items) c.replace-room.ensures.value ∙ came.turn.empty in
    let whole : c.owned.result ≡ flat_map fetched_in c.note.new.outcomes.items =
    c.owned.ensures ∙ c.joined-group.ensures ∙ ap (λ (b : List ℕ). b ++ flat_map fetched_in c.deref.result.now) room
    ∙ ap (λ (os : List (Option WorkResult)). flat_map fetched_in os) c.deref.ensures.value in
    came-fetched kind past c.args.self.now c.args.completion c.note.new.outcomes c.replace-room.new.dest c.push_back_reserved.new.self c.owned.result came answers c.note.ensures
    c.has_fetched.result c.has_fetched.ensures c.if-has_fetched.true none whole c.push_back_reserved.ensures.items c.push_back_reserved.ensures.len c.push_back_reserved.ensures.capacity

pub returns-else-has_fetched : goal.returns-else-has_fetched
returns-else-has_fetched c = λ kind past came answers.
    came-unfetched kind past c.args.self.now c.args.completion c.note.new.outcomes came answers c.note.ensures c.has_fetched.result c.has_fetched.ensures c.if-has_fetched.false
