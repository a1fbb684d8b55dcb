use Rattle.std.proofs.Common.{◌<◌, length, sym, ap, ◌∙◌, subst, arith}
use Rattle.file_server.specs.declared.server_course.Course.{Course}
use Rattle.file_server.proofs.ServerRequests.{accepted}
use Rattle.file_server.proofs.ServerAsked.{written-fits, came-queued, came-handled, no_groups, nothing_waits, one_group}
use Rattle.file_server.proofs.server.FileServer.accept.Goals as goal

pub with-course-requires : goal.with-course-requires
with-course-requires c = omega (arith, written-fits c.requires.kind c.requires.past c.args.self.now c.requires.message c.args.request c.requires.came c.requires.accepted)

pub of-requires : goal.of-requires
of-requires c = (accepted _ _ _ c.requires.message c.args.request c.requires.accepted).read

pub put-requires : goal.put-requires
put-requires c =
    let none = no_groups c.requires.kind c.requires.past c.args.self.now c.requires.came (nothing_waits _ (sym c.is_empty.ensures ∙ c.if-not-is_empty.false)) in
    omega (arith, c.requires.came.spare, ap length none, ap length c.in_ok-start.ensures.group, one_group c.args.self.now.status c.args.request)

pub returns-then-not-is_empty-clause-accepted : goal.returns-then-not-is_empty-clause-accepted
returns-then-not-is_empty-clause-accepted c = λ kind past message came e.
    let small : c.args.request.id < 4294967296 = subst (λ (x : Course). x.accepted < 4294967296) c.with-course.ensures.value c.with-course.ensures.few in
    came-queued kind past c.args.self.now message c.args.request c.push_back.new.self c.with-course.result came e small (sym c.is_empty.ensures ∙ c.if-not-is_empty.true)
    c.in_ok-push_back.ensures.items c.with-course.ensures.value

pub returns-clause-accepted : goal.returns-clause-accepted
returns-clause-accepted c = λ kind past message came e.
    let small : c.args.request.id < 4294967296 = subst (λ (x : Course). x.accepted < 4294967296) c.with-course.ensures.value c.with-course.ensures.few in
    came-handled kind past c.args.self.now message c.args.request c.in_ok-start.start c.push_back-2.new.self c.with-course.result c.put.new.groups came e small
    (nothing_waits _ (sym c.is_empty.ensures ∙ c.if-not-is_empty.false)) c.in_ok-push_back-2.ensures.items c.with-course.ensures.value c.in_ok-start.ensures
    c.put.ensures.items c.put.ensures.len c.put.ensures.capacity
