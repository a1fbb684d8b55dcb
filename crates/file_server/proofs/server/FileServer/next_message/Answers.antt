use Rattle.std.proofs.Common.{◌++◌, List, ℕ, Some, None, Option, sym, ap, ◌∙◌, arith}
use Rattle.std.specs.Prelude.{option_map, option_to_list}
use Rattle.file_messages.specs.declared.message.Reply.{Reply}
use Rattle.file_messages.specs.Messages.{reply_bytes}
use Rattle.file_server.proofs.ServerReplied.{header-none, no_reply_due, reply_due, came-next_message, came-no_message}
use Rattle.file_server.proofs.server.FileServer.next_message.Goals as goal

pub returns-in_default-clause-due : goal.returns-in_default-clause-due
returns-in_default-clause-due c = λ kind past came.
    ap (λ (o : Option Reply). option_map reply_bytes o) (sym (no_reply_due kind past (header-none kind past c.args.self.now None came c.in_default.ensures.some c.in_default.ensures.none)))

pub returns-in_default-clause-after : goal.returns-in_default-clause-after
returns-in_default-clause-after c = λ kind past came.
    came-no_message kind past c.args.self.now came (no_reply_due kind past (header-none kind past c.args.self.now None came c.in_default.ensures.some c.in_default.ensures.none))

pub returns-clause-due : goal.returns-clause-due
returns-clause-due c = λ kind past came.
    let due = reply_due kind past c.in-Some.header (header-none kind past c.args.self.now (Some c.in-Some.header) came c.in-Some.ensures.some c.in-Some.ensures.none) in
    ap Some (c.in_ok-message.ensures kind past due.0 came due.1 due.2) ∙ ap (λ (o : Option Reply). option_map reply_bytes o) (sym due.1)

pub returns-clause-after : goal.returns-clause-after
returns-clause-after c = λ kind past came.
    came-next_message kind past c.args.self.now c.in-Some.header c.from.result c.in_ok-start.start c.pop_front.new.self c.put.new.groups came
    (header-none kind past c.args.self.now (Some c.in-Some.header) came c.in-Some.ensures.some c.in-Some.ensures.none) c.from.ensures
    c.in_ok-start.ensures c.pop_front.ensures.rest
    (c.put.ensures.items ∙ ap (λ (q : List (List ℕ)). q ++ option_to_list c.in_ok-start.start.group) c.reserve.ensures.items)
    (omega (arith, c.put.ensures.len, c.reserve.ensures.len))
    (omega (arith, c.put.ensures.capacity, c.in_ok-reserve.ensures.ok, c.reserve.ensures.len))
