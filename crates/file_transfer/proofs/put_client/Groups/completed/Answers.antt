use Rattle.file_transfer.proofs.PutClientLemmas.{as_inline, as_registered, none_answers}
use Rattle.file_transfer.proofs.put_client.Groups.completed.Goals as goal

pub completed-requires : goal.completed-requires
completed-requires c =
    let q = c.requires in
    let r = as_registered q.setup q.past c.args.self.now c.in-Registered.groups q.came c.in-Registered.is in
    record { windows = q.setup.windows; past = q.past; stands = r.stands; answers_it = q.answers_it }

pub returns-in-Inline : goal.returns-in-Inline
returns-in-Inline c = λ s past came p a.
    let i = as_inline s past c.args.self.now c.in-Inline._groups came c.in-Inline.is in
    absurd (none_answers s past c.args.completion i.setup p a)

pub returns-in-Registered : goal.returns-in-Registered
returns-in-Registered c = λ s past came p a.
    let r = as_registered s past c.args.self.now c.in-Registered.groups came c.in-Registered.is in
    record { setup = r.setup; stands = c.completed.ensures s.windows past r.stands a }
