use Rattle.file_server.proofs.ServerGave.{came-stored_next}
use Rattle.file_server.proofs.server.FileServer.stored.Goals as goal

pub returns-clause-after : goal.returns-clause-after
returns-clause-after c = λ kind past came.
    came-stored_next kind past c.args.self.now c.pop_front.new.self c.pop_front.result came c.pop_front.ensures.items c.pop_front.ensures.rest c.pop_front.ensures.len c.pop_front.ensures.capacity
