use Rattle.file_server.proofs.ServerGave.{came-next_job}
use Rattle.file_server.proofs.server.FileServer.next_job.Goals as goal

pub returns-clause-after : goal.returns-clause-after
returns-clause-after c = λ kind past came. came-next_job kind past c.args.self.now c.pop_front.new.self c.in_ok-work.work came c.in_ok-work.ensures.items c.in_ok-work.ensures.rest
