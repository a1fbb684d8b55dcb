use Rattle.file_server.proofs.ServerReplies.{second-read}
use Rattle.file_server.proofs.server.FileServer.start_of_next.Goals as goal

pub of-requires : goal.of-requires
of-requires c = second-read c.requires.kind c.requires.past c.args.self.now c.in-Some.request.now c.requires.came c.in-Some.ensures.some
