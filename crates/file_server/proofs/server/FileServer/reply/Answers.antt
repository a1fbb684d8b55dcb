use Rattle.std.proofs.Common.{arith}
use Rattle.file_server.proofs.ServerReplies.{front-read}
use Rattle.file_server.proofs.server.FileServer.reply.Goals as goal

pub refusal-requires : goal.refusal-requires
refusal-requires c = omega (arith, (front-read _ _ _ _ _ c.requires.came c.in_ok-request.ensures.some).op)

pub success-requires : goal.success-requires
success-requires c = omega (arith, (front-read _ _ _ _ _ c.requires.came c.in_ok-request.ensures.some).op)
