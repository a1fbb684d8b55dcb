use Rattle.file_server.specs.ServerStands.{after_request}
use Rattle.file_tests.proofs.serving.Serving.request.Goals as goal

pub invariant_of-self : goal.invariant_of-self
invariant_of-self c =
    let s = c.self.invariant in
    record { kind = s.kind; past = after_request c.request.result c.args.message.now s.past; came = c.request.ensures.after s.kind s.past s.came }
