use Rattle.file_server.specs.ServerStands.{after_replying}
use Rattle.file_pasts.specs.ServerDue.{next_reply}
use Rattle.std.proofs.Common.{rules}
use Rattle.file_tests.proofs.serving.Serving.next_message.Goals as goal

pub invariant_of-self : goal.invariant_of-self
invariant_of-self g c =
    let s = c.self.invariant in
    record { kind = s.kind; past = after_replying (next_reply s.kind s.past) s.past; came = search rules }
