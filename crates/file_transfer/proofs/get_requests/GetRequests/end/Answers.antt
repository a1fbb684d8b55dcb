use Rattle.std.proofs.Common.{refl}
use Rattle.file_transfer.specs.GetStands.{end_after}
use Rattle.file_transfer.proofs.GetRequestsLemmas.{stand-end}
use Rattle.file_transfer.proofs.get_requests.GetRequests.end.Goals as goal

pub returns-clause-after : goal.returns-clause-after
returns-clause-after c = λ channel past stands due.
    stand-end channel past c.args.self.now _ (end_after c.args.self.now) stands due (c.in_ok-message.ensures.after past stands.asked) refl refl refl refl
