use Rattle.file_transfer.proofs.PutClientLemmas.{on_err-of}
use Rattle.file_transfer.proofs.put_client.PutClient.group.Goals as goal

pub returns-in_err-hand-clause-same : goal.returns-in_err-hand-clause-same
returns-in_err-hand-clause-same c = λ s past came.
    on_err-of c.from_residual.result (record { requests = came.requests; groups = c.in_err-hand.ensures.same s past came.groups })
