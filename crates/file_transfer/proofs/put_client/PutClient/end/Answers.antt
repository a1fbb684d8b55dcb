use Rattle.file_transfer.proofs.PutClientLemmas.{groups-end}
use Rattle.file_transfer.proofs.put_client.PutClient.end.Goals as goal

pub returns : goal.returns
returns c = λ s past came. record { requests = c.end.ensures s past came.requests; groups = groups-end s past c.args.self.now.groups came.groups }
