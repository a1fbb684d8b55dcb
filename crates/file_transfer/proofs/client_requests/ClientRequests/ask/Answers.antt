use Rattle.std.proofs.Common.{refl}
use Rattle.file_transfer.proofs.ClientRequestsLemmas.{asked-sent}
use Rattle.file_transfer.proofs.client_requests.ClientRequests.ask.Goals as goal

pub returns : goal.returns
returns c = λ past r stands is. asked-sent past c.args.self.now _ r c.args.request stands is c.push_back_reserved.ensures.items refl refl
