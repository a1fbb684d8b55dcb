use Rattle.smbd_base.proofs.NegotiationLaws.{read_request_of-later, read_response_of-later}
use Rattle.smbd_base.proofs.negotiation_laws.later_bytes_change_nothing.Goals as goal

pub returns-clause-request : goal.returns-clause-request
returns-clause-request c = read_request_of-later

pub returns-clause-response : goal.returns-clause-response
returns-clause-response c = read_response_of-later
