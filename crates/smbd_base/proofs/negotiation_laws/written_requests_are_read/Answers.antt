use Rattle.smbd_base.proofs.NegotiationLaws.{read_request_of-request_bytes, request_of_limits-fits, lawful_request_of_limits}
use Rattle.smbd_base.specs.NegotiateMessages.{request_of_limits}
use Rattle.smbd_base.proofs.negotiation_laws.written_requests_are_read.Goals as goal

pub returns-clause-lawful : goal.returns-clause-lawful
returns-clause-lawful c = read_request_of-request_bytes

pub returns-clause-client : goal.returns-clause-client
returns-clause-client c limits lawful =
    read_request_of-request_bytes (request_of_limits limits) (request_of_limits-fits limits lawful) (lawful_request_of_limits limits lawful)
