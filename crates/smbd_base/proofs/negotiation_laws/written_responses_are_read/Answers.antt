use Rattle.smbd_base.proofs.NegotiationLaws.{read_response_of-response_bytes, answer_fits, lawful_answer, refusal_refused, credits_in-response_bytes}
use Rattle.smbd_base.specs.NegotiateMessages.{request_of_limits, answer_to}
use Rattle.smbd_base.proofs.negotiation_laws.written_responses_are_read.Goals as goal

pub returns-clause-lawful : goal.returns-clause-lawful
returns-clause-lawful c = read_response_of-response_bytes

pub returns-clause-answer : goal.returns-clause-answer
returns-clause-answer c client server grantable asks answers some =
    read_response_of-response_bytes client (answer_to (request_of_limits client) server grantable)
    (answer_fits client server grantable asks answers) (lawful_answer client server grantable asks answers some)

pub returns-clause-refusal : goal.returns-clause-refusal
returns-clause-refusal c = refusal_refused

pub returns-clause-grant : goal.returns-clause-grant
returns-clause-grant c = credits_in-response_bytes
