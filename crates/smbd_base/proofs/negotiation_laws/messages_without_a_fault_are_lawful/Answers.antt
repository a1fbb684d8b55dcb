use Rattle.smbd_base.proofs.NegotiationLaws.{lawful_request, no_fault_in_request, lawful_response, no_fault_in_response}
use Rattle.smbd_base.proofs.negotiation_laws.messages_without_a_fault_are_lawful.Goals as goal

pub returns-clause-request : goal.returns-clause-request
returns-clause-request c request = (lawful_request request, no_fault_in_request request)

pub returns-clause-response : goal.returns-clause-response
returns-clause-response c limits response = (lawful_response limits response, no_fault_in_response limits response)
