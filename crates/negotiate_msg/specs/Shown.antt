-- What the structs of negotiation messages show, in the terms of their definition (`NegotiateMessages` of smbd_base).
use Rattle.std.specs.Prelude.{Result, Ok, Err}
use Rattle.smbd_base.specs.declared.faults.NegotiateFault.{NegotiateFault}
use Rattle.smbd_base.specs.NegotiateMessages.{Request, Response}
use Rattle.negotiate_msg.specs.declared.request.NegotiateRequest.{NegotiateRequest}
use Rattle.negotiate_msg.specs.declared.response.NegotiateResponse.{NegotiateResponse}

-- the fields of a request
abbrev pub shown_request : NegotiateRequest → Request
shown_request request = record {
  min_version = request.min_version;
  max_version = request.max_version;
  credits_requested = request.credits_requested;
  preferred_send_size = request.preferred_send_size;
  max_receive_size = request.max_receive_size;
  max_fragmented_size = request.max_fragmented_size;
}

-- the fields of a response
abbrev pub shown_response : NegotiateResponse → Response
shown_response response = record {
  min_version = response.min_version;
  max_version = response.max_version;
  negotiated_version = response.negotiated_version;
  credits_requested = response.credits_requested;
  credits_granted = response.credits_granted;
  status = response.status;
  max_read_write_size = response.max_read_write_size;
  preferred_send_size = response.preferred_send_size;
  max_receive_size = response.max_receive_size;
  max_fragmented_size = response.max_fragmented_size;
}

-- what is shown, or the fault that was found
abbrev pub shown_request_result : Result NegotiateRequest NegotiateFault → Result Request NegotiateFault
shown_request_result (Ok request) = Ok (shown_request request)
shown_request_result (Err fault) = Err fault

abbrev pub shown_response_result : Result NegotiateResponse NegotiateFault → Result Response NegotiateFault
shown_response_result (Ok response) = Ok (shown_response response)
shown_response_result (Err fault) = Err fault
