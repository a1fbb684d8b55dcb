use Rattle.std.proofs.Common.{refl}
use Rattle.smbd_base.specs.DataFrame.{data_frame_of, header_bytes}
use Rattle.smbd_base.specs.History.{next_event, take_fault, fault_expecting}
use Rattle.smbd_base.specs.Pieces.{pieces_of}
use Rattle.smbd_base.specs.NegotiateMessages.{request_fault, fault_in_request, response_fault, fault_in_response}
use Rattle.smbd_base.proofs.worked_bounds.worked_boundaries.Goals as goal

pub returns-clause-sizes : goal.returns-clause-sizes
unfolding next_event take_fault fault_expecting data_frame_of header_bytes pieces_of request_fault fault_in_request response_fault fault_in_response
returns-clause-sizes c = record {
  full = refl;
  over = refl;
  first_full = refl;
  first_over = refl;
  early = refl;
  ungranted = refl;
}

pub returns-clause-responses : goal.returns-clause-responses
unfolding next_event take_fault fault_expecting data_frame_of header_bytes pieces_of request_fault fault_in_request response_fault fault_in_response
returns-clause-responses c = record {
  none = refl;
  one = refl;
  two = refl;
  three = refl;
  request = refl;
  still = refl;
  answered = refl;
}

pub returns-clause-leniency : goal.returns-clause-leniency
unfolding next_event take_fault fault_expecting data_frame_of header_bytes pieces_of request_fault fault_in_request response_fault fault_in_response
returns-clause-leniency c = record {
  reserved = refl;
  delivered = refl;
  remaining = refl;
  nothing_begun = refl;
  between = refl;
  still_begun = refl;
}

pub returns-clause-sending : goal.returns-clause-sending
unfolding next_event take_fault fault_expecting data_frame_of header_bytes pieces_of request_fault fault_in_request response_fault fault_in_response
returns-clause-sending c = record {
  last_grants = refl;
  last_kept = refl;
  none_held = refl;
  two_held = refl;
  owed = refl;
  one_left = refl;
  two_left = refl;
  none_grantable = refl;
  last_to_grant = refl;
  piece = refl;
}

pub returns-clause-orders : goal.returns-clause-orders
unfolding next_event take_fault fault_expecting data_frame_of header_bytes pieces_of request_fault fault_in_request response_fault fault_in_response
returns-clause-orders c = record {
  short_version = refl;
  version_credits = refl;
  credits_receive_size = refl;
  receive_fragmented_size = refl;
  short_status = refl;
  status_version = refl;
  version_requested = refl;
  requested_granted = refl;
  granted_send_size = refl;
  send_receive_size = refl;
  response_fragmented_size = refl;
  short_offset = refl;
  offset_length = refl;
  length = refl;
  total_too_long = refl;
}
