use Rattle.std.proofs.Common.{refl}
use Rattle.smbd_base.specs.DataFrame.{data_frame_of, header_bytes}
use Rattle.smbd_base.specs.History.{next_event, take_fault, fault_expecting}
use Rattle.smbd_base.specs.Pieces.{pieces_of}
use Rattle.smbd_base.specs.NegotiateMessages.{request_fault, fault_in_request, response_fault, fault_in_response}
use Rattle.smbd_base.proofs.worked.worked_histories.Goals as goal

pub returns-clause-opening : goal.returns-clause-opening
unfolding next_event take_fault fault_expecting data_frame_of header_bytes pieces_of request_fault fault_in_request response_fault fault_in_response
returns-clause-opening c = record {
  client_posts = refl;
  server_posts = refl;
  client_requests = refl;
  client_waits = refl;
  server_waits = refl;
  request_taken = refl;
  server_reposts = refl;
  server_grantable = refl;
  server_responds = refl;
  response_taken = refl;
  client_reposts = refl;
  client_holds = refl;
  client_grants = refl;
  server_holds = refl;
  server_promised = refl;
}

pub returns-clause-delivery : goal.returns-clause-delivery
unfolding next_event take_fault fault_expecting data_frame_of header_bytes pieces_of request_fault fault_in_request response_fault fault_in_response
returns-clause-delivery c = record {
  sent = refl;
  taken = refl;
  nothing_yet = refl;
  delivered = refl;
  reposted = refl;
  idle = refl;
  earned = refl;
}

pub returns-clause-refusal : goal.returns-clause-refusal
unfolding next_event take_fault fault_expecting data_frame_of header_bytes pieces_of request_fault fault_in_request response_fault fault_in_response
returns-clause-refusal c = record {
  early = refl;
  uncounted = refl;
  unexpected = refl;
  closes = refl;
  closed = refl;
  short = refl;
  cut = refl;
  cut_refused = refl;
  cut_submit = refl;
  empty_submit = refl;
}

pub returns-clause-credits : goal.returns-clause-credits
unfolding next_event take_fault fault_expecting data_frame_of header_bytes pieces_of request_fault fault_in_request response_fault fault_in_response
returns-clause-credits c = record {
  grants = refl;
  first = refl;
  second = refl;
  last_kept = refl;
  last_held = refl;
  server_waits = refl;
  server_grants = refl;
  third = refl;
}

pub returns-clause-pieces : goal.returns-clause-pieces
unfolding pieces_of
returns-clause-pieces c = record { pieces = refl; one = refl }

pub returns-clause-gathering : goal.returns-clause-gathering
unfolding next_event take_fault fault_expecting data_frame_of header_bytes pieces_of request_fault fault_in_request response_fault fault_in_response
returns-clause-gathering c = record {
  taken = refl;
  expected = refl;
  nothing_yet = refl;
  goes_on = refl;
  delivered = refl;
  complete = refl;
  between = refl;
  total = refl;
  too_long = refl;
  longest = refl;
  before = refl;
  after = refl;
}

pub returns-clause-negotiation : goal.returns-clause-negotiation
unfolding request_fault fault_in_request response_fault fault_in_response
returns-clause-negotiation c = record {
  requested = refl;
  read = refl;
  longer = refl;
  reserved = refl;
  short = refl;
  newer = refl;
  older = refl;
  no_credits = refl;
  small_frames = refl;
  small_messages = refl;
  version_first = refl;
  zeros = refl;
  answered = refl;
  asked_alone = refl;
  grantable_alone = refl;
  answer_read = refl;
  longer_answer = refl;
  short_answer = refl;
  other_version = refl;
  none_asked = refl;
  none_granted = refl;
  one_too_many = refl;
  long_frames = refl;
  small_frames_back = refl;
  small_messages_back = refl;
  refused = refl;
  refusal_read = refl;
  short_refusal = refl;
  server_agreed = refl;
  client_agreed = refl;
}

pub returns-clause-declining : goal.returns-clause-declining
unfolding next_event take_fault fault_expecting data_frame_of header_bytes pieces_of request_fault fault_in_request response_fault fault_in_response
returns-clause-declining c = record {
  newer = refl;
  reposts = refl;
  responds = refl;
  held = refl;
  closes = refl;
  unsettled = refl;
  closed = refl;
  cut = refl;
  refused = refl;
  client_closes = refl;
  no_credits = refl;
  silent = refl;
  other_version = refl;
  no_response = refl;
}

pub returns-clause-settling : goal.returns-clause-settling
unfolding next_event take_fault fault_expecting data_frame_of header_bytes pieces_of request_fault fault_in_request response_fault fault_in_response
returns-clause-settling c = record {
  requests = refl;
  request_taken = refl;
  responds = refl;
  response_taken = refl;
  client_holds = refl;
  client_agreed = refl;
  first_piece = refl;
  server_granted = refl;
  server_grantable = refl;
  server_agreed = refl;
  server_piece = refl;
  before = refl;
  after = refl;
}
