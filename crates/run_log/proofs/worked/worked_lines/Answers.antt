use Rattle.std.proofs.Common.{refl}
use Rattle.std.specs.Fmt.{digits}
use Rattle.hex.specs.Hex.{encode_with}
use Rattle.smbd_base.specs.DataFrame.{data_frame_of, header_bytes}
use Rattle.smbd_base.specs.History.{next_event, take_fault, fault_expecting}
use Rattle.smbd_base.specs.Pieces.{pieces_of}
use Rattle.smbd_base.specs.NegotiateMessages.{request_fault, fault_in_request, response_fault, fault_in_response}
use Rattle.run_log.proofs.worked.worked_lines.Goals as goal

pub returns : goal.returns
unfolding next_event take_fault fault_expecting data_frame_of header_bytes pieces_of request_fault fault_in_request response_fault fault_in_response digits encode_with
returns c = record { opened = refl; requested = refl; submitted = refl; delivered = refl }
