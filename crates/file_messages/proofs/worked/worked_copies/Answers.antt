use Rattle.std.proofs.Common.{refl}
use Rattle.file_messages.specs.Messages.{request_fault, fault_in_reply}
use Rattle.file_messages.proofs.worked.worked_copies.Goals as goal

pub returns : goal.returns
unfolding request_fault fault_in_reply
returns c = record {
  get_ids = refl;
  get_counts = refl;
  reads = refl;
  read_offsets = refl;
  writes = refl;
  write_offsets = refl;
}
