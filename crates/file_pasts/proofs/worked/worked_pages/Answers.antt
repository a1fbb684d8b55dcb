use Rattle.std.proofs.Common.{refl}
use Rattle.file_messages.specs.Messages.{request_fault, fault_in_reply}
use Rattle.file_pasts.proofs.worked.worked_pages.Goals as goal

pub returns : goal.returns
unfolding request_fault fault_in_reply
returns c = record {
  loads = refl;
  not_yet = refl;
  once = refl;
  asks = refl;
  unloads = refl;
  ends = refl;
  no_more = refl;
}
