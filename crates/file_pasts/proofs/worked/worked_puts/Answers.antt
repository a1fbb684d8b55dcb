use Rattle.std.proofs.Common.{refl}
use Rattle.file_messages.specs.Messages.{request_fault, fault_in_reply}
use Rattle.file_pasts.proofs.worked.worked_puts.Goals as goal

pub returns : goal.returns
unfolding request_fault fault_in_reply
returns c = record {
  at_first = refl;
  wants = refl;
  short_is_last = refl;
  asks = refl;
  no_job = refl;
  waits = refl;
  ends = refl;
  unfinished = refl;
  finished = refl;
  nothing = refl;
  empty = refl;
  wrong = refl;
  then_nothing = refl;
}
