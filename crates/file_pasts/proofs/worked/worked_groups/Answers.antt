use Rattle.std.proofs.Common.{refl}
use Rattle.file_messages.specs.Messages.{request_fault, fault_in_reply}
use Rattle.file_pasts.proofs.worked.worked_groups.Goals as goal

pub returns : goal.returns
unfolding request_fault fault_in_reply
returns c = record {
  after_three = refl;
  after_four = refl;
  second_write = refl;
  end_waits = refl;
  end_waits_for_both = refl;
  end_comes = refl;
  jobs = refl;
  one_window = refl;
  two_windows = refl;
  one_load = refl;
  no_load_before = refl;
  load_after = refl;
  next_write = refl;
  goes_on = refl;
  came = refl;
  get_ends = refl;
  wants = refl;
  too_early = refl;
}
