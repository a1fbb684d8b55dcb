use Rattle.std.proofs.Common.{refl}
use Rattle.file_messages.specs.Messages.{request_fault, fault_in_reply}
use Rattle.file_pasts.proofs.worked.worked_gets.Goals as goal

pub returns-clause-inline : goal.returns-clause-inline
unfolding request_fault fault_in_reply
returns-clause-inline c = record {
  reads = refl;
  no_job = refl;
  one_read = refl;
  nothing_yet = refl;
  came = refl;
  came_once = refl;
  ends = refl;
  ends_once = refl;
  unfinished = refl;
  finished = refl;
  no_bytes = refl;
  nothing = refl;
  nothing_ends = refl;
}

pub returns-clause-registered : goal.returns-clause-registered
unfolding request_fault fault_in_reply
returns-clause-registered c = record {
  first_load = refl;
  last_load = refl;
  not_yet = refl;
  not_completed = refl;
  reads = refl;
  no_unload_yet = refl;
  first_unload = refl;
  no_end_yet = refl;
  last_unload = refl;
  not_come = refl;
  came = refl;
  ends = refl;
  no_more_jobs = refl;
  came_once = refl;
  finished = refl;
  next_round = refl;
  next_read_waits = refl;
  whole_came = refl;
  failed_job = refl;
}
