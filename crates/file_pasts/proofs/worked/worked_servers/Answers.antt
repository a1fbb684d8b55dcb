use Rattle.std.proofs.Common.{refl}
use Rattle.file_messages.specs.Messages.{request_fault, fault_in_reply}
use Rattle.file_pasts.proofs.worked.worked_servers.Goals as goal

pub returns-clause-puts : goal.returns-clause-puts
unfolding request_fault fault_in_reply
returns-clause-puts c = record {
  at_once = refl;
  group = refl;
  no_job = refl;
  twice = refl;
  lasts = refl;
  at_get = refl;
  job = refl;
  not_yet = refl;
  none_yet = refl;
  given_once = refl;
  replies = refl;
  stores = refl;
  stores_later = refl;
  stores_once = refl;
  end = refl;
  refuses = refl;
  no_group = refl;
  no_job_then = refl;
  refuses_then = refl;
  nothing_stored = refl;
}

pub returns-clause-gets : goal.returns-clause-gets
unfolding request_fault fault_in_reply
returns-clause-gets c = record {
  wants = refl;
  no_job_yet = refl;
  no_reply_yet = refl;
  wants_once = refl;
  job = refl;
  one_job = refl;
  waits = refl;
  replies = refl;
  empty = refl;
  inline = refl;
  places_first = refl;
  places_second = refl;
  waits_for_both = refl;
  replies_5000 = refl;
  first_refusal = refl;
  ends = refl;
  ends_elsewhere = refl;
}
