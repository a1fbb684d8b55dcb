use Rattle.std.proofs.Common.{refl}
use Rattle.file_messages.specs.Messages.{request_fault, fault_in_reply}
use Rattle.file_messages.proofs.worked.worked_messages.Goals as goal

pub returns-clause-writes : goal.returns-clause-writes
unfolding request_fault fault_in_reply
returns-clause-writes c = record {
  inline = refl;
  registered = refl;
  not_ended = refl;
  nothing = refl;
  nothing_registered = refl;
  replies = refl;
  registered_replies = refl;
  get_replies = refl;
  inline_read = refl;
  registered_read = refl;
  end_read = refl;
  get_read = refl;
}

pub returns-clause-refuses : goal.returns-clause-refuses
unfolding request_fault fault_in_reply
returns-clause-refuses c = record {
  short = refl;
  short_list = refl;
  op = refl;
  no_op = refl;
  channel = refl;
  none_listed = refl;
  many_listed = refl;
  inline_listed = refl;
  end_listed = refl;
  longer = refl;
  inline_longer = refl;
  inline_more = refl;
  end_long = refl;
  no_length = refl;
  empty_descriptor = refl;
  wraps = refl;
  just_within = refl;
  overlap = refl;
  by_one = refl;
  side_by_side = refl;
  as_many_as_may = refl;
  one_more = refl;
  later = refl;
  after_end = refl;
  reserved = refl;
}

pub returns-clause-replies : goal.returns-clause-replies
unfolding request_fault fault_in_reply
returns-clause-replies c = record {
  taken = refl;
  read = refl;
  fewer = refl;
  refused = refl;
  refused_next = refl;
  refusal_is_read = refl;
  short = refl;
  op = refl;
  other_op = refl;
  more = refl;
  more_placed = refl;
  missing = refl;
  other_count = refl;
  refused_count = refl;
  end_count = refl;
  order = refl;
  length_before_order = refl;
  later = refl;
}
