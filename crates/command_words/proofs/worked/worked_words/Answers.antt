use Rattle.std.proofs.Common.{refl}
use Rattle.std.specs.Fmt.{digits}
use Rattle.event_log.specs.Reading.{number_in}
use Rattle.command_words.specs.Given.{given_of}
use Rattle.command_words.proofs.worked.worked_words.Goals as goal

pub returns-clause-copies : goal.returns-clause-copies
unfolding number_in given_of digits
returns-clause-copies c = record {
  put = refl;
  get = refl;
  workers = refl;
  workers_joined = refl;
  channel = refl;
  channel_joined = refl;
  credits = refl;
  credits_joined = refl;
  send_size = refl;
  send_size_joined = refl;
  pages = refl;
  pages_joined = refl;
  cut = refl;
  cut_joined = refl;
  all = refl;
  all_turned = refl;
}

pub returns-clause-loads : goal.returns-clause-loads
unfolding number_in given_of digits
returns-clause-loads c = record {
  alone = refl;
  least = refl;
  most = refl;
  before = refl;
  between = refl;
  after = refl;
  around = refl;
  none = refl;
  one = refl;
  three = refl;
  first_above = refl;
  len_above = refl;
  zero_in_front = refl;
  signed = refl;
  hyphen = refl;
  empty = refl;
  cut = refl;
}

pub returns-clause-sims : goal.returns-clause-sims
unfolding number_in given_of digits
returns-clause-sims c = record {
  alone = refl;
  credits = refl;
  credits_joined = refl;
  both = refl;
  workers = refl;
  channel = refl;
  pages = refl;
  cut = refl;
  other = refl;
}

pub returns-clause-shows : goal.returns-clause-shows
unfolding number_in given_of digits
returns-clause-shows c = record { alone = refl; credits = refl; workers = refl; other = refl }

pub returns-clause-ranges : goal.returns-clause-ranges
unfolding number_in given_of digits
returns-clause-ranges c = record {
  workers_least = refl;
  workers_most = refl;
  workers_below = refl;
  workers_above = refl;
  credits_below = refl;
  credits_above = refl;
  send_size_below = refl;
  send_size_above = refl;
  pages_below = refl;
  pages_above = refl;
  cut_least = refl;
  cut_below = refl;
  cut_above = refl;
  zero_in_front = refl;
  signed = refl;
  negative = refl;
  no_digits = refl;
  empty = refl;
  letters = refl;
  channel_empty = refl;
  channel_upper = refl;
  channel_twice = refl;
}

pub returns-clause-refusals : goal.returns-clause-refusals
unfolding number_in given_of digits
returns-clause-refusals c = record {
  nothing = refl;
  empty = refl;
  other = refl;
  upper = refl;
  hyphens = refl;
  option_first = refl;
  help = refl;
  help_option = refl;
  version = refl;
  value = refl;
  command = refl;
  copy_help = refl;
  copy_version = refl;
  short_help = refl;
  short = refl;
  short_joined = refl;
  word_help = refl;
  abbreviated = refl;
  option_upper = refl;
  longer = refl;
  no_name = refl;
  hyphen = refl;
  trailing_empty = refl;
  dashes = refl;
  dashes_after = refl;
  dashes_between = refl;
  dashes_as_text = refl;
  dashes_last = refl;
  waits = refl;
  waits_for_option = refl;
  waits_for_joined = refl;
  waits_for_hyphen = refl;
  waits_for_negative = refl;
  twice = refl;
  twice_joined = refl;
  twice_mixed = refl;
}
