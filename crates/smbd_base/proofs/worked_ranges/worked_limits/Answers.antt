use Rattle.std.proofs.Common.{refl}
use Rattle.smbd_base.specs.Limits.{is_outside}
use Rattle.smbd_base.proofs.worked_ranges.worked_limits.Goals as goal

pub returns : goal.returns
unfolding is_outside
returns c = record {
  least = refl;
  greatest = refl;
  few_credits = refl;
  many_credits = refl;
  short_sends = refl;
  long_sends = refl;
  short_receives = refl;
  long_receives = refl;
  short_messages = refl;
  long_messages = refl;
  few_pages = refl;
  many_pages = refl;
  first = refl;
  second = refl;
  third = refl;
  fourth = refl;
  page = refl;
  second_page = refl;
  generations = refl;
}
