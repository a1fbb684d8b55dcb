use Rattle.std.proofs.Common.{◌≡◌, codes, refl, lit<}
use Rattle.made_input.specs.Made.{made_bytes}
use Rattle.made_input.proofs.MadeLemmas.{byte-made}
use Rattle.made_input.proofs.worked.worked_inputs.Goals as goal

none : made_bytes 97 0 ≡ codes ""
unfolding made_bytes
none = refl

three : made_bytes 97 3 ≡ codes "abc"
unfolding made_bytes
three = refl

pub returns : goal.returns
returns c = record {
  none = none;
  three = three;
  last_of_256 = byte-made 0 16777216 255 (lit< tt);
  after_256 = byte-made 0 16777216 256 (lit< tt);
  last_of_65536 = byte-made 0 16777216 65535 (lit< tt);
  after_65536 = byte-made 0 16777216 65536 (lit< tt);
  wraps = byte-made 255 16777216 1 (lit< tt);
  last = byte-made 1 16777216 16777215 (lit< tt);
}
