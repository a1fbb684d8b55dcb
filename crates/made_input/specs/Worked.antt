-- Made inputs, worked out.
use Rattle.std.specs.Prelude.{◌≡◌, codes, Some, slice_get}
use Rattle.made_input.specs.Made.{made_bytes}

-- the first bytes, and those about the ends of the first blocks of 256 and of 65,536
pub record WorkedBytes : Type 0 where
  pub none : made_bytes 97 0 ≡ codes ""
  pub three : made_bytes 97 3 ≡ codes "abc"
  pub last_of_256 : slice_get (made_bytes 0 16777216) 255 ≡ Some 255
  pub after_256 : slice_get (made_bytes 0 16777216) 256 ≡ Some 1
  pub last_of_65536 : slice_get (made_bytes 0 16777216) 65535 ≡ Some 254
  pub after_65536 : slice_get (made_bytes 0 16777216) 65536 ≡ Some 1
  pub wraps : slice_get (made_bytes 255 16777216) 1 ≡ Some 0
  pub last : slice_get (made_bytes 1 16777216) 16777215 ≡ Some 254
