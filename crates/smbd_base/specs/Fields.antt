-- Little-endian numbers in a list of bytes.
use Rattle.std.specs.Prelude.{ℕ, ◌+◌, ◌*◌, nat_lt, List, length, slice_index, if◌then◌else◌}

-- the 16-bit number at this place, the low byte first, and 0 where the bytes end before its end
abbrev pub u16_at : ℕ → List ℕ → ℕ
u16_at place bytes =
    if nat_lt (length bytes) (place + 2) then 0
    else slice_index bytes place + 256 * slice_index bytes (place + 1)

-- the 32-bit number at this place, the low byte first, and 0 where the bytes end before its end
abbrev pub u32_at : ℕ → List ℕ → ℕ
u32_at place bytes =
    if nat_lt (length bytes) (place + 4) then 0
    else slice_index bytes place + 256 * slice_index bytes (place + 1)
    + 65536 * slice_index bytes (place + 2) + 16777216 * slice_index bytes (place + 3)
