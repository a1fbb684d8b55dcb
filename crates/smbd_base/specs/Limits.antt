-- The limits of an end, and their ranges (this project's own). The bounds are constants of limits.rt; worked examples
-- (`worked_limits`) hold each of them to its number.
use Rattle.std.specs.Prelude.{ℕ, ◌≤◌, nat_lt, Bool, ◌||◌, Result, Ok, Err, if◌then◌else◌}
use Rattle.smbd_base.specs.declared.limits.LimitFault.{LimitFault}
use Rattle.smbd_base.specs.declared.limits.TheConstants.{LEAST_CREDITS, MOST_CREDITS, LEAST_FRAME_SIZE, MOST_FRAME_SIZE, LEAST_FRAGMENTED_SIZE, MOST_FRAGMENTED_SIZE, LEAST_PAGES, MOST_PAGES}
use Rattle.smbd_base.specs.declared.limits.LimitFault.TheVariants.{Credits, SendSize, ReceiveSize, FragmentedSize, Pages}

-- receive credits, sizes in bytes, and the pages of a pool
pub record Limits : Type 0 where
  pub credits : ℕ
  pub send_size : ℕ
  pub receive_size : ℕ
  pub fragmented_size : ℕ
  pub pages : ℕ

-- the number lies from least to most
abbrev pub IsWithin : ℕ → ℕ → ℕ → Type 0
IsWithin least most n = (least ≤ n) × (n ≤ most)

-- each limit lies in its range
pub record IsLawful (limits : Limits) : Type 0 where
  pub credits : IsWithin LEAST_CREDITS MOST_CREDITS limits.credits
  pub send_size : IsWithin LEAST_FRAME_SIZE MOST_FRAME_SIZE limits.send_size
  pub receive_size : IsWithin LEAST_FRAME_SIZE MOST_FRAME_SIZE limits.receive_size
  pub fragmented_size : IsWithin LEAST_FRAGMENTED_SIZE MOST_FRAGMENTED_SIZE limits.fragmented_size
  pub pages : IsWithin LEAST_PAGES MOST_PAGES limits.pages

-- the number lies outside
unfoldable pub is_outside : ℕ → ℕ → ℕ → Bool
is_outside least most n = nat_lt n least || nat_lt most n

-- the limits, or the first one that lies out of its range
abbrev pub checked : Limits → Result Limits LimitFault
checked limits =
    if is_outside LEAST_CREDITS MOST_CREDITS limits.credits then Err Credits
    else if is_outside LEAST_FRAME_SIZE MOST_FRAME_SIZE limits.send_size then Err SendSize
    else if is_outside LEAST_FRAME_SIZE MOST_FRAME_SIZE limits.receive_size then Err ReceiveSize
    else if is_outside LEAST_FRAGMENTED_SIZE MOST_FRAGMENTED_SIZE limits.fragmented_size then Err FragmentedSize
    else if is_outside LEAST_PAGES MOST_PAGES limits.pages then Err Pages
    else Ok limits

-- the defaults
abbrev pub usual_limits : Limits
usual_limits = record { credits = 255; send_size = 1364; receive_size = 8192; fragmented_size = 1048576; pages = 64 }
