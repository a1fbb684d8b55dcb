-- Counts of faults, by which a fault of the outside is told from one that was made up (this project's own).
use Rattle.std.specs.Prelude.{ℕ, ◌+◌, ◌-◌, ◌^◌, ◌≤◌, min, Result, Ok, Err, OnErr}

-- one more, and at the last value, 2^64 - 1, no more
abbrev pub raised : ℕ → ℕ
raised count = min (count + 1) (2 ^ 64 - 1)

-- the count rose, or stands at its last value
abbrev pub Rose : ℕ → ℕ → Type 0
Rose before now = raised before ≤ now

-- the count does not fall, and a failure raises it
pub record HasCause {T E : Type 0} (before now : ℕ) (result : Result T E) : Type 0 where
  pub later : before ≤ now
  pub failed : OnErr result (Rose before now)

-- the count of an object that counts each failure and nothing else
abbrev pub count_after : {T E : Type 0} → Result T E → ℕ → ℕ
count_after (Ok value) count = count
count_after (Err refused) count = raised count
