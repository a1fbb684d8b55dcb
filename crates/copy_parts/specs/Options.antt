-- The options of a copy that can be made.
use Rattle.std.specs.Prelude.{◌≡◌, ◌≤◌, Some}
use Rattle.copy_parts.specs.declared.options.CopyOptions.{CopyOptions}

-- from 1 to 8 workers at each end; and frames are numbered from 1
pub record AreLawful (o : CopyOptions) : Type 0 where
  pub some : 1 ≤ o.workers
  pub few : o.workers ≤ 8
  pub numbered : o.cut ≡ Some 0 → ⊥
