-- What calls do to the bytes of a source and of a sink, where those are told (this project's own).
use Rattle.std.specs.Prelude.{◌≡◌, ℕ, ◌≤◌, List, ◌++◌, length, Option, Result, IfOk}
use Rattle.std.specs.Io.KnownBytes.{Appends, Consumes}
use mathlib.Core.List.{IsPrefix}

-- at Ok, a write took at least one byte and at most the whole piece
abbrev pub TakesSome : {E : Type 0} → Result ℕ E → List ℕ → Type 0
TakesSome result piece = IfOk result (λ count. (1 ≤ count) × (count ≤ length piece))

-- a sink got a front of these bytes
pub record AppendsFront (before now : Option (List ℕ)) (bytes : List ℕ) : Type 0 where
  pub front : List ℕ
  pub begins : IsPrefix front bytes
  pub got : Appends before now front

-- a buffer gained at its end what a source lost
pub record Gains (before now : Option (List ℕ)) (old new : List ℕ) : Type 0 where
  pub gained : List ℕ
  pub bytes : new ≡ old ++ gained
  pub lost : Consumes before now gained

-- a reader or a writer, with the count of its faults
pub record Counted (A : Type 0) : Type 0 where
  pub inner : A
  pub faults : ℕ
