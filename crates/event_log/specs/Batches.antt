-- What is collected before it is written (this project's own).
use Rattle.std.specs.Prelude.{◌≡◌, ℕ, List, ◌++◌, Option}
use Rattle.std.specs.Io.KnownBytes.{Appends}

-- a sink got these bytes, but for those that are still held
pub record IsBatched (before now : Option (List ℕ)) (bytes held : List ℕ) : Type 0 where
  pub front : List ℕ
  pub whole : bytes ≡ front ++ held
  pub got : Appends before now front
