-- The input of a command that reads it whole (this project's own).
use Rattle.std.specs.Prelude.{ℕ, ◌<◌, ◌≤◌, List, length}
use Rattle.std.specs.Io.KnownBytes.{Consumes, IsAtEnd}
use Rattle.smbd_outside.specs.declared.status.Status.{Status}
use Rattle.smbd_outside.specs.declared.status.Status.TheVariants.{Done, Usage, ReadFault, WriteFault, LogFault, TooLong, Cut, BadInput, NoMemory}
use Rattle.smbd_outside.specs.Causes.{Rose}
use Rattle.end_workers.specs.Promise.{Stream}
use Rattle.end_workers.specs.Sizes.{most_bytes}

-- these are all the bytes that the source had, and no more than may be read
pub record IsInput (source : Stream) (bytes : List ℕ) : Type 0 where
  pub read : Consumes source.before source.now bytes
  pub at_end : IsAtEnd source.now
  pub short : length bytes ≤ most_bytes

-- when the reading of these bytes stops short, and with which status
abbrev pub CutsInput : Status → Stream → List ℕ → Type 0
CutsInput ReadFault source bytes = (length bytes ≤ most_bytes) × Rose source.faults_before source.faults
CutsInput TooLong source bytes = most_bytes < length bytes
CutsInput NoMemory source bytes = length bytes ≤ most_bytes
CutsInput Done source bytes = ⊥
CutsInput Usage source bytes = ⊥
CutsInput WriteFault source bytes = ⊥
CutsInput LogFault source bytes = ⊥
CutsInput Cut source bytes = ⊥
CutsInput (BadInput line) source bytes = ⊥

pub record StopsInput (status : Status) (source : Stream) : Type 0 where
  pub bytes : List ℕ
  pub read : Consumes source.before source.now bytes
  pub stops : CutsInput status source bytes
