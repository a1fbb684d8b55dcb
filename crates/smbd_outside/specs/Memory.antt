-- A source and a sink in memory, which fail at listed calls (this project's own).
use Rattle.std.specs.Prelude.{ℕ, ◌-◌, ◌==◌, min, Bool, ◌||◌, List, ◌++◌, length, take, drop, Result, Ok, Err}
use Rattle.std.specs.List.{list_any}
use Rattle.smbd_outside.specs.Causes.{raised}

-- a source: the bytes that it has not given, the most that a read gives, the numbers from 1 of the calls that fail,
-- the calls so far, and the faults so far
pub record SourceState : Type 0 where
  pub left : List ℕ
  pub most : ℕ
  pub fail : List ℕ
  pub calls : ℕ
  pub faults : ℕ

-- a sink: the bytes that it has taken, how many more it can take, and the rest as for a source
pub record SinkState : Type 0 where
  pub taken : List ℕ
  pub free : ℕ
  pub most : ℕ
  pub fail : List ℕ
  pub calls : ℕ
  pub faults : ℕ

-- the call of this number is one of those
abbrev pub is_listed : ℕ → List ℕ → Bool
is_listed call fail = list_any (λ number. number == call) fail

-- the next read fails
abbrev pub read_fails : SourceState → Bool
read_fails source = is_listed (raised source.calls) source.fail

-- so many bytes come into that much room, where the read does not fail
abbrev pub read_count : SourceState → ℕ → ℕ
read_count source room = min room (min source.most (length source.left))

-- the source after a read with this answer
abbrev pub after_read : {E : Type 0} → Result ℕ E → SourceState → SourceState
after_read (Ok count) source = record source { left = drop count source.left; calls = raised source.calls }
after_read (Err failed) source = record source { calls = raised source.calls; faults = raised source.faults }

-- the next write fails
abbrev pub write_fails : SinkState → Bool
write_fails sink = is_listed (raised sink.calls) sink.fail || (sink.free == 0)

-- so many bytes of a piece of that length are taken, where the write does not fail
abbrev pub write_count : SinkState → ℕ → ℕ
write_count sink size = min size (min sink.most sink.free)

-- the sink after a write of a piece with this answer
abbrev pub after_write : {E : Type 0} → Result ℕ E → List ℕ → SinkState → SinkState
after_write (Ok count) piece sink =
    record sink { taken = sink.taken ++ take count piece; free = sink.free - count; calls = raised sink.calls }
after_write (Err failed) piece sink = record sink { calls = raised sink.calls; faults = raised sink.faults }
