-- The promise of a load: the put of a made input into memory, and then a line that tells what it came to (this project's own).
use Rattle.std.specs.Prelude.{◌≡◌, ℕ, List, [], Some, length}
use Rattle.std.specs.Io.KnownBytes.{Appends}
use Rattle.smbd_base.specs.History.{messages_submitted}
use Rattle.smbd_outside.specs.Causes.{Rose}
use Rattle.smbd_outside.specs.Streams.{AppendsFront}
use Rattle.smbd_outside.specs.declared.status.Status.{Status}
use Rattle.smbd_outside.specs.declared.status.Status.TheVariants.{Done, Usage, ReadFault, WriteFault, LogFault, TooLong, Cut, BadInput, NoMemory}
use Rattle.made_input.specs.Made.{made_bytes}
use Rattle.load_summary.specs.Summaries.{requests_of_put, load_line}
use Rattle.copy_parts.specs.declared.options.CopyOptions.{CopyOptions}
use Rattle.end_workers.specs.Progress.{IsUntouched}
use Rattle.end_workers.specs.Promise.{Stream, KeepsPromise, IsCopied}

-- ---- the line

-- how the telling of a line ends, and what the sink got of it
abbrev pub TellsLine : Status → List ℕ → Stream → Type 0
TellsLine Done line sink = Appends sink.before sink.now line
TellsLine WriteFault line sink = AppendsFront sink.before sink.now line × Rose sink.faults_before sink.faults
TellsLine NoMemory line sink = IsUntouched sink
TellsLine Usage line sink = ⊥
TellsLine ReadFault line sink = ⊥
TellsLine LogFault line sink = ⊥
TellsLine TooLong line sink = ⊥
TellsLine Cut line sink = ⊥
TellsLine (BadInput number) line sink = ⊥

-- ---- the load

-- all of the made input came into the memory
pub record IsPut (put : Status) (first size : ℕ) (source memory : Stream) : Type 0 where
  pub done : put ≡ Done
  pub copied : IsCopied source memory (made_bytes first size)

-- The put ended so where a load wants memory: for the put, for its line, or for what the put brings. That the memory has room for the whole
-- input, and so never fails, no contract of a copy can tell.
abbrev pub MayWantMemory : Status → Type 0
MayWantMemory Done = Unit {0}
MayWantMemory NoMemory = Unit {0}
MayWantMemory WriteFault = Unit {0}
MayWantMemory Usage = ⊥
MayWantMemory ReadFault = ⊥
MayWantMemory LogFault = ⊥
MayWantMemory TooLong = ⊥
MayWantMemory Cut = ⊥
MayWantMemory (BadInput number) = ⊥

-- when each status of a load comes, by that of the put, and what it leaves of the line in the sink
abbrev pub LoadEnds : Status → Status → ℕ → ℕ → Stream → Stream → Stream → Type 0
LoadEnds Done put first size source memory sink = IsPut put first size source memory × TellsLine Done (load_line first size) sink
LoadEnds WriteFault put first size source memory sink = IsPut put first size source memory × TellsLine WriteFault (load_line first size) sink
LoadEnds LogFault put first size source memory sink = (put ≡ LogFault) × IsUntouched sink
LoadEnds NoMemory put first size source memory sink = MayWantMemory put × IsUntouched sink
LoadEnds Usage put first size source memory sink = ⊥
LoadEnds ReadFault put first size source memory sink = ⊥
LoadEnds TooLong put first size source memory sink = ⊥
LoadEnds Cut put first size source memory sink = ⊥
LoadEnds (BadInput number) put first size source memory sink = ⊥

-- The promise: the put of the made input into memory keeps its own promise, with the log that was handed in; each status has its cause; and
-- with Done the sink got exactly the line, which the first byte and the length alone fix.
pub record KeepsLoadPromise (status : Status) (first size : ℕ) (o : CopyOptions) (sink log : Stream) : Type 0 where
  -- what the made input and the memory told and counted, and how the put ended
  pub source : Stream
  pub memory : Stream
  pub put : Status
  pub made : source.before ≡ Some (made_bytes first size)
  pub empty : memory.before ≡ Some []
  pub kept : KeepsPromise put o source memory log
  -- where it was done, the client submitted as many requests as the line says
  pub asked : put ≡ Done → length (messages_submitted kept.course.client) ≡ requests_of_put size
  pub ends : LoadEnds status put first size source memory sink
