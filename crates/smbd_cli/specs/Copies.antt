-- The promise of a copy that words name (this project's own): of one from a source to a sink, and of a load.
use Rattle.std.specs.Prelude.{◌≡◌, ℕ, List, Some}
use Rattle.std.specs.Io.KnownBytes.{Appends}
use Rattle.smbd_outside.specs.declared.status.Status.{Status}
use Rattle.load_summary.specs.Summaries.{load_line}
use Rattle.command_words.specs.declared.options.CopyCommand.{CopyCommand}
use Rattle.command_words.specs.declared.options.CopyCommand.TheVariants.{Copy, Load}
use Rattle.end_workers.specs.Progress.{IsUntouched}
use Rattle.end_workers.specs.Promise.{Stream, KeepsPromise, IsFair, IsSilent, IsCopied}
use Rattle.copy_loads.specs.Loads.{KeepsLoadPromise}

-- A load makes its own input, and leaves the source as it was.
abbrev pub KeepsCopyPromise : Status → CopyCommand → Stream → Stream → Stream → Type 0
KeepsCopyPromise status (Copy o) source sink log = KeepsPromise status o source sink log
KeepsCopyPromise status (Load first size o) source sink log = KeepsLoadPromise status first size o sink log × IsUntouched source

-- what the sink got of a copy that is done: all bytes of a source that tells its bytes, and of a load the line that sums it up
abbrev pub HasGivenAll : CopyCommand → Stream → Stream → Type 0
HasGivenAll (Copy o) source sink = (bytes : List ℕ) → source.before ≡ Some bytes → IsCopied source sink bytes
HasGivenAll (Load first size o) source sink = Appends sink.before sink.now (load_line first size)

-- neither source, sink nor log fails, and no more is read than may be copied; a load reads nothing
abbrev pub IsFairCopy : CopyCommand → Stream → Stream → Stream → Type 0
IsFairCopy (Copy o) source sink log = (bytes : List ℕ) × IsFair source sink log bytes
IsFairCopy (Load first size o) source sink log = IsSilent sink × IsSilent log
