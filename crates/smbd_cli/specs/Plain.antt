-- The promise of a command that reads all of its input, then checks it, and then writes (this project's own).
use Rattle.std.specs.Prelude.{◌≡◌, ℕ, ◌≤◌, List, [], length, Option, Some, None}
use Rattle.std.specs.Io.KnownBytes.{Appends, Consumes}
use mathlib.Core.List.{IsPrefix}
use Rattle.smbd_outside.specs.declared.status.Status.{Status}
use Rattle.smbd_outside.specs.declared.status.Status.TheVariants.{Done, Usage, ReadFault, WriteFault, LogFault, TooLong, Cut, BadInput, NoMemory}
use Rattle.smbd_outside.specs.Causes.{Rose}
use Rattle.event_log.specs.Lines.{lines_text}
use Rattle.world_core.specs.Run.{run_of}
use Rattle.sim_script.specs.Scripts.{first_bad_line, script_of}
use Rattle.run_log.specs.RunLines.{run_lines}
use Rattle.command_words.specs.declared.options.Plain.{Plain}
use Rattle.command_words.specs.declared.options.Plain.TheVariants.{Sim, Show}
use Rattle.frame_lists.specs.Frames.{first_bad_frame_line, description_of}
use Rattle.smbd_cli.specs.Input.{IsInput, CutsInput}
use Rattle.end_workers.specs.Promise.{Stream, IsSilent}
use Rattle.end_workers.specs.Sizes.{most_bytes}

-- the number of the first line of an input that is not understood, where there is one
abbrev pub bad_line : Plain → List ℕ → Option ℕ
bad_line (Sim limits) input = first_bad_line input
bad_line Show input = first_bad_frame_line input

-- What is written for an input that is understood. For a script it is the log of its run over two ends of these limits, in the
-- order of the events; for a list of frames, what each of them says.
abbrev pub output : Plain → List ℕ → List ℕ
output (Sim limits) input = lines_text (run_lines (run_of limits limits (script_of input)))
output Show input = description_of input

-- the whole input was read, and it is understood
pub record IsUnderstood (command : Plain) (source : Stream) (input : List ℕ) : Type 0 where
  pub whole : IsInput source input
  pub good : bad_line command input ≡ None

-- when each status comes, what was read, and what the sink got
abbrev pub EndsPlain : Status → Plain → Stream → Stream → List ℕ → List ℕ → Type 0
EndsPlain Done command source sink input written = IsUnderstood command source input × (written ≡ output command input)
EndsPlain WriteFault command source sink input written =
    IsUnderstood command source input × IsPrefix written (output command input) × Rose sink.faults_before sink.faults
EndsPlain (BadInput line) command source sink input written =
    IsInput source input × (bad_line command input ≡ Some line) × (written ≡ [])
EndsPlain ReadFault command source sink input written = CutsInput ReadFault source input × (written ≡ [])
EndsPlain TooLong command source sink input written = CutsInput TooLong source input × (written ≡ [])
EndsPlain NoMemory command source sink input written = (length input ≤ most_bytes) × (written ≡ [])
EndsPlain Usage command source sink input written = ⊥
EndsPlain LogFault command source sink input written = ⊥
EndsPlain Cut command source sink input written = ⊥

-- The promise: each status has its cause, and with `Done` the sink got exactly what the input asks for.
pub record KeepsPlainPromise (status : Status) (command : Plain) (source sink : Stream) : Type 0 where
  pub input : List ℕ
  pub written : List ℕ
  pub read : Consumes source.before source.now input
  pub got : Appends sink.before sink.now written
  pub ends : EndsPlain status command source sink input written

-- neither source nor sink fails, and the source tells its bytes, of which there are no more than may be read
pub record IsFairPlain (source sink : Stream) (input : List ℕ) : Type 0 where
  pub told : source.before ≡ Some input
  pub short : length input ≤ most_bytes
  pub reads : IsSilent source
  pub writes : IsSilent sink

-- the status of an input whose first bad line is this one, or that has none
abbrev pub status_by_line : Option ℕ → Status
status_by_line None = Done
status_by_line (Some line) = BadInput line

-- why a text has no lines of a run
abbrev pub StopsScript : Status → List ℕ → Type 0
StopsScript (BadInput line) text = first_bad_line text ≡ Some line
StopsScript NoMemory text = first_bad_line text ≡ None
StopsScript Done text = ⊥
StopsScript Usage text = ⊥
StopsScript ReadFault text = ⊥
StopsScript WriteFault text = ⊥
StopsScript LogFault text = ⊥
StopsScript TooLong text = ⊥
StopsScript Cut text = ⊥

-- why a text was not described
abbrev pub StopsList : Status → List ℕ → Type 0
StopsList (BadInput line) text = first_bad_frame_line text ≡ Some line
StopsList NoMemory text = Unit {0}
StopsList Done text = ⊥
StopsList Usage text = ⊥
StopsList ReadFault text = ⊥
StopsList WriteFault text = ⊥
StopsList LogFault text = ⊥
StopsList TooLong text = ⊥
StopsList Cut text = ⊥
