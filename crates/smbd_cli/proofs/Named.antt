-- What holds of a copy that words name, where memory was wanting, and where nothing fails.
use Rattle.std.proofs.Common.{◌≡◌, Option, Some, sym, subst}
use Rattle.std.specs.Prelude.{IfSome}
use Rattle.smbd_outside.specs.declared.status.Status.{Status}
use Rattle.smbd_outside.specs.declared.status.Status.TheVariants.{NoMemory}
use Rattle.copy_parts.specs.declared.options.CopyOptions.{CopyOptions}
use Rattle.command_words.specs.declared.options.CopyCommand.{CopyCommand}
use Rattle.command_words.specs.declared.options.CopyCommand.TheVariants.{Copy, Load}
use Rattle.command_words.specs.declared.options.Command.{Command}
use Rattle.command_words.specs.declared.options.Command.TheVariants as commands
use Rattle.command_words.specs.Lawful.{IsAsked, IsCopyAsked, options_of}
use Rattle.end_workers.specs.Progress.{IsUntouched}
use Rattle.end_workers.specs.Promise.{Stream, KeepsPromise, Succeeds}
use Rattle.end_workers.proofs.EndingOpened.{keeps-unopened}
use Rattle.copy_loads.proofs.Completing.{completes}
use Rattle.copy_loads.proofs.Loading.{unopened}
use Rattle.smbd_cli.specs.Copies.{IsFairCopy, KeepsCopyPromise}

pub named : (o : Option Command) (command : CopyCommand) → IfSome o IsAsked → o ≡ Some (commands.Copy command) → IsCopyAsked command
named o command asked is = subst (λ (x : Option Command). IfSome x IsAsked) is asked

-- memory was wanting before a copy was opened
pub keeps-unread : (command : CopyCommand) (source sink log : Stream) → IsCopyAsked command → IsUntouched source → IsUntouched sink → IsUntouched log
    → KeepsCopyPromise NoMemory command source sink log
keeps-unread (Copy o) source sink log asked s k l = keeps-unopened o source sink log asked.may asked.limits s k l
keeps-unread (Load first size o) source sink log asked s k l =
    let may = asked.may in
    (unopened first size o sink log may.kind may.uncut may.short k (λ from memory f m. keeps-unopened o from memory log may.lawful asked.limits f m l), s)

-- a copy of a source, where nothing fails
pub succeeds-copy : (status : Status) (command : CopyCommand) (o : CopyOptions) (source sink log : Stream) → command ≡ Copy o → KeepsPromise status o source sink log
    → IsFairCopy command source sink log → Succeeds (options_of command) status
succeeds-copy status (Copy p) o source sink log is k fair =
    let same : p ≡ o = cc in
    subst (λ (x : CopyOptions). Succeeds x status) (sym same) (completes status o source sink log fair.0 k fair.1)
succeeds-copy status (Load first size p) o source sink log is k fair = cc
