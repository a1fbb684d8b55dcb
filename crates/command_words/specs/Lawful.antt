-- What holds of each command that words name (this project's own).
use Rattle.std.specs.Prelude.{◌≡◌, ℕ, ◌≤◌, None}
use Rattle.smbd_base.specs.Limits.{IsLawful}
use Rattle.file_messages.specs.declared.kind.CopyKind.TheVariants.{Put}
use Rattle.copy_parts.specs.Options.{AreLawful}
use Rattle.copy_parts.specs.declared.options.CopyOptions.{CopyOptions}
use Rattle.command_words.specs.declared.options.CopyCommand.{CopyCommand}
use Rattle.command_words.specs.declared.options.CopyCommand.TheVariants.{Copy, Load}
use Rattle.command_words.specs.declared.options.Command.{Command}
use Rattle.command_words.specs.declared.options.Command.TheVariants as commands

-- how a copy is made
abbrev pub options_of : CopyCommand → CopyOptions
options_of (Copy o) = o
options_of (Load first size o) = o

-- a made input is put, over a link that isn't cut
pub record MayBeLoaded (size : ℕ) (o : CopyOptions) : Type 0 where
  pub lawful : AreLawful o
  pub kind : o.kind ≡ Put
  pub uncut : o.cut ≡ None
  pub short : size ≤ 16777216

-- a copy that can be made
abbrev pub MayBeMade : CopyCommand → Type 0
MayBeMade (Copy o) = AreLawful o
MayBeMade (Load first size o) = MayBeLoaded size o

-- a copy that words name can be made, and its limits are lawful
pub record IsCopyAsked (command : CopyCommand) : Type 0 where
  pub may : MayBeMade command
  pub limits : IsLawful (options_of command).limits

abbrev pub IsAsked : Command → Type 0
IsAsked (commands.Copy command) = IsCopyAsked command
IsAsked (commands.Plain plain) = Unit {0}
