-- The commands that the program's words name (this project's own).
use Rattle.std.specs.Prelude.{ℕ, ◌==◌, Bool, ◌&&◌, List, [], ◌∷◌, length, codes, bytes_eq, Option, Some, None, is_none, option_map, if◌then◌else◌}
use Rattle.smbd_base.specs.Limits.{Limits, usual_limits}
use Rattle.event_log.specs.Reading.{number_in, ◌>>=◌}
use Rattle.file_messages.specs.declared.kind.CopyKind.{CopyKind}
use Rattle.file_messages.specs.declared.kind.CopyKind.TheVariants as kinds
use Rattle.file_messages.specs.declared.kind.Channel.{Channel}
use Rattle.file_messages.specs.declared.kind.Channel.TheVariants as channels
use Rattle.copy_parts.specs.declared.options.CopyOptions.{CopyOptions}
use Rattle.command_words.specs.declared.options.CopyCommand.TheVariants as copies
use Rattle.command_words.specs.declared.options.Command.{Command}
use Rattle.command_words.specs.declared.options.Command.TheVariants as commands
use Rattle.command_words.specs.declared.options.Plain.TheVariants.{Sim, Show}
use Rattle.command_words.specs.Given.{Text, Given, given_of}

-- the number of this range that an option's text spells, or the usual one where the option isn't given
abbrev pub number_given : ℕ → ℕ → ℕ → Option Text → Option ℕ
number_given usual least most None = Some usual
number_given usual least most (Some text) = number_in least most text

abbrev pub channel_named : Text → Option Channel
channel_named name =
    if bytes_eq name (codes "none") then Some channels.None
    else if bytes_eq name (codes "v1") then Some channels.V1
    else None

-- over registered pages, where the channel isn't given
abbrev pub channel_given : Option Text → Option Channel
channel_given None = Some channels.V1
channel_given (Some name) = channel_named name

-- the number of the frame in whose place the link is cut, where that is asked for
abbrev pub cut_given : Option Text → Option (Option ℕ)
cut_given None = Some None
cut_given (Some text) = option_map (λ (number : ℕ). Some number) (number_in 1 4294967295 text)

-- the usual limits, but for what is given
abbrev pub limits_given : Given → Option Limits
limits_given given =
    number_given usual_limits.credits 3 255 given.credits >>= (λ (credits : ℕ).
    number_given usual_limits.send_size 128 8192 given.send_size >>= (λ (send_size : ℕ).
    number_given usual_limits.pages 16 255 given.pages >>= (λ (pages : ℕ).
    Some (record usual_limits { credits = credits; send_size = send_size; pages = pages }))))

-- a copy of this kind with the options that are given; by 4 workers at each end where their number isn't
abbrev pub options_given : CopyKind → Given → Option CopyOptions
options_given kind given =
    channel_given given.channel >>= (λ (channel : Channel).
    number_given 4 1 8 given.workers >>= (λ (workers : ℕ).
    limits_given given >>= (λ (limits : Limits).
    cut_given given.cut >>= (λ (cut : Option ℕ).
    Some (record { kind = kind; channel = channel; workers = workers; limits = limits; cut = cut })))))

-- `put` and `get`, which have every option and no other word
abbrev pub copy_given : CopyKind → Given → Option Command
copy_given kind given =
    if length given.values == 0
    then option_map (λ (options : CopyOptions). commands.Copy (copies.Copy options)) (options_given kind given)
    else None

-- the first byte of a made input, and its length: two words
abbrev pub load_values : List Text → Option (ℕ × ℕ)
load_values (first ∷ len ∷ []) =
    number_in 0 255 first >>= (λ (byte : ℕ). number_in 0 16777216 len >>= (λ (bytes : ℕ). Some (byte, bytes)))
load_values values = None

-- `load`, a put, which has every option but `--cut`
abbrev pub load_given : Given → Option Command
load_given given =
    if is_none given.cut
    then load_values given.values >>= (λ (values : ℕ × ℕ).
    option_map (λ (options : CopyOptions). commands.Copy (copies.Load values.0 values.1 options)) (options_given kinds.Put given))
    else None

-- `sim`, which has the options of two limits and no other word
abbrev pub is_for_sim : Given → Bool
is_for_sim given =
    is_none given.workers && is_none given.channel && is_none given.pages && is_none given.cut && (length given.values == 0)

abbrev pub sim_given : Given → Option Command
sim_given given =
    if is_for_sim given then option_map (λ (limits : Limits). commands.Plain (Sim limits)) (limits_given given) else None

-- `show`, which has no option and no other word
abbrev pub is_for_show : Given → Bool
is_for_show given = is_for_sim given && (is_none given.credits && is_none given.send_size)

abbrev pub show_given : Given → Option Command
show_given given = if is_for_show given then Some (commands.Plain Show) else None

-- the command of this name with what is given
abbrev pub command_given : Text → Given → Option Command
command_given name given =
    if bytes_eq name (codes "put") then copy_given kinds.Put given
    else if bytes_eq name (codes "get") then copy_given kinds.Get given
    else if bytes_eq name (codes "load") then load_given given
    else if bytes_eq name (codes "sim") then sim_given given
    else if bytes_eq name (codes "show") then show_given given
    else None

-- the command of this name with the words after it
abbrev pub command_with : Text → List Text → Option Command
command_with name words = given_of words >>= command_given name

-- the command that the words name, if they name one: its name comes first
abbrev pub command_of : List Text → Option Command
command_of [] = None
command_of (name ∷ words) = command_with name words
