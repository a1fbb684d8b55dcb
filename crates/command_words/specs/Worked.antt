-- Worked command lines: what words name, found by computation.
use Rattle.std.specs.Prelude.{◌≡◌, ℕ, codes, [], Option, Some, None}
use Prim.Native.String.{String}
use Rattle.smbd_base.specs.Limits.{Limits, usual_limits}
use Rattle.event_log.specs.Reading.{parts_of}
use Rattle.file_messages.specs.declared.kind.CopyKind.{CopyKind}
use Rattle.file_messages.specs.declared.kind.CopyKind.TheVariants.{Put, Get}
use Rattle.file_messages.specs.declared.kind.Channel.TheVariants as channels
use Rattle.copy_parts.specs.declared.options.CopyOptions.{CopyOptions}
use Rattle.command_words.specs.declared.options.CopyCommand.TheVariants as copies
use Rattle.command_words.specs.declared.options.Command.{Command}
use Rattle.command_words.specs.declared.options.Command.TheVariants as commands
use Rattle.command_words.specs.declared.options.Plain.TheVariants.{Sim, Show}
use Rattle.command_words.specs.Command.{command_of}

-- the command that the words of a line name, which one space each parts
abbrev pub named : String → Option Command
named line = command_of (parts_of (codes line))

-- a copy with no option
abbrev pub usual : CopyKind → CopyOptions
usual kind = record { kind = kind; channel = channels.V1; workers = 4; limits = usual_limits; cut = None }

-- a put and a get, the loading of a made input, and the run of a script
abbrev pub copy : CopyOptions → Option Command
copy options = Some (commands.Copy (copies.Copy options))

abbrev pub load : ℕ → ℕ → CopyOptions → Option Command
load first len options = Some (commands.Copy (copies.Load first len options))

abbrev pub sim : Limits → Option Command
sim limits = Some (commands.Plain (Sim limits))

abbrev pub by_workers : CopyKind → ℕ → Option Command
by_workers kind count = copy (record (usual kind) { workers = count })

abbrev pub by_credits : ℕ → Option Command
by_credits count = sim (record usual_limits { credits = count })

abbrev pub by_send_size : ℕ → Option Command
by_send_size bytes = copy (record (usual Get) { limits = record usual_limits { send_size = bytes } })

abbrev pub by_pages : ℕ → Option Command
by_pages count = copy (record (usual Put) { limits = record usual_limits { pages = count } })

abbrev pub cut_at : ℕ → Option Command
cut_at number = copy (record (usual Get) { cut = Some number })

-- a get with each option
abbrev pub all_options : CopyOptions
all_options = record { kind = Get; channel = channels.None; workers = 2; limits = record usual_limits { credits = 3; send_size = 128; pages = 16 }; cut = Some 7 }

pub record CopiesSo : Type 0 where
  -- with no option, and with each one in both forms
  pub put : named "put" ≡ copy (usual Put)
  pub get : named "get" ≡ copy (usual Get)
  pub workers : named "put --workers 2" ≡ by_workers Put 2
  pub workers_joined : named "put --workers=2" ≡ by_workers Put 2
  pub channel : named "get --channel none" ≡ copy (record (usual Get) { channel = channels.None })
  pub channel_joined : named "put --channel=v1" ≡ copy (usual Put)
  pub credits : named "put --credits 3" ≡ copy (record (usual Put) { limits = record usual_limits { credits = 3 } })
  pub credits_joined : named "put --credits=254" ≡ copy (record (usual Put) { limits = record usual_limits { credits = 254 } })
  pub send_size : named "get --send-size 128" ≡ by_send_size 128
  pub send_size_joined : named "get --send-size=8192" ≡ by_send_size 8192
  pub pages : named "put --pages 16" ≡ by_pages 16
  pub pages_joined : named "put --pages=255" ≡ by_pages 255
  pub cut : named "get --cut 9" ≡ cut_at 9
  pub cut_joined : named "get --cut=4294967295" ≡ cut_at 4294967295
  -- in any order
  pub all : named "get --cut=7 --workers 2 --channel none --pages=16 --credits 3 --send-size 128" ≡ copy all_options
  pub all_turned : named "get --send-size=128 --credits=3 --pages 16 --channel=none --workers=2 --cut 7" ≡ copy all_options

pub record LoadsSo : Type 0 where
  -- the two values before, between and after the options
  pub alone : named "load 97 3" ≡ load 97 3 (usual Put)
  pub least : named "load 0 0" ≡ load 0 0 (usual Put)
  pub most : named "load 255 16777216" ≡ load 255 16777216 (usual Put)
  pub before : named "load 97 3 --workers 8" ≡ load 97 3 (record (usual Put) { workers = 8 })
  pub between : named "load 97 --channel=none 3" ≡ load 97 3 (record (usual Put) { channel = channels.None })
  pub after : named "load --send-size 256 97 3" ≡ load 97 3 (record (usual Put) { limits = record usual_limits { send_size = 256 } })
  pub around : named "load --pages 16 97 --channel=none 3 --credits=4" ≡ load 97 3 (record (usual Put) { channel = channels.None; limits = record usual_limits { pages = 16; credits = 4 } })
  -- too few, too many, out of their ranges, wrongly spelled, and a cut
  pub none : named "load" ≡ None
  pub one : named "load 97" ≡ None
  pub three : named "load 97 3 4" ≡ None
  pub first_above : named "load 256 0" ≡ None
  pub len_above : named "load 0 16777217" ≡ None
  pub zero_in_front : named "load 097 3" ≡ None
  pub signed : named "load 97 +3" ≡ None
  pub hyphen : named "load - 3" ≡ None
  pub empty : named "load 97 3 " ≡ None
  pub cut : named "load 97 3 --cut 1" ≡ None

pub record SimsSo : Type 0 where
  pub alone : named "sim" ≡ sim usual_limits
  pub credits : named "sim --credits 3" ≡ by_credits 3
  pub credits_joined : named "sim --credits=255" ≡ by_credits 255
  pub both : named "sim --send-size 128 --credits=4" ≡ sim (record usual_limits { credits = 4; send_size = 128 })
  -- no option of a copy, and no other word
  pub workers : named "sim --workers 2" ≡ None
  pub channel : named "sim --channel v1" ≡ None
  pub pages : named "sim --pages 64" ≡ None
  pub cut : named "sim --cut 1" ≡ None
  pub other : named "sim 3" ≡ None

pub record ShowsSo : Type 0 where
  pub alone : named "show" ≡ Some (commands.Plain Show)
  -- no option, and no other word
  pub credits : named "show --credits 3" ≡ None
  pub workers : named "show --workers=2" ≡ None
  pub other : named "show frames" ≡ None

pub record RangesSo : Type 0 where
  -- the ends of each range, and the numbers beside them
  pub workers_least : named "put --workers 1" ≡ by_workers Put 1
  pub workers_most : named "put --workers 8" ≡ by_workers Put 8
  pub workers_below : named "put --workers 0" ≡ None
  pub workers_above : named "put --workers 9" ≡ None
  pub credits_below : named "put --credits 2" ≡ None
  pub credits_above : named "sim --credits 256" ≡ None
  pub send_size_below : named "get --send-size 127" ≡ None
  pub send_size_above : named "get --send-size 8193" ≡ None
  pub pages_below : named "get --pages 15" ≡ None
  pub pages_above : named "get --pages 256" ≡ None
  pub cut_least : named "get --cut 1" ≡ cut_at 1
  pub cut_below : named "get --cut 0" ≡ None
  pub cut_above : named "get --cut=4294967296" ≡ None
  -- how a number and a channel are spelled
  pub zero_in_front : named "put --cut 01" ≡ None
  pub signed : named "put --workers=+2" ≡ None
  pub negative : named "put --workers=-2" ≡ None
  pub no_digits : named "put --workers=" ≡ None
  pub empty : named "put --workers " ≡ None
  pub letters : named "put --credits 3k" ≡ None
  pub channel_empty : named "put --channel=" ≡ None
  pub channel_upper : named "put --channel V1" ≡ None
  pub channel_twice : named "put --channel=v1=v1" ≡ None

pub record RefusesSo : Type 0 where
  -- no command
  pub nothing : command_of [] ≡ None
  pub empty : named "" ≡ None
  pub other : named "copy" ≡ None
  pub upper : named "Put" ≡ None
  pub hyphens : named "--put" ≡ None
  pub option_first : named "--workers 2 put" ≡ None
  pub help : named "help" ≡ None
  pub help_option : named "--help" ≡ None
  pub version : named "--version" ≡ None
  -- a word that is no option of the command, and belongs to none
  pub value : named "put x" ≡ None
  pub command : named "put get" ≡ None
  pub copy_help : named "put --help" ≡ None
  pub copy_version : named "put --version" ≡ None
  pub short_help : named "put -h" ≡ None
  pub short : named "put -w 2" ≡ None
  pub short_joined : named "put -w2" ≡ None
  pub word_help : named "put help" ≡ None
  pub abbreviated : named "put --worker 2" ≡ None
  pub option_upper : named "put --Workers 2" ≡ None
  pub longer : named "put --workers4 2" ≡ None
  pub no_name : named "put --=2" ≡ None
  pub hyphen : named "put -" ≡ None
  pub trailing_empty : named "put " ≡ None
  -- `--` alone, at each place
  pub dashes : named "--" ≡ None
  pub dashes_after : named "put --" ≡ None
  pub dashes_between : named "load 97 -- 3" ≡ None
  pub dashes_as_text : named "put --workers -- 2" ≡ None
  pub dashes_last : named "load 97 3 --" ≡ None
  -- an option that has no text, or is given twice
  pub waits : named "put --workers" ≡ None
  pub waits_for_option : named "put --workers --cut 3" ≡ None
  pub waits_for_joined : named "put --workers --cut=3" ≡ None
  pub waits_for_hyphen : named "put --workers -" ≡ None
  pub waits_for_negative : named "put --workers -1" ≡ None
  pub twice : named "put --workers 2 --workers 2" ≡ None
  pub twice_joined : named "put --workers=2 --workers=2" ≡ None
  pub twice_mixed : named "load --pages 16 97 --pages=16 3" ≡ None
