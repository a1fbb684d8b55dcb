-- The parser of the words after a command: six options, each of which takes one text, and any number of other words.
use Rattle.std.specs.Prelude.{true, codes, [], Some, option_map, unwrap_or}
use Rattle.clap.specs.Walk.{Rule}
use Rattle.clap.specs.Simple.{App, new_app, new_rule, with_rule, on_top}
use Rattle.clap.specs.declared.builder.action.ArgAction.TheVariants.{Set, Append}
use Rattle.clap.specs.Matches.{first_value, matched_of, raw_values}
use Rattle.clap.specs.declared.parser.matches.Found.{Found}
use Rattle.command_words.specs.Given.{Text, Given}

abbrev pub option_rule : Text → Rule
option_rule name = record (new_rule name) { long = Some name; action = Some Set }

abbrev pub values_rule : Rule
values_rule = record (new_rule (codes "values")) { action = Some Append }

abbrev pub bare_app : App
bare_app = on_top (λ s. record s { no_binary_name = true; disable_help_flag = true; disable_version_flag = true }) (new_app (codes "smbd"))

abbrev pub parser_app : App
parser_app =
    with_rule (with_rule (with_rule (with_rule (with_rule (with_rule (with_rule bare_app
    (option_rule (codes "workers"))) (option_rule (codes "channel"))) (option_rule (codes "credits"))) (option_rule (codes "send-size")))
    (option_rule (codes "pages"))) (option_rule (codes "cut"))) values_rule

-- what the parser found, by the names of the options
abbrev pub given_found : Found → Given
given_found found = record {
  workers = first_value found (codes "workers");
  channel = first_value found (codes "channel");
  credits = first_value found (codes "credits");
  send_size = first_value found (codes "send-size");
  pages = first_value found (codes "pages");
  cut = first_value found (codes "cut");
  values = unwrap_or (option_map raw_values (matched_of found (codes "values"))) [];
}
