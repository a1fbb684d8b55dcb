-- What the words after a command give (this project's own): options with their texts, and other words.
use Rattle.std.specs.Prelude.{ℕ, ◌==◌, Bool, true, false, length, List, [], ◌∷◌, ◌++◌, codes, bytes_eq, Option, Some, None, option_map, if◌then◌else◌}
use Rattle.std.specs.List.{list_any, before_first, after_first}
use Rattle.event_log.specs.Reading.{◌>>=◌}

-- the bytes of a word, or of a part of one
abbrev pub Text : Type 0
Text = List ℕ

-- the text of each option, where the option is given, and the words that belong to no option, in their order
pub record Given : Type 0 where
  pub workers : Option Text
  pub channel : Option Text
  pub credits : Option Text
  pub send_size : Option Text
  pub pages : Option Text
  pub cut : Option Text
  pub values : List Text

abbrev pub nothing_given : Given
nothing_given = record { workers = None; channel = None; credits = None; send_size = None; pages = None; cut = None; values = [] }

-- what is given with one more option, which may not be given already
abbrev pub once : Option Text → Given → Option Given
once None given = Some given
once (Some text) given = None

-- what is given with the option of this name too, and its text
abbrev pub with_option : Text → Text → Given → Option Given
with_option name text given =
    if bytes_eq (codes "workers") name then once given.workers (record given { workers = Some text })
    else if bytes_eq (codes "channel") name then once given.channel (record given { channel = Some text })
    else if bytes_eq (codes "credits") name then once given.credits (record given { credits = Some text })
    else if bytes_eq (codes "send-size") name then once given.send_size (record given { send_size = Some text })
    else if bytes_eq (codes "pages") name then once given.pages (record given { pages = Some text })
    else if bytes_eq (codes "cut") name then once given.cut (record given { cut = Some text })
    else None

abbrev pub with_value : Text → Given → Given
with_value value given = record given { values = given.values ++ value ∷ [] }

-- what a word looks like: `--name`, `--name=text`, a word that doesn't begin with a hyphen, or one with a single hyphen in front
pub data Form : Type 0 where
  named : Text → Form
  joined : Text → Text → Form
  plain : Form
  single_hyphen : Form

abbrev pub is_equals_sign : ℕ → Bool
is_equals_sign byte = byte == 61

-- what follows two hyphens
abbrev pub form_of_name : Text → Form
form_of_name rest =
    if list_any is_equals_sign rest then joined (before_first is_equals_sign rest) (after_first is_equals_sign rest) else named rest

-- what follows a hyphen in front
abbrev pub after_hyphen : Text → Option Text
after_hyphen [] = None
after_hyphen (byte ∷ rest) = if byte == 45 then Some rest else None

abbrev pub form_after_hyphen : Option Text → Form
form_after_hyphen None = single_hyphen
form_after_hyphen (Some rest) = form_of_name rest

abbrev pub form_by : Option Text → Form
form_by None = plain
form_by (Some rest) = form_after_hyphen (after_hyphen rest)

abbrev pub form_of : Text → Form
form_of word = form_by (after_hyphen word)

-- how far the words were read: what is given so far, and the option that waits for its text, where one does
pub record Reading : Type 0 where
  pub given : Given
  pub waits : Option Text

abbrev pub rested : Given → Reading
rested given = record { given = given; waits = None }

-- One more word. The text of an option that waits for it is the next word, which may not begin with a hyphen.
abbrev pub read_form : Option Text → Given → Text → Form → Option Reading
read_form None given word (named name) = Some (record { given = given; waits = Some name })
read_form None given word (joined name text) = option_map rested (with_option name text given)
read_form None given word plain = Some (rested (with_value word given))
read_form None given word single_hyphen = None
read_form (Some name) given word plain = option_map rested (with_option name word given)
read_form (Some name) given word _ = None

abbrev pub read_word : Reading → Text → Option Reading
read_word reading word = read_form reading.waits reading.given word (form_of word)

-- the words one after another
abbrev pub read_words : Reading → List Text → Option Reading
read_words reading [] = Some reading
read_words reading (word ∷ words) = read_word reading word >>= (λ (next : Reading). read_words next words)

-- what is given at the end, where no option waits for its text
abbrev pub given_at_end : Option Text → Given → Option Given
given_at_end None given = Some given
given_at_end (Some name) given = None

-- what the words give, if they are well formed
unfoldable pub given_of : List Text → Option Given
given_of words = read_words (rested nothing_given) words >>= (λ (reading : Reading). given_at_end reading.waits reading.given)

-- a word that begins with a single hyphen, and `--` alone: such a word has no place on a command line
abbrev pub is_stray_after_hyphen : Option Text → Bool
is_stray_after_hyphen None = true
is_stray_after_hyphen (Some name) = length name == 0

abbrev pub is_stray_by : Option Text → Bool
is_stray_by None = false
is_stray_by (Some rest) = is_stray_after_hyphen (after_hyphen rest)

abbrev pub is_stray : Text → Bool
is_stray word = is_stray_by (after_hyphen word)
