-- What is given, as the code holds it.
use Rattle.std.specs.Prelude.{List, map, Option, option_map}
use Rattle.std.specs.Borrow.{Bor}
use Rattle.command_words.specs.Given.{Text, Given}
use Rattle.command_words.specs.declared.given.Given.{Given as Held}

abbrev pub text_of : Option (Bor Text) → Option Text
text_of = option_map (λ (t : Bor Text). t.now)

abbrev pub texts : List (Bor Text) → List Text
texts = map (λ (t : Bor Text). t.now)

abbrev pub seen : Held → Given
seen held = record {
  workers = text_of held.workers;
  channel = text_of held.channel;
  credits = text_of held.credits;
  send_size = text_of held.send_size;
  pages = text_of held.pages;
  cut = text_of held.cut;
  values = texts held.values.now;
}
