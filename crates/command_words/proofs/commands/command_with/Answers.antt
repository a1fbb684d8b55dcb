use Rattle.std.proofs.Common.{◌≡◌, ◌∙◌, false, Option, sym, ap, ap₂, subst}
use Rattle.std.specs.List.{list_any}
use Rattle.event_log.specs.Reading.{◌>>=◌}
use Rattle.clap.specs.Simple.{is_simple, matches_of}
use Rattle.clap.specs.Kinds.{Kinds, IsAmong}
use Rattle.clap.specs.Words.{found_of, kind_of}
use Rattle.clap.specs.Faults.{fault_of, is_simple_and_free}
use Rattle.command_words.specs.Given.{Given, is_stray}
use Rattle.command_words.specs.Command.{command_given}
use Rattle.command_words.proofs.Slots.{simple, simple_alone}
use Rattle.command_words.proofs.Found.{map-self, none-given, found-given, refused-given, among}
use Rattle.command_words.proofs.commands.command_with.Goals as goal

pub returns-then-has_stray : goal.returns-then-has_stray
returns-then-has_stray c =
    sym (ap (λ (o : Option Given). o >>= command_given c.args.name.now) (none-given c.args.rest.now (sym c.has_stray.ensures ∙ c.if-has_stray.true)))

pub returns-in-Ok : goal.returns-in-Ok
returns-in-Ok c =
    let app = c.in_ok-parser_of_words.ensures in
    let words = map-self c.args.rest.now in
    let fits : list_any is_stray c.args.rest.now ≡ false = sym c.has_stray.ensures ∙ c.if-has_stray.false in
    let fine = sym (ap₂ fault_of app words) ∙ c.in-Ok.ensures.kinds (ap is_simple_and_free app ∙ simple) in
    let rows = (c.in-Ok.ensures.matches (ap is_simple app ∙ simple_alone)).0 ∙ ap₂ matches_of app words in
    c.command_found.ensures ∙ sym (ap (λ (o : Option Given). o >>= command_given c.args.name.now) (found-given c.args.rest.now (found_of c.in-Ok.matches) fits fine rows))

pub returns : goal.returns
returns c =
    let app = c.in_ok-parser_of_words.ensures in
    let words = map-self c.args.rest.now in
    let fits : list_any is_stray c.args.rest.now ≡ false = sym c.has_stray.ensures ∙ c.if-has_stray.false in
    let kind = kind_of c.in-Err.error in
    let fault = subst (λ (k : Kinds). IsAmong kind k) (ap₂ fault_of app words)
    (among kind _ (λ memory. c.in_default.not-OutOfMemory (c.kind.ensures ∙ memory)) (c.in-Err.ensures.kinds (ap is_simple_and_free app ∙ simple))) in
    sym (ap (λ (o : Option Given). o >>= command_given c.args.name.now) (refused-given c.args.rest.now kind fits fault))
