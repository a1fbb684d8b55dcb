use Rattle.std.proofs.Common.{◌∙◌, Option, List, [], refl, ap}
use Rattle.std.specs.Prelude.{unwrap_or}
use Rattle.command_words.specs.Given.{Text}
use Rattle.command_words.specs.Command as spec
use Rattle.command_words.proofs.Found.{values-of}
use Rattle.command_words.proofs.commands.command_found.Goals as goal

pub returns : goal.returns
returns c =
    let values = values-of c.unwrap_or.result c.get_strs.result _ c.unwrap_or.ensures refl ∙ ap (λ (o : Option (List Text)). unwrap_or o []) c.get_strs.ensures in
    c.command_given.ensures ∙ (λ i. spec.command_given c.args.name.now (record {
      workers = c.get_str.ensures i;
      channel = c.get_str-2.ensures i;
      credits = c.get_str-3.ensures i;
      send_size = c.get_str-4.ensures i;
      pages = c.get_str-5.ensures i;
      cut = c.get_str-6.ensures i;
      values = values i;
    }))
