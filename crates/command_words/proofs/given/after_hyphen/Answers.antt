use Rattle.std.proofs.Common.{arith}
use Rattle.std.proofs.lemmas.Str.Pattern.{strip_prefix_char}
use Rattle.command_words.proofs.FormLemmas.{hyphen-from}
use Rattle.command_words.proofs.given.after_hyphen.Goals as goal

pub returns : goal.returns
returns c = hyphen-from c.args.word.now c.strip_prefix.result (strip_prefix_char 45 c.args.word.now c.strip_prefix.result c.strip_prefix.ensures.cases (omega arith))
