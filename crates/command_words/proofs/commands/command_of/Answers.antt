use Rattle.command_words.proofs.AskedLemmas.{asked}
use Rattle.command_words.proofs.commands.command_of.Goals as goal

pub returns-in-Some-clause-asked : goal.returns-in-Some-clause-asked
returns-in-Some-clause-asked c = asked c.args.words.now
