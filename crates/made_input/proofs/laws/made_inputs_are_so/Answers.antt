use Rattle.made_input.proofs.MadeLemmas.{length-made, byte-made}
use Rattle.made_input.proofs.laws.made_inputs_are_so.Goals as goal

pub returns-clause-long : goal.returns-clause-long
returns-clause-long c = length-made

pub returns-clause-byte : goal.returns-clause-byte
returns-clause-byte c = byte-made
