use Rattle.transfer_msg.proofs.HeaderLemmas.{read_back}
use Rattle.transfer_msg.proofs.laws.written_messages_are_read.Goals as goal

pub returns : goal.returns
returns c = read_back
