use Rattle.file_messages.proofs.WrittenMessages.{replies_read}
use Rattle.file_messages.proofs.laws.written_replies_are_read.Goals as goal

pub returns : goal.returns
returns c = replies_read
