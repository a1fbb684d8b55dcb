use Rattle.file_messages.proofs.WrittenCopies.{puts_read, gets_read}
use Rattle.file_messages.proofs.laws.requests_of_copies_are_read.Goals as goal

pub returns-clause-puts : goal.returns-clause-puts
returns-clause-puts c = puts_read

pub returns-clause-gets : goal.returns-clause-gets
returns-clause-gets c = gets_read
