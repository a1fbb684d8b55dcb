use Rattle.file_messages.proofs.WrittenMessages.{inline_writes, inline_reads, registered_read, ends_read}
use Rattle.file_messages.proofs.laws.written_requests_are_read.Goals as goal

pub returns-clause-writes : goal.returns-clause-writes
returns-clause-writes c = inline_writes

pub returns-clause-reads : goal.returns-clause-reads
returns-clause-reads c = inline_reads

pub returns-clause-registered : goal.returns-clause-registered
returns-clause-registered c = registered_read

pub returns-clause-ends : goal.returns-clause-ends
returns-clause-ends c = ends_read
