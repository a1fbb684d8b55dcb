use Rattle.file_pasts.proofs.GetGroups.{gets_receive}
use Rattle.file_pasts.proofs.GetRounds.{registered_gets_receive}
use Rattle.file_pasts.proofs.get_laws.gets_receive_what_was_read.Goals as goal

pub returns-clause-inline : goal.returns-clause-inline
returns-clause-inline c = gets_receive

pub returns-clause-registered : goal.returns-clause-registered
returns-clause-registered c = registered_gets_receive
