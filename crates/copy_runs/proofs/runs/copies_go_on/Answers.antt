use Rattle.copy_runs.proofs.CopiesCarry.{clients-carry, servers-carry}
use Rattle.copy_runs.proofs.runs.copies_go_on.Goals as goal

pub returns-clause-clients : goal.returns-clause-clients
returns-clause-clients c = clients-carry

pub returns-clause-servers : goal.returns-clause-servers
returns-clause-servers c = servers-carry
