use Rattle.copy_laws.proofs.Growing.{gets-grow, gets-hear}
use Rattle.copy_laws.proofs.laws.gets_go_on.Goals as goal

pub returns-clause-grow : goal.returns-clause-grow
returns-clause-grow c = gets-grow

pub returns-clause-hear : goal.returns-clause-hear
returns-clause-hear c = gets-hear
