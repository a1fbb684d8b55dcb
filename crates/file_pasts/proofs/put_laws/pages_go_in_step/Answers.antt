use Rattle.file_pasts.proofs.PutPageLaws.{pages_in_step, loads_come_due}
use Rattle.file_pasts.proofs.put_laws.pages_go_in_step.Goals as goal

pub returns-clause-steps : goal.returns-clause-steps
returns-clause-steps c = pages_in_step

pub returns-clause-loads : goal.returns-clause-loads
returns-clause-loads c = loads_come_due
