use Rattle.file_pasts.proofs.PutPageLaws.{loads_carry, jobs_of_a_put, parts_of_groups}
use Rattle.file_pasts.proofs.put_laws.loads_carry_their_parts.Goals as goal

pub returns-clause-parts : goal.returns-clause-parts
returns-clause-parts c = loads_carry

pub returns-clause-jobs : goal.returns-clause-jobs
returns-clause-jobs c = jobs_of_a_put

pub returns-clause-groups : goal.returns-clause-groups
returns-clause-groups c = parts_of_groups
