use Rattle.page_workers.proofs.JobLaws.{steps-extend}
use Rattle.page_workers.proofs.laws.steps_extend_the_past.Goals as goal

pub returns : goal.returns
returns c = steps-extend
