use Rattle.page_workers.proofs.JobLaws.{given-wait, numbers-follow}
use Rattle.page_workers.proofs.laws.jobs_are_done_in_turn.Goals as goal

pub returns-clause-given : goal.returns-clause-given
returns-clause-given c = given-wait

pub returns-clause-numbers : goal.returns-clause-numbers
returns-clause-numbers c = numbers-follow
