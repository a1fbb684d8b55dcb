use Rattle.page_workers.proofs.JobLaws.{answers-clients, answers-servers}
use Rattle.page_workers.proofs.laws.finished_jobs_answer.Goals as goal

pub returns-clause-clients : goal.returns-clause-clients
returns-clause-clients c = answers-clients

pub returns-clause-servers : goal.returns-clause-servers
returns-clause-servers c = answers-servers
