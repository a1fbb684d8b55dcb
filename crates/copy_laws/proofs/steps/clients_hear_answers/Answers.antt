use Rattle.copy_laws.proofs.StepsClients.{puts-answer, gets-answer}
use Rattle.copy_laws.proofs.steps.clients_hear_answers.Goals as goal

pub returns-clause-puts : goal.returns-clause-puts
returns-clause-puts c = puts-answer

pub returns-clause-gets : goal.returns-clause-gets
returns-clause-gets c = gets-answer
