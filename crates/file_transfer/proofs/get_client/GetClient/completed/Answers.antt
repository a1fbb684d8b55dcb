use Rattle.file_transfer.proofs.GetGroupsLemmas.{none_answers}
use Rattle.file_transfer.proofs.GetClientLemmas.{none_rounds}
use Rattle.file_transfer.proofs.get_client.GetClient.completed.Goals as goal

pub returns-in_default : goal.returns-in_default
returns-in_default c = λ channel past came a.
    absurd (none_answers channel past c.args.completion (none_rounds channel past c.args.self.now.rounds came.rounds (λ r e. c.in_default.not-Some r e)) came.requests.lawful a)
