use Rattle.file_pasts.proofs.PutPageLaws.{requests_answered, unloads_follow}
use Rattle.file_pasts.proofs.put_laws.unloads_follow_replies.Goals as goal

pub returns-clause-answered : goal.returns-clause-answered
returns-clause-answered c = requests_answered

pub returns-clause-unloads : goal.returns-clause-unloads
returns-clause-unloads c = unloads_follow
