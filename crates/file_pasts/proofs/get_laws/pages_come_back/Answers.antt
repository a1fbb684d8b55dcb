use Rattle.file_pasts.proofs.GetPagesBack.{jobs_counted, pages_back_of}
use Rattle.file_pasts.proofs.get_laws.pages_come_back.Goals as goal

pub returns-clause-counted : goal.returns-clause-counted
returns-clause-counted c = jobs_counted

pub returns-clause-bytes : goal.returns-clause-bytes
returns-clause-bytes c = pages_back_of
