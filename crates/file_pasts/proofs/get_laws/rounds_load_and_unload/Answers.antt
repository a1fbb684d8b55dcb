use Rattle.file_pasts.proofs.GetPages.{jobs_of_a_get, loads_own_rounds, get_unloads_follow}
use Rattle.file_pasts.proofs.get_laws.rounds_load_and_unload.Goals as goal

pub returns-clause-jobs : goal.returns-clause-jobs
returns-clause-jobs c = jobs_of_a_get

pub returns-clause-owned : goal.returns-clause-owned
returns-clause-owned c = loads_own_rounds

pub returns-clause-unloads : goal.returns-clause-unloads
returns-clause-unloads c = get_unloads_follow
