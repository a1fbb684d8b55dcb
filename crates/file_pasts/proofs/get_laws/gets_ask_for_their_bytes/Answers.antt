use Rattle.file_pasts.proofs.GetLaw.{gets_ask, registered_gets_ask}
use Rattle.file_pasts.proofs.get_laws.gets_ask_for_their_bytes.Goals as goal

pub returns-clause-inline : goal.returns-clause-inline
returns-clause-inline c = gets_ask

pub returns-clause-registered : goal.returns-clause-registered
returns-clause-registered c = registered_gets_ask
