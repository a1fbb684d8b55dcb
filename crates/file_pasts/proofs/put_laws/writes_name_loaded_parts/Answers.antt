use Rattle.file_pasts.proofs.PutPageLaws.{loads_own, named_loaded}
use Rattle.file_pasts.proofs.put_laws.writes_name_loaded_parts.Goals as goal

pub returns-clause-owned : goal.returns-clause-owned
returns-clause-owned c = loads_own

pub returns-clause-named : goal.returns-clause-named
returns-clause-named c = named_loaded
