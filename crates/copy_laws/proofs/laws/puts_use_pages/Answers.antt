use Rattle.copy_laws.proofs.PutServers.{registered-puts-come}
use Rattle.copy_laws.proofs.laws.puts_use_pages.Goals as goal

pub returns : goal.returns
returns c = registered-puts-come
