use Rattle.copy_laws.proofs.GetServers.{registered-gets-come}
use Rattle.copy_laws.proofs.laws.gets_use_pages.Goals as goal

pub returns : goal.returns
returns c = registered-gets-come
