use Rattle.smbd_laws.proofs.Gathering.{delivers, taken-filled}
use Rattle.smbd_laws.proofs.deliveries.deliveries_are_splits.Goals as goal

pub returns-clause-split : goal.returns-clause-split
returns-clause-split c = delivers

pub returns-clause-filled : goal.returns-clause-filled
returns-clause-filled c = taken-filled
