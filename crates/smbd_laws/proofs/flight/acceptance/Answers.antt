use Rattle.smbd_laws.proofs.Accepting.{accepted_legal}
use Rattle.smbd_laws.proofs.flight.acceptance.Goals as goal

pub returns : goal.returns
returns c = accepted_legal
