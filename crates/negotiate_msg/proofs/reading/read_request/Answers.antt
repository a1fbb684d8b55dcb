use Rattle.std.proofs.Common.{sym}
use Rattle.negotiate_msg.specs.Shown.{shown_request}
use Rattle.smbd_base.proofs.NegotiationLaws.{lawful_request}
use Rattle.negotiate_msg.proofs.reading.read_request.Goals as goal

pub returns-in-None-clause-lawful : goal.returns-in-None-clause-lawful
returns-in-None-clause-lawful c = lawful_request (shown_request c.request_in-request.result) (sym c.in-None.ensures)
