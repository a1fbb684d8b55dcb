use Rattle.std.proofs.Common.{sym}
use Rattle.negotiate_msg.specs.Shown.{shown_response}
use Rattle.smbd_base.proofs.NegotiationLaws.{lawful_response}
use Rattle.negotiate_msg.proofs.reading.read_response.Goals as goal

pub returns-in-None-clause-lawful : goal.returns-in-None-clause-lawful
returns-in-None-clause-lawful c = lawful_response c.args.own.now (shown_response c.response_in-response.result) (sym c.in-None.ensures)
