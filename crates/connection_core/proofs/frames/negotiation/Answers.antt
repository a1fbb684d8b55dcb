use Rattle.std.proofs.Common.{sym, subst}
use Rattle.smbd_base.specs.declared.end_id.EndId.{EndId}
use Rattle.connection_core.specs.Heard.{IsNegotiation}
use Rattle.connection_core.proofs.frames.negotiation.Goals as goal

pub returns-in-Server : goal.returns-in-Server
returns-in-Server c =
    subst (λ (side : EndId). IsNegotiation side c.args.limits.now c.args.bytes.now c.request_heard.result) (sym c.in-Server.is)
    (c.request_heard.ensures c.args.limits.now)
