use Rattle.smbd_laws.proofs.Pacing.{delivered_pace, delivered_none}
use Rattle.smbd_laws.proofs.deliveries.delivery_keeps_pace.Goals as goal

pub returns-clause-agreed : goal.returns-clause-agreed
returns-clause-agreed c = delivered_pace

pub returns-clause-before : goal.returns-clause-before
returns-clause-before c = delivered_none
