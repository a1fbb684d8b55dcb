use Rattle.smbd_base.proofs.DeliveryLemmas.{delivered-take}
use Rattle.smbd_base.proofs.laws.frames_deliver_what_they_end.Goals as goal

pub returns : goal.returns
returns c = delivered-take
