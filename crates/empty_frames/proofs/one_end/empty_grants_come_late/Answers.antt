use Rattle.smbd_base.proofs.Inversion.{emits}
use Rattle.empty_frames.proofs.Granting.{few_left}
use Rattle.empty_frames.proofs.one_end.empty_grants_come_late.Goals as goal

pub returns : goal.returns
returns c = λ side limits past frame lawful legal next spoken empty free. few_left side limits past frame lawful legal (emits side limits past frame next) spoken empty free
