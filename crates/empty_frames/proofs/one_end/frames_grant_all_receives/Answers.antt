use Rattle.smbd_base.proofs.Inversion.{emits}
use Rattle.empty_frames.proofs.Granting.{grants_all}
use Rattle.empty_frames.proofs.one_end.frames_grant_all_receives.Goals as goal

pub returns : goal.returns
returns c = λ side limits past frame lawful legal next spoken. grants_all side limits past frame lawful legal (emits side limits past frame next) spoken
