use Rattle.smbd_base.proofs.FrameLaws.{length-frame_bytes-empty, length-frame_bytes-filled}
use Rattle.smbd_base.proofs.frame_laws.written_lengths.Goals as goal

pub returns-clause-empty : goal.returns-clause-empty
returns-clause-empty c = length-frame_bytes-empty

pub returns-clause-filled : goal.returns-clause-filled
returns-clause-filled c = length-frame_bytes-filled
