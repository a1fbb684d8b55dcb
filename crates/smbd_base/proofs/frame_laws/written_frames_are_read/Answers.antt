use Rattle.smbd_base.proofs.FrameLaws.{data_frame_of-empty, data_frame_of-filled}
use Rattle.smbd_base.proofs.frame_laws.written_frames_are_read.Goals as goal

pub returns-clause-empty : goal.returns-clause-empty
returns-clause-empty c = data_frame_of-empty

pub returns-clause-filled : goal.returns-clause-filled
returns-clause-filled c = data_frame_of-filled
