use Rattle.smbd_base.proofs.FrameLaws.{credits_in-frame_bytes}
use Rattle.smbd_base.proofs.frame_laws.written_frames_grant.Goals as goal

pub returns : goal.returns
returns c = credits_in-frame_bytes
