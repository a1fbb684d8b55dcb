use Rattle.joint_laws.proofs.Growing.{opened_joint}
use Rattle.joint_laws.proofs.growth.opened_ends_are_joint.Goals as goal

pub returns : goal.returns
returns c = opened_joint
