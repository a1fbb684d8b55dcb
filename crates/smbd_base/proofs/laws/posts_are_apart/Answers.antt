use Rattle.smbd_base.proofs.Inversion.{no_second_post}
use Rattle.smbd_base.proofs.laws.posts_are_apart.Goals as goal

pub returns : goal.returns
returns c = no_second_post
