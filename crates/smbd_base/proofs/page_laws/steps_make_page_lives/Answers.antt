use Rattle.smbd_base.proofs.PoolLives.{life-of-run, state-of-run}
use Rattle.smbd_base.proofs.page_laws.steps_make_page_lives.Goals as goal

pub returns : goal.returns
returns c = record { lives = life-of-run; states = state-of-run }
