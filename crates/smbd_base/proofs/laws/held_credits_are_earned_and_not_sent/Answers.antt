use Rattle.smbd_base.proofs.BalanceLemmas.{held_earned}
use Rattle.smbd_base.proofs.laws.held_credits_are_earned_and_not_sent.Goals as goal

pub returns : goal.returns
returns c = held_earned
