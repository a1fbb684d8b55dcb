use Rattle.joint_laws.proofs.Meeting.{balances}
use Rattle.joint_laws.proofs.credits.credits_balance_and_stay.Goals as goal

pub returns : goal.returns
returns c = balances
