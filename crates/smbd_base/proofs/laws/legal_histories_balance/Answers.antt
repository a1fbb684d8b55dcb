use Rattle.smbd_base.proofs.BalanceLemmas.{balanced}
use Rattle.smbd_base.proofs.laws.legal_histories_balance.Goals as goal

pub returns : goal.returns
returns c = balanced
