use Rattle.end_workers.proofs.LogsHanded.{hands-on, hands-all}
use Rattle.end_workers.proofs.copy.Copy.hand.Goals as goal

pub returns-clause-on : goal.returns-clause-on
returns-clause-on c = hands-on c.args.self.now c.hand.new.self c.requires c.hand.ensures

pub returns-clause-hands : goal.returns-clause-hands
returns-clause-hands c = λ o from to log going. hands-all o from to log c.args.self.now c.hand.new.self going c.hand.ensures
