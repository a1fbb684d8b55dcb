use Rattle.joint_laws.proofs.Timing.{one_order, in_time}
use Rattle.joint_laws.proofs.order_of_time.joint_histories_have_one_order.Goals as goal

pub returns-clause-order : goal.returns-clause-order
returns-clause-order c = one_order

pub returns-clause-back : goal.returns-clause-back
returns-clause-back c = in_time
