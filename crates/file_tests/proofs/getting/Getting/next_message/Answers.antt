use Rattle.std.proofs.Common.{rules}
use Rattle.file_tests.proofs.GettingLemmas.{getting-sent}
use Rattle.file_tests.proofs.getting.Getting.next_message.Goals as goal

pub invariant_of-self : goal.invariant_of-self
invariant_of-self g c = getting-sent c.self.inside.machine c.next_message.new.self c.self.inside.asked c.self.invariant (search rules)
