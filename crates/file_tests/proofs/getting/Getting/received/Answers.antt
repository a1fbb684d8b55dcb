use Rattle.file_tests.proofs.GettingLemmas.{getting-received}
use Rattle.file_tests.proofs.getting.Getting.received.Goals as goal

pub invariant_of-self : goal.invariant_of-self
invariant_of-self c =
    let p = c.self.invariant in
    getting-received c.self.inside.machine c.received.new.self c.self.inside.asked p (c.received.ensures.after p.channel p.past p.came)
