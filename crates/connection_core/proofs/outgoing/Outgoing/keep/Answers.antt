use Rattle.connection_core.proofs.QueueLemmas.{AreSendable-snoc}
use Rattle.connection_core.proofs.outgoing.Outgoing.keep.Goals as goal

pub invariant_of-self-2 : goal.invariant_of-self-2
invariant_of-self-2 c =
    AreSendable-snoc c.self.inside.waiting.items c.push_back.new.self.items c.args.message c.in_ok-push_back.ensures.items c.self.invariant c.requires
