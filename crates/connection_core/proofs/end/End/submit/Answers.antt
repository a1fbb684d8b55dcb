use Rattle.std.proofs.Common.{sym, refl}
use Rattle.connection_core.proofs.HeldLemmas.{Holds-submit}
use Rattle.connection_core.proofs.end.End.submit.Goals as goal

pub keep-requires : goal.keep-requires
keep-requires c = c.in_default.ensures.sendable

pub invariant_of-self : goal.invariant_of-self
invariant_of-self c =
    Holds-submit c.self.inside.track c.keep.new.track c.add_submit.new.self c.self.inside.outgoing c.keep.new.outgoing c.begin_next.new.outgoing c.self.inside.gather c.self.inside.prepared _
    c.args.message c.self.invariant (sym c.in_default.ensures.fault) c.in_default.ensures.sendable refl c.in-Ok.ensures.kept c.keep.ensures.track c.in-Ok.ensures.room
    c.add_submit.ensures c.begin_next.ensures
