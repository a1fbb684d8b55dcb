-- The second sweep leaves all even.
use Rattle.shared_pages.proofs.Sweeping.{swept-twice}
use Rattle.shared_pages.proofs.sweeps.sweep_twice.Goals as goal

pub returns : goal.returns
returns c = swept-twice _ _ _ _ _ _ _ _ c.look.ensures.same c.look.ensures.knows c.sweep.ensures c.sweep-2.ensures
