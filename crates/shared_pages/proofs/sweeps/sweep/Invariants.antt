-- The first met those before this place.
use Rattle.shared_pages.specs.Sweeps.{Swept}
use Rattle.shared_pages.proofs.sweeps.sweep.Given as goal

abbrev pub invariant-loop-i : goal.invariant-loop-i
invariant-loop-i l = Swept l.pages l.i l.initial.first l.first l.initial.rest l.rest
