use Rattle.buffer_descriptor.proofs.IntervalLemmas.{IsScanned}
use Rattle.buffer_descriptor.proofs.descriptors.Descriptors.is_disjoint.Given as goal

abbrev pub invariant-loop-next : goal.invariant-loop-next
invariant-loop-next l = IsScanned l.next-items l.next-index l.last
