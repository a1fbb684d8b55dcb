use Rattle.std.proofs.Common.{List, refl, subst, sym, arith}
use Rattle.std.specs.List.Sorted.{IsNonDecreasingBy}
use Rattle.buffer_descriptor.specs.declared.descriptor.Descriptor.{Descriptor}
use Rattle.buffer_descriptor.specs.Descriptors.{AreDisjoint}
use Rattle.buffer_descriptor.proofs.IntervalLemmas.{IsScanned-skip, IsScanned-more, IsScanned-meets, IsScanned-all, AreDisjoint-by_offset}
use Rattle.buffer_descriptor.proofs.descriptors.Descriptors.is_disjoint.Goals as goal

pub loop-next-preserved-then-next-eq0 : goal.loop-next-preserved-then-next-eq0
loop-next-preserved-then-next-eq0 c = IsScanned-skip _ c.loop-next.next-index _ _ c.loop-next-test.true c.if-next-eq0.true c.loop-next.invariant

pub loop-next-preserved : goal.loop-next-preserved
loop-next-preserved c =
    IsScanned-more _ c.loop-next.next-index _ _
    (subst (λ (xs : List Descriptor). IsNonDecreasingBy (λ (d : Descriptor). d.offset) xs) (sym c.deref-next-items.ensures.value) c.self.invariant.rising)
    c.loop-next-test.true (omega arith) c.loop-next.invariant

pub returns-then-next-last : goal.returns-then-next-last
returns-then-next-last c = (
  (λ t. absurd cc),
  (λ apart. absurd (IsScanned-meets c.deref-next-items.result.now c.loop-next.next-index (record { offset = 0; token = 0; length = 0 }) c.loop-next.last c.loop-next-test.true (omega arith) (omega arith) c.loop-next.invariant
      (subst AreDisjoint (sym c.deref-next-items.ensures.value) ((AreDisjoint-by_offset _ _ c.self.invariant).1 (subst AreDisjoint (sym c.self.view_is) apart))))),
)

pub returns : goal.returns
returns c = (
  (λ t. subst AreDisjoint c.self.view_is ((AreDisjoint-by_offset _ _ c.self.invariant).0
      (subst AreDisjoint c.deref-next-items.ensures.value (IsScanned-all _ _ _ c.loop-next-test.false c.loop-next.invariant)))),
  (λ apart. refl),
)
