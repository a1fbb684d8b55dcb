use Rattle.std.proofs.Common.{rules, subst, ◌∙◌, List}
use Rattle.std.specs.List.Sorted.{IsPermutation}
use Rattle.std.proofs.lemmas.List.Sorted.{IsNonDecreasingBy-from_sort_by_key}
use Rattle.buffer_descriptor.specs.declared.descriptor.Descriptor.{Descriptor}
use Rattle.buffer_descriptor.proofs.descriptors.Descriptors.of_list.Goals as goal

pub invariant_of-result : goal.invariant_of-result
invariant_of-result c = record {
  same =
      subst (λ (xs : List Descriptor). IsPermutation xs c.sort_unstable_by_key.new.self.items) (c.in_ok-by_offset.ensures.items ∙ c.as_slice.ensures.value)
      c.sort_unstable_by_key.ensures.permutation;
  rising =
      IsNonDecreasingBy-from_sort_by_key (λ (d : Descriptor). d.offset) _ c.sort_unstable_by_key.ensures.sorted
      (λ a r q k. search rules);
}
