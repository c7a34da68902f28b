use Rattle.std.proofs.Common.{refl}
use Rattle.std.proofs.lemmas.List.Sorted.{IsNonDecreasingBy-from_sort}
use Rattle.index_merge.proofs.names.ordered.Goals as goal

pub returns : goal.returns
returns c = record {
  name = refl;
  same = c.sort.ensures.permutation;
  ascending = IsNonDecreasingBy-from_sort (λ x. x) c.sort.new.self.items c.in_ok-sort.ensures.sorted;
}
