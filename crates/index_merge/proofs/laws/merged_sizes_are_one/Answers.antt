use Rattle.index_merge.proofs.Causes.{one_merged_size}
use Rattle.index_merge.proofs.laws.merged_sizes_are_one.Goals as goal

pub returns : goal.returns
returns c = one_merged_size c.name_lists_are_one.ensures c.sizes_are_one.ensures
