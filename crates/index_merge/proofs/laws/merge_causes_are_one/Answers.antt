use Rattle.index_merge.proofs.Causes.{one_cause}
use Rattle.index_merge.proofs.laws.merge_causes_are_one.Goals as goal

pub returns : goal.returns
returns c = one_cause c.merged_sizes_are_one.ensures
