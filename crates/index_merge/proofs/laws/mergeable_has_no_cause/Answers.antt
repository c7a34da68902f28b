use Rattle.index_merge.proofs.Causes.{no_cause}
use Rattle.index_merge.proofs.laws.mergeable_has_no_cause.Goals as goal

pub returns : goal.returns
returns c = no_cause c.merged_sizes_are_one.ensures
