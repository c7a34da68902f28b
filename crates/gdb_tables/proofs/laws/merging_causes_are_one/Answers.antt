use Rattle.gdb_tables.proofs.OneCause.{one_merge_cause}
use Rattle.gdb_tables.proofs.laws.merging_causes_are_one.Goals as goal

pub returns : goal.returns
returns c = one_merge_cause
