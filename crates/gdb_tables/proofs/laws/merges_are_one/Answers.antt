use Rattle.gdb_tables.proofs.OneIndex.{one_merge}
use Rattle.gdb_tables.proofs.laws.merges_are_one.Goals as goal

pub returns : goal.returns
returns c = one_merge
