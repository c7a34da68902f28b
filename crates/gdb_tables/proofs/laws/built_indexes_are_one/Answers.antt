use Rattle.gdb_tables.proofs.OneIndex.{one_index}
use Rattle.gdb_tables.proofs.laws.built_indexes_are_one.Goals as goal

pub returns : goal.returns
returns c = one_index
