use Rattle.gdb_tables.proofs.OneIndex.{one_sized}
use Rattle.gdb_tables.proofs.laws.sized_indexes_are_one.Goals as goal

pub returns : goal.returns
returns c = one_sized
