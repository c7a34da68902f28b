use Rattle.gdb_index_format.proofs.Pooling.{pool_has_each_name_lem}
use Rattle.gdb_index_format.proofs.laws.pool_has_each_name.Goals as goal

pub returns : goal.returns
returns c = pool_has_each_name_lem
