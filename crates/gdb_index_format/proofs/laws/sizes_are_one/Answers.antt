use Rattle.gdb_index_format.proofs.Sizing.{sizes_are_one_lem}
use Rattle.gdb_index_format.proofs.laws.sizes_are_one.Goals as goal

pub returns : goal.returns
returns c = sizes_are_one_lem
