use Rattle.gdb_index_format.proofs.ObjectLists.{objects_are_one_lem}
use Rattle.gdb_index_format.proofs.laws.objects_are_one.Goals as goal

pub returns : goal.returns
returns c = objects_are_one_lem
