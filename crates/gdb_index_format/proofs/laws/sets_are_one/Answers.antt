use Rattle.gdb_index_format.proofs.SetLists.{one_set_list}
use Rattle.gdb_index_format.proofs.laws.sets_are_one.Goals as goal

pub returns : goal.returns
returns c = one_set_list
