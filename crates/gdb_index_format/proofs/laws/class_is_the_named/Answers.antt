use Rattle.gdb_index_format.proofs.ObjectLists.{class_is_the_named}
use Rattle.gdb_index_format.proofs.laws.class_is_the_named.Goals as goal

pub returns : goal.returns
returns c = class_is_the_named
