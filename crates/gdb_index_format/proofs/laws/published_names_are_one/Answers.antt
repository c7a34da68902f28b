use Rattle.gdb_index_format.proofs.NameLists.{published_names_are_one_lem}
use Rattle.gdb_index_format.proofs.laws.published_names_are_one.Goals as goal

pub returns : goal.returns
returns c = published_names_are_one_lem
