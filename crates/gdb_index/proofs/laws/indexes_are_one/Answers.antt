use Rattle.gdb_index.proofs.LawLemmas.{indexes_are_one_lem}
use Rattle.gdb_index.proofs.laws.indexes_are_one.Goals as goal

pub returns : goal.returns
returns c = indexes_are_one_lem
