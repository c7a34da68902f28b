-- The definitions compute.
use Rattle.elf_format.specs.Bytes.{le}
use Rattle.gdb_index_format.proofs.SmallLists.{one_set_of_main}
use Rattle.gdb_index_format.proofs.examples.small_sets.Goals as goal

pub returns-clause-one : goal.returns-clause-one
unfolding le
returns-clause-one c = one_set_of_main
