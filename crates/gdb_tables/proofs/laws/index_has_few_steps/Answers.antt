use Rattle.gdb_tables.proofs.OneIndex.{few_steps}
use Rattle.gdb_tables.proofs.laws.index_has_few_steps.Goals as goal

pub returns : goal.returns
returns c = few_steps
