use Rattle.gdb_tables.proofs.OneCause.{one_size_cause}
use Rattle.gdb_tables.proofs.laws.size_causes_are_one.Goals as goal

pub returns : goal.returns
returns c = one_size_cause
