use Rattle.gdb_tables.proofs.OneCause.{no_size_cause}
use Rattle.gdb_tables.proofs.laws.indexable_has_no_cause.Goals as goal

pub returns : goal.returns
returns c = no_size_cause
