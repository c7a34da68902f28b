use Rattle.gdb_tables.proofs.OneCause.{one_files_cause}
use Rattle.gdb_tables.proofs.laws.files_causes_are_one.Goals as goal

pub returns : goal.returns
returns c = one_files_cause
