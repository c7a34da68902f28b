use Rattle.gdb_tables.proofs.BuildCauses.{no_build_cause}
use Rattle.gdb_tables.proofs.laws.relocated_has_no_cause.Goals as goal

pub returns : goal.returns
returns c = no_build_cause
