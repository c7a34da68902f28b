use Rattle.gdb_tables.proofs.BuildCauses.{one_build_cause}
use Rattle.gdb_tables.proofs.laws.build_causes_are_one.Goals as goal

pub returns : goal.returns
returns c = one_build_cause
