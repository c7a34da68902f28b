use Rattle.gdb_tables.proofs.BuildCauses.{one_address}
use Rattle.gdb_tables.proofs.laws.address_causes_are_one.Goals as goal

pub returns : goal.returns
returns c = one_address
