use Rattle.gdb_scan.proofs.OneScan.{one_map_cause}
use Rattle.gdb_scan.proofs.laws.map_causes_are_one.Goals as goal

pub returns : goal.returns
returns c = one_map_cause
