use Rattle.gdb_scan.proofs.OneCause.{one_scan_cause}
use Rattle.gdb_scan.proofs.laws.scan_causes_are_one.Goals as goal

pub returns : goal.returns
returns c = one_scan_cause
