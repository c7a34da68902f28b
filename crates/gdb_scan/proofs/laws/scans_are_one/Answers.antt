use Rattle.gdb_scan.proofs.OneScan.{one_scan}
use Rattle.gdb_scan.proofs.laws.scans_are_one.Goals as goal

pub returns : goal.returns
returns c = one_scan
